-- How large the numbers of a listing get, and how its lines are counted one by one. Assumes nothing.
use Rattle.std.proofs.Common.{◌≡◌, ℕ, zero, suc, ◌+◌, ◌*◌, ◌<◌, ◌≤◌, ◌/◌, List, [], ◌∷◌, length, Bool, true, false, count_by, refl, ap, cond, take, get_or, ◌++◌, arith}
use Rattle.std.specs.Prelude.{nat_le}
use Rattle.std.specs.List.{sum_by}
use Rattle.std.proofs.lemmas.List.{take_more}
use Rattle.std.proofs.lemmas.List.Sums.{sum_by-append}
use Rattle.std.proofs.lemmas.Bool.{cond_both}
use Rattle.std.proofs.lemmas.Nat.{mul-le}
use Rattle.std.proofs.lemmas.List.Recursion.{is_sum_by}
use Rattle.sets.specs.Members.{size_in, size}
use Rattle.sets.specs.Sets.{bits_of}
use Rattle.sets.specs.declared.Members.{Members}
use Rattle.listing.specs.Bill.{depth, conflicts, relaxations, sizes, bound}
use Rattle.listing.specs.Lines.{most_lines}
use Rattle.listing.specs.declared.lines.Line.{Line}
use Rattle.listing.specs.declared.lines.Line.TheVariants.{Conflict, Relaxation}

-- a set has at most as many requests as there are places
size_in_most : (k n : ℕ) → size_in k n ≤ k
size_in_most zero n = omega arith
size_in_most (suc k) n = omega (arith, size_in_most k (n / 2))

pub size_most : (n : ℕ) → size n ≤ 32
unfolding size
size_most n = size_in_most 32 n

-- so sizes add up to no more than that for each line
pub sizes_most : (lines : List Line) → sizes lines ≤ 32 * length lines
sizes_most [] = omega arith
sizes_most (Conflict c ∷ xs) = omega (arith, size_most c.bits, sizes_most xs)
sizes_most (Relaxation r ∷ xs) = omega (arith, sizes_most xs)

-- each line is a conflict or a relaxation
pub kinds : (lines : List Line) → relaxations lines + conflicts lines ≡ length lines
kinds [] = omega arith
kinds (Conflict c ∷ xs) = omega (arith, kinds xs)
kinds (Relaxation r ∷ xs) = omega (arith, kinds xs)

-- no set within 32 requests is halved more than five times in a row
at_most_or : (b : Bool) (here deeper : ℕ) → here ≤ 5 → deeper ≤ 5 → cond b here deeper ≤ 5
at_most_or b here deeper p q = cond_both b here deeper (λ d. d ≤ 5) (λ e. p) (λ e. q)

depth_most : (width : ℕ) → depth width ≤ 5
depth_most width =
    at_most_or (nat_le width 1) 0 _ (omega arith)
    (at_most_or (nat_le width 2) 1 _ (omega arith)
    (at_most_or (nat_le width 4) 2 _ (omega arith)
    (at_most_or (nat_le width 8) 3 _ (omega arith) (at_most_or (nat_le width 16) 4 5 (omega arith) (omega arith)))))

-- the bills of at most 512 lines
pub bills_most : (width : ℕ) (lines : List Line) → length lines ≤ most_lines → 2 * depth width * sizes lines ≤ 163840
bills_most width lines few =
    let each : 2 * depth width ≤ 10 = omega (arith, depth_most width) in
    let all : sizes lines ≤ 16384 = omega (arith, sizes_most lines) in mul-le (2 * depth width) (sizes lines) 10 16384 each all

-- and the bound
pub bound_most : (width : ℕ) (lines : List Line) → length lines ≤ most_lines → bound width lines ≤ 164353
bound_most width lines few = omega (arith, kinds lines, bills_most width lines few)

-- whether a line is a conflict
abbrev pub is_conflict : Line → Bool
is_conflict (Conflict c) = true
is_conflict (Relaxation r) = false

-- and whether it is a relaxation
abbrev pub is_relaxation : Line → Bool
is_relaxation (Conflict c) = false
is_relaxation (Relaxation r) = true

-- to count by either is to count the conflicts, and the relaxations
conflict_more : (x : Line) (xs : List Line) → conflicts (x ∷ xs) ≡ cond (is_conflict x) 1 0 + conflicts xs
conflict_more (Conflict c) xs = omega arith
conflict_more (Relaxation r) xs = omega arith

relaxation_more : (x : Line) (xs : List Line) → relaxations (x ∷ xs) ≡ cond (is_relaxation x) 1 0 + relaxations xs
relaxation_more (Conflict c) xs = omega arith
relaxation_more (Relaxation r) xs = omega arith

pub count_conflicts : (lines : List Line) → conflicts lines ≡ count_by is_conflict lines
count_conflicts lines = is_sum_by conflicts (λ x. cond (is_conflict x) 1 0) refl conflict_more lines

pub count_relaxations : (lines : List Line) → relaxations lines ≡ count_by is_relaxation lines
count_relaxations lines = is_sum_by relaxations (λ x. cond (is_relaxation x) 1 0) refl relaxation_more lines

-- what a line adds to the sizes
abbrev pub size_of : Line → ℕ
size_of (Conflict c) = size (bits_of c)
size_of (Relaxation r) = 0

size_more : (x : Line) (xs : List Line) → sizes (x ∷ xs) ≡ size_of x + sizes xs
size_more (Conflict c) xs = refl
size_more (Relaxation r) xs = omega arith

pub size_other : (x : Line) → ((c : Members 1) → x ≡ Conflict c → ⊥) → size_of x ≡ 0
size_other (Conflict c) other = absurd (other c refl)
size_other (Relaxation r) other = refl

-- the sizes of some lines, and of one more
pub sizes_more : (lines : List Line) (i : ℕ) (d : Line) → i < length lines → sizes (take (i + 1) lines) ≡ sizes (take i lines) + size_of (get_or lines i d)
sizes_more lines i d low =
    let all : (xs : List Line) → sizes xs ≡ sum_by size_of xs = is_sum_by sizes size_of refl size_more in
    let last : sum_by size_of (take i lines ++ get_or lines i d ∷ []) ≡ sum_by size_of (take i lines) + sum_by size_of (get_or lines i d ∷ []) =
    sum_by-append size_of (take i lines) (get_or lines i d ∷ [])
    in
    let longer : take (i + 1) lines ≡ take i lines ++ get_or lines i d ∷ [] = take_more lines i d low in
    let one : sum_by size_of (get_or lines i d ∷ []) ≡ size_of (get_or lines i d) = omega arith in
    omega (arith, all (take (i + 1) lines), all (take i lines), ap (sum_by size_of) longer, last, one)
