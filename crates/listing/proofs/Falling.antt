-- Relaxations that were foremost when they were listed fall. Assumes nothing.
use Rattle.std.proofs.Common.{◌≡◌, ℕ, Bool, false, ◌||◌, List, [], ◌∷◌, ◌++◌, append_assoc, refl, sym, ap, ◌∙◌, subst, arith}
use Rattle.std.proofs.Math.Bool.{or_assoc}
use Rattle.std.specs.List.{All, AllPairs}
use Rattle.std.proofs.lemmas.Bool.{or_parts, false_from_ne_true, true≢false}
use Rattle.std.proofs.lemmas.List.Elements.{All-nil, All-cons}
use Rattle.std.proofs.lemmas.List.Kept.{AllPairs-cons}
use Rattle.oracle.specs.Meaning.{Downward}
use Rattle.sets.specs.Requests.{Part, part}
use Rattle.sets.specs.Sets.{bits_of}
use Rattle.sets.proofs.Parts.{part_refl, true_part}
use Rattle.listing.specs.LineLaws.{WereForemost, ForemostFall, LineLaws}
use Rattle.listing.specs.Lines.{relaxation, explores, explored, IsUnexplored, AreTrue}
use Rattle.listing.specs.Orders.{IsForemost}
use Rattle.listing.specs.declared.lines.Line.{Line}
use Rattle.listing.specs.declared.lines.Line.TheVariants.{Conflict, Relaxation}
use Rattle.listing.proofs.LineFacts.{maximal_line, line_facts}
use Rattle.listing.specs.Listings.{Falls, RelaxationsFall, UnlistedFollow}

-- what holds of each element by where the list is cut, and of each two by where it is cut twice
all_by_cuts : (P : Line → Type 0) (lines : List Line) → ((earlier later : List Line) (x : Line) → lines ≡ earlier ++ (x ∷ later) → P x) → All P lines
all_by_cuts P [] f = All-nil P
all_by_cuts P (x ∷ xs) f = All-cons P x xs (f [] xs x refl) (all_by_cuts P xs (λ earlier later y e. f (x ∷ earlier) later y (ap (λ ys. x ∷ ys) e)))

pairs_by_cuts : (R : Line → Line → Type 0) (lines : List Line)
    → ((earlier between later : List Line) (x y : Line) → lines ≡ earlier ++ (x ∷ (between ++ (y ∷ later))) → R x y) → AllPairs R lines
pairs_by_cuts R [] f = λ i j d less within. absurd (omega arith)
pairs_by_cuts R (x ∷ xs) f =
    AllPairs-cons R x xs
    (all_by_cuts (R x) xs (λ between later y e. f [] between later x y (ap (λ ys. x ∷ ys) e)))
    (pairs_by_cuts R xs (λ earlier between later y z e. f (x ∷ earlier) between later y z (ap (λ ys. x ∷ ys) e)))

-- what is explored by two lists of lines in turn
explored_append : (xs ys : List Line) (s : ℕ) → explored (xs ++ ys) s ≡ (explored xs s || explored ys s)
explored_append [] ys s = refl
explored_append (x ∷ xs) ys s = ap (λ b. explores x s || b) (explored_append xs ys s) ∙ sym (or_assoc (explores x s) (explored xs s) (explored ys s))

-- what is left by some lines was left by those before
pub left_before : (earlier later : List Line) (s : ℕ) → explored (earlier ++ later) s ≡ false → (explored earlier s ≡ false) × (explored later s ≡ false)
left_before earlier later s e = or_parts (explored earlier s) (explored later s) (sym (explored_append earlier later s) ∙ e)

-- what is no part of a set is not that set
not_part : (t s : ℕ) → part t s ≡ false → t ≡ s → ⊥
not_part t s apart same = true≢false (sym (true_part t s (subst (Part t) same (part_refl t))) ∙ apart)

-- of two relaxations the first was foremost while the second was not yet explored, and it explores itself
one_falls : (before : ℕ → ℕ → Bool) (width : ℕ) (lines : List Line) → WereForemost before width lines → (earlier between later : List Line) (x y : Line)
    → lines ≡ earlier ++ (x ∷ (between ++ (y ∷ later))) → Falls before x y
one_falls before width lines were earlier between later (Conflict c) y e = tt
one_falls before width lines were earlier between later (Relaxation r) (Conflict c) e = tt
one_falls before width lines were earlier between later (Relaxation r) (Relaxation q) e =
    let first : IsForemost before (IsUnexplored width earlier) (bits_of r) = were earlier (between ++ (Relaxation q ∷ later)) (bits_of r) e in
    let second : IsForemost before (IsUnexplored width (earlier ++ (Relaxation r ∷ between))) (bits_of q) =
    were (earlier ++ (Relaxation r ∷ between)) later (bits_of q) (e ∙ sym (append_assoc earlier (Relaxation r ∷ between) (Relaxation q ∷ later)))
    in
    let left = left_before earlier (Relaxation r ∷ between) (bits_of q) second.0.1 in
    let apart : part (bits_of q) (bits_of r) ≡ false = (or_parts (part (bits_of q) (bits_of r)) (explored between (bits_of q)) left.1).0 in
    first.1 (bits_of q) (second.0.0, left.0) (not_part (bits_of q) (bits_of r) apart)

relaxations_fall : (before : ℕ → ℕ → Bool) (width : ℕ) (lines : List Line) → WereForemost before width lines → RelaxationsFall before lines
relaxations_fall before width lines were = pairs_by_cuts (Falls before) lines (one_falls before width lines were)

-- a set that no line explores comes after each listed relaxation
one_follows : (before : ℕ → ℕ → Bool) (width : ℕ) (lines : List Line) (m : ℕ) → WereForemost before width lines → IsUnexplored width lines m
    → (earlier later : List Line) (x : Line) → lines ≡ earlier ++ (x ∷ later) → Falls before x (relaxation m)
one_follows before width lines m were unexplored earlier later (Conflict c) e = tt
one_follows before width lines m were unexplored earlier later (Relaxation r) e =
    let first : IsForemost before (IsUnexplored width earlier) (bits_of r) = were earlier later (bits_of r) e in
    let left = left_before earlier (Relaxation r ∷ later) m (sym (ap (λ xs. explored xs m) e) ∙ unexplored.1) in
    let apart : part m (bits_of r) ≡ false = (or_parts (part m (bits_of r)) (explored later m) left.1).0 in
    first.1 m (unexplored.0, left.0) (not_part m (bits_of r) apart)

unlisted_follow : (before : ℕ → ℕ → Bool) (width : ℕ) (fit : ℕ → Bool) (lines : List Line) → Downward width fit → AreTrue width fit lines
    → WereForemost before width lines → UnlistedFollow before width fit lines
unlisted_follow before width fit lines down are were m maximal unlisted =
    let left : explored lines m ≡ false = false_from_ne_true (explored lines m) (λ e. unlisted (maximal_line width fit lines m down are maximal e)) in
    all_by_cuts (λ x. Falls before x (relaxation m)) lines (one_follows before width lines m were (maximal.0.0, left))

foremost_fall : ForemostFall
foremost_fall before width fit lines down are were = (relaxations_fall before width lines were, unlisted_follow before width fit lines down are were)

pub line_laws : LineLaws
line_laws = (line_facts.0, line_facts.1, line_facts.2, foremost_fall)
