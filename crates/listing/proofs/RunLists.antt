-- Lists with one more element at the end: where they split, what was listed first, and what the bound grows by. Assumes nothing.
use Rattle.std.proofs.Common.{◌≡◌, ℕ, ◌+◌, ◌<◌, List, [], ◌∷◌, ◌++◌, length, Some, None, ◌⊎◌, inl, inr, refl, sym, ap, ap₂, ◌∙◌, arith}
use Rattle.std.specs.Prelude.{IfSome, slice_get}
use Rattle.std.proofs.lemmas.List.{length_push, get_or_append_left, get_or_push}
use Rattle.std.proofs.lemmas.Option.{slice_get-get_or}
use Rattle.sets.specs.Members.{size}
use Rattle.sets.specs.Sets.{bits_of}
use Rattle.listing.specs.Bill.{depth, bill, conflicts, relaxations, bills, bound}
use Rattle.listing.specs.Lines.{conflict, relaxation}
use Rattle.listing.specs.declared.lines.Line.{Line}
use Rattle.listing.specs.declared.lines.Line.TheVariants.{Conflict, Relaxation}
use Rattle.listing.specs.Listings.{first_conflict}
use Rattle.listing.proofs.Bills.{bills_are}

-- a list with one more splits at the last element, or where it split before
pub split_push : {A : Type 0} (xs earlier later : List A) (x y : A) → xs ++ x ∷ [] ≡ earlier ++ (y ∷ later) → ((earlier ≡ xs) × (y ≡ x)) ⊎ ((l : List A) × (xs ≡ earlier ++ (y ∷ l)))
split_push [] [] later x y e = inl (refl, cc)
split_push [] (a ∷ []) later x y e = absurd (cc)
split_push [] (a ∷ (b ∷ earlier)) later x y e = absurd (cc)
split_push (a ∷ xs) [] later x y e = inr (xs, cc)
split_push (a ∷ xs) (b ∷ earlier) later x y e =
    let rest : xs ++ x ∷ [] ≡ earlier ++ (y ∷ later) = cc in
    let first : a ≡ b = cc in
    elim (split_push xs earlier later x y rest) [
      | inl last ↦ inl (ap₂ (λ c cs. c ∷ cs) (sym first) last.0, last.1)
      | inr (l, before) ↦ inr (l, ap₂ (λ c cs. c ∷ cs) first before)
    ]

-- its elements are those before, and the last
pub get_push : {A : Type 0} (xs : List A) (x : A) (i : ℕ) → i < length xs → slice_get (xs ++ x ∷ []) i ≡ slice_get xs i
get_push xs x i low =
    let lower : i < length (xs ++ x ∷ []) = omega (arith, length_push xs x) in
    slice_get-get_or (xs ++ x ∷ []) i x lower ∙ ap (λ y. Some y) (get_or_append_left xs (x ∷ []) x i low) ∙ sym (slice_get-get_or xs i x low)

pub get_last : {A : Type 0} (xs : List A) (x : A) (i : ℕ) → length xs ≡ i → slice_get (xs ++ x ∷ []) i ≡ Some x
get_last xs x i end =
    let low : i < length (xs ++ x ∷ []) = omega (arith, length_push xs x) in slice_get-get_or (xs ++ x ∷ []) i x low ∙ ap (λ y. Some y) (get_or_push xs x x i end)

-- what holds of the conflict that is listed first holds of it with one line more
pub first_push : (P : ℕ → Type 0) (lines : List Line) (x : Line) → IfSome (first_conflict lines) P → (first_conflict lines ≡ None → IfSome (first_conflict (x ∷ [])) P) → IfSome (first_conflict (lines ++ x ∷ [])) P
first_push P [] x there new = new refl
first_push P (Conflict c ∷ lines) x there new = there
first_push P (Relaxation r ∷ lines) x there new = first_push P lines x there new

-- what a line adds to the bound
pub cost : (d : ℕ) → Line → ℕ
cost d (Conflict c) = 1 + bill d (size (bits_of c))
cost d (Relaxation r) = 1

costs_push : (d : ℕ) (lines : List Line) (x : Line)
    → relaxations (lines ++ x ∷ []) + conflicts (lines ++ x ∷ []) + bills d (lines ++ x ∷ []) ≡ relaxations lines + conflicts lines + bills d lines + cost d x
unfolding cost
costs_push d [] (Conflict c) = omega arith
costs_push d [] (Relaxation r) = omega arith
costs_push d (Conflict c ∷ lines) x = omega (arith, costs_push d lines x)
costs_push d (Relaxation r ∷ lines) x = omega (arith, costs_push d lines x)

bound_push : (width : ℕ) (lines : List Line) (x : Line) → bound width (lines ++ x ∷ []) ≡ bound width lines + cost (depth width) x
bound_push width lines x = omega (arith, costs_push (depth width) lines x, bills_are (depth width) lines, bills_are (depth width) (lines ++ x ∷ []))

pub bound_conflict : (width : ℕ) (lines : List Line) (s : ℕ) → bound width (lines ++ conflict s ∷ []) ≡ bound width lines + 1 + bill (depth width) (size s)
unfolding cost
bound_conflict width lines s = omega (arith, bound_push width lines (conflict s))

pub bound_relaxation : (width : ℕ) (lines : List Line) (s : ℕ) → bound width (lines ++ relaxation s ∷ []) ≡ bound width lines + 1
unfolding cost
bound_relaxation width lines s = omega (arith, bound_push width lines (relaxation s))
