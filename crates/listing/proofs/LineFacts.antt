-- What true lines say of the foremost unexplored set and of what is left. Assumes nothing.
use Rattle.std.proofs.Common.{◌≡◌, ℕ, zero, suc, ◌^◌, ◌<◌, Bool, true, false, not, ◌&&◌, ◌⊎◌, List, [], ◌∷◌, refl, sym, ap, ◌∙◌, subst, inl, inr, arith}
use Rattle.std.specs.List.{Contains}
use Rattle.std.proofs.lemmas.Bool.{cases_Bool, cases_eq, and_parts, and_from, or_cases, false_from_ne_true, true_from_ne_false, not-true, not-false, not_from_false, true≢false}
use Rattle.std.proofs.lemmas.List.Elements.{All-contains, Contains-append_left, Contains-append_right, Contains-push}
use Rattle.std.proofs.lemmas.List.Recursion.{or_at}
use Rattle.oracle.specs.Meaning.{Downward}
use Rattle.sets.specs.Requests.{Within, Part, part}
use Rattle.sets.specs.SetLaws.{PartBlamesLess}
use Rattle.sets.specs.Sets.{bits_of}
use Rattle.sets.proofs.Parts.{part_refl, part_trans, part_below, part_true, true_part}
use Rattle.sets.proofs.Weights.{set_laws}
use Rattle.listing.specs.LineLaws.{SeedIsMaximal, ResultIsNew, NothingLeftIsWhole}
use Rattle.listing.specs.Lines.{conflict, relaxation, explores, explored, NothingLeft, IsTrueLine, AreTrue, IsWhole}
use Rattle.listing.specs.Words.{IsConflict, IsMinimal, IsRelaxation, IsMaximal}
use Rattle.listing.specs.declared.lines.Line.{Line}
use Rattle.listing.specs.declared.lines.Line.TheVariants.{Conflict, Relaxation}

-- a set is explored by some line, and by each that explores it
by_some : (lines : List Line) (s : ℕ) → explored lines s ≡ true → (x : Line) × Contains lines x × (explores x s ≡ true)
by_some [] s e = absurd (true≢false (sym e))
by_some (x ∷ xs) s e =
    elim (or_cases (explores x s) (explored xs s) e) [
      | inl here ↦ (x, Contains-append_left (x ∷ []) xs x (Contains-push [] x), here)
      | inr later ↦ let rest = by_some xs s later in (rest.0, Contains-append_right (x ∷ []) xs rest.0 rest.1, rest.2)
    ]

by_each : (lines : List Line) (x : Line) (s : ℕ) → Contains lines x → explores x s ≡ true → explored lines s ≡ true
by_each lines x s there e =
    or_at (λ xs. explored xs s) (λ y. explores y s) refl (λ y ys. refl) lines there.0 x there.1 (ap (λ y. explores y s) there.2 ∙ e)

pub conflict_explores : (lines : List Line) (c s : ℕ) → Contains lines (conflict c) → Part c s → explored lines s ≡ true
conflict_explores lines c s there p = by_each lines (conflict c) s there (true_part c s p)

pub relaxation_explores : (lines : List Line) (r s : ℕ) → Contains lines (relaxation r) → Part s r → explored lines s ≡ true
relaxation_explores lines r s there p = by_each lines (relaxation r) s there (true_part s r p)

-- a listed conflict that is part of a set, and a listed relaxation of which it is part, as true lines have them
abbrev ByConflict : (width : ℕ) (fit : ℕ → Bool) (lines : List Line) (s : ℕ) → Type 0
ByConflict width fit lines s = (c : ℕ) × Contains lines (conflict c) × IsConflict width fit c × Part c s

abbrev ByRelaxation : (width : ℕ) (fit : ℕ → Bool) (lines : List Line) (s : ℕ) → Type 0
ByRelaxation width fit lines s = (r : ℕ) × Contains lines (relaxation r) × IsRelaxation width fit r × Part s r

by_line : (width : ℕ) (fit : ℕ → Bool) (lines : List Line) (s : ℕ) (x : Line) → Contains lines x → IsTrueLine width fit x → explores x s ≡ true
    → ByConflict width fit lines s ⊎ ByRelaxation width fit lines s
by_line width fit lines s (Conflict c) there is e = inl (bits_of c, there, is, part_true (bits_of c) s e)
by_line width fit lines s (Relaxation r) there is e = inr (bits_of r, there, is, part_true s (bits_of r) e)

pub explored_cases : (width : ℕ) (fit : ℕ → Bool) (lines : List Line) (s : ℕ) → AreTrue width fit lines → explored lines s ≡ true
    → ByConflict width fit lines s ⊎ ByRelaxation width fit lines s
explored_cases width fit lines s are e =
    let some = by_some lines s e in by_line width fit lines s some.0 some.1 (All-contains (IsTrueLine width fit) lines some.0 are some.1) some.2

-- no fit set contains a listed conflict, and no unfit one is part of a listed relaxation
fit_by : (width : ℕ) (fit : ℕ → Bool) (lines : List Line) (s : ℕ) → Downward width fit → AreTrue width fit lines → Within width s → fit s ≡ true
    → explored lines s ≡ true → ByRelaxation width fit lines s
fit_by width fit lines s down are small fits e =
    elim (explored_cases width fit lines s are e) [
      | inl (c, there, is, p) ↦ absurd (true≢false (sym (down c s small p fits) ∙ is.1))
      | inr by ↦ by
    ]

unfit_by : (width : ℕ) (fit : ℕ → Bool) (lines : List Line) (s : ℕ) → Downward width fit → AreTrue width fit lines → fit s ≡ false
    → explored lines s ≡ true → ByConflict width fit lines s
unfit_by width fit lines s down are fails e =
    elim (explored_cases width fit lines s are e) [
      | inl by ↦ by
      | inr (r, there, is, p) ↦ absurd (true≢false (sym (down s r is.0 p is.1) ∙ fails))
    ]

-- a set that contains the foremost unexplored set properly goes before it, so it is explored, and by no relaxation
seed_is_maximal : SeedIsMaximal
seed_is_maximal before width fit lines s order down are first fits = (
  (first.0.0, fits),
  λ t small proper.
      false_from_ne_true (fit t) (λ whole.
      elim (cases_Bool (explored lines t)) [
        | inl e ↦ let by = fit_by width fit lines t down are small whole e in
            true≢false (sym (relaxation_explores lines by.0 s by.1 (part_trans s t by.0 proper.0 by.3)) ∙ first.0.1)
        | inr e ↦
            let ahead : before s t ≡ true = first.1 t (small, e) (λ same. proper.1 (sym same)) in
            true≢false (sym (order.whole_first s t small proper) ∙ order.one_way s t ahead)
      ]),
)

result_is_new : ResultIsNew
result_is_new width lines s unexplored = (
  λ there. true≢false (sym (relaxation_explores lines s s there (part_refl s)) ∙ unexplored.1),
  λ t p there. true≢false (sym (conflict_explores lines t s there p) ∙ unexplored.1),
)

-- the least and the greatest number below n of which something holds, or none
least_below : (p : ℕ → Bool) (n : ℕ) → ((m : ℕ) × (m < n) × (p m ≡ true) × ((t : ℕ) → t < m → p t ≡ false)) ⊎ ((t : ℕ) → t < n → p t ≡ false)
least_below p zero = inr (λ t less. absurd (omega arith))
least_below p (suc n) =
    elim (least_below p n) [
      | inl (m, less, e, none) ↦ inl (m, omega arith, e, none)
      | inr none ↦ elim (cases_Bool (p n)) [
        | inl e ↦ inl (n, omega arith, e, none)
        | inr e ↦ inr (λ t less. elim (cases_eq t n) [ inl last ↦ ap p last ∙ e | inr other ↦ none t (omega arith) ])
      ]
    ]

greatest_below : (p : ℕ → Bool) (n : ℕ)
    → ((m : ℕ) × (m < n) × (p m ≡ true) × ((t : ℕ) → m < t → t < n → p t ≡ false)) ⊎ ((t : ℕ) → t < n → p t ≡ false)
greatest_below p zero = inr (λ t less. absurd (omega arith))
greatest_below p (suc n) =
    elim (cases_Bool (p n)) [
      | inl e ↦ inl (n, omega arith, e, λ t more less. absurd (omega arith))
      | inr e ↦ elim (greatest_below p n) [
        | inl (m, less, holds, none) ↦
            inl (m, omega arith, holds, λ t more below. elim (cases_eq t n) [ inl last ↦ ap p last ∙ e | inr other ↦ none t more (omega arith) ])
        | inr none ↦ inr (λ t less. elim (cases_eq t n) [ inl last ↦ ap p last ∙ e | inr other ↦ none t (omega arith) ])
      ]
    ]

-- a proper part is less as a number
proper_below : PartBlamesLess
proper_below = set_laws.7

-- of two tests of which one holds, and not both, the other does not
other_fails : (x y : Bool) → x ≡ true → (x && y) ≡ false → y ≡ false
other_fails x y e none = false_from_ne_true y (λ f. true≢false (sym (and_from x y e f) ∙ none))

-- an unfit set contains a minimal conflict: the least of its unfit parts
minimal_in : (width : ℕ) (fit : ℕ → Bool) (s : ℕ) → Within width s → fit s ≡ false → (m : ℕ) × IsMinimal width fit m × Part m s
minimal_in width fit s small fails =
    let test : ℕ → Bool = λ t. part t s && not (fit t) in
    elim (least_below test (suc s)) [
      | inr none ↦
          let itself : test s ≡ true = and_from (part s s) (not (fit s)) (true_part s s (part_refl s)) (not_from_false (fit s) fails) in
          absurd (true≢false (sym itself ∙ none s (omega arith)))
      | inl (m, less, e, none) ↦
          let both = and_parts (part m s) (not (fit m)) e in
          let p : Part m s = part_true m s both.0 in
          let unfit : fit m ≡ false = not-true (fit m) both.1 in
          let proper : (t : ℕ) → Part t m × (t ≡ m → ⊥) → fit t ≡ true =
          λ t q. let fewer : t < m = proper_below t m q.0 q.1 in
          not-false (fit t) (other_fails (part t s) (not (fit t)) (true_part t s (part_trans t m s q.0 p)) (none t fewer))
          in (m, ((part_below width m s p small, unfit), proper), p)
    ]

-- a fit set is part of a maximal relaxation: the greatest of the fit sets that contain it
maximal_over : (width : ℕ) (fit : ℕ → Bool) (s : ℕ) → Within width s → fit s ≡ true → (m : ℕ) × IsMaximal width fit m × Part s m
maximal_over width fit s small fits =
    let test : ℕ → Bool = λ t. part s t && fit t in
    elim (greatest_below test (2 ^ width)) [
      | inr none ↦
          let itself : test s ≡ true = and_from (part s s) (fit s) (true_part s s (part_refl s)) fits in
          absurd (true≢false (sym itself ∙ none s small))
      | inl (m, less, e, none) ↦
          let both = and_parts (part s m) (fit m) e in
          let p : Part s m = part_true s m both.0 in
          let proper : (t : ℕ) → Within width t → Part m t × (m ≡ t → ⊥) → fit t ≡ false =
          λ t below q. let more : m < t = proper_below m t q.0 q.1 in
          other_fails (part s t) (fit t) (true_part s t (part_trans s m t p q.0)) (none t more below)
          in (m, ((less, both.1), proper), p)
    ]

-- a minimal conflict and a maximal relaxation are explored by no line but their own
minimal_line : (width : ℕ) (fit : ℕ → Bool) (lines : List Line) (m : ℕ) → Downward width fit → AreTrue width fit lines → IsMinimal width fit m
    → explored lines m ≡ true → Contains lines (conflict m)
minimal_line width fit lines m down are minimal e =
    let by = unfit_by width fit lines m down are minimal.0.1 e in
    elim (cases_eq by.0 m) [
      | inl same ↦ subst (λ c. Contains lines (conflict c)) same by.1
      | inr other ↦ absurd (true≢false (sym (minimal.1 by.0 (by.3, other)) ∙ by.2.1))
    ]

pub maximal_line : (width : ℕ) (fit : ℕ → Bool) (lines : List Line) (m : ℕ) → Downward width fit → AreTrue width fit lines → IsMaximal width fit m
    → explored lines m ≡ true → Contains lines (relaxation m)
maximal_line width fit lines m down are maximal e =
    let by = fit_by width fit lines m down are maximal.0.0 maximal.0.1 e in
    elim (cases_eq m by.0) [
      | inl same ↦ subst (λ r. Contains lines (relaxation r)) (sym same) by.1
      | inr other ↦ absurd (true≢false (sym by.2.1 ∙ maximal.1 by.0 by.2.0 (by.3, other)))
    ]

-- where nothing is left, each of them is listed; and where each is listed, nothing is left, since every set contains one or is part of one
whole_if_nothing : (width : ℕ) (fit : ℕ → Bool) (lines : List Line) → Downward width fit → AreTrue width fit lines → NothingLeft width lines → IsWhole width fit lines
whole_if_nothing width fit lines down are nothing =
    let gone : (s : ℕ) → Within width s → explored lines s ≡ true = λ s small. true_from_ne_false (explored lines s) (λ e. nothing s (small, e)) in (
      λ s minimal. minimal_line width fit lines s down are minimal (gone s minimal.0.0),
      λ s maximal. maximal_line width fit lines s down are maximal (gone s maximal.0.0),
    )

nothing_if_whole : (width : ℕ) (fit : ℕ → Bool) (lines : List Line) → IsWhole width fit lines → NothingLeft width lines
nothing_if_whole width fit lines whole s unexplored =
    elim (cases_Bool (fit s)) [
      | inl fits ↦ let by = maximal_over width fit s unexplored.0 fits in
          true≢false (sym (relaxation_explores lines by.0 s (whole.1 by.0 by.1) by.2) ∙ unexplored.1)
      | inr fails ↦ let by = minimal_in width fit s unexplored.0 fails in
          true≢false (sym (conflict_explores lines by.0 s (whole.0 by.0 by.1) by.2) ∙ unexplored.1)
    ]

nothing_left_is_whole : NothingLeftIsWhole
nothing_left_is_whole width fit lines down are = (whole_if_nothing width fit lines down are, nothing_if_whole width fit lines)

-- the laws of what is left
pub line_facts : SeedIsMaximal × ResultIsNew × NothingLeftIsWhole
line_facts = (seed_is_maximal, result_is_new, nothing_left_is_whole)
