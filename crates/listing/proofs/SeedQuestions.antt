-- A set between two others is explored by no line exactly where its free part settles the question of the lines. Assumes nothing.
use Rattle.std.proofs.Common.{◌≡◌, ℕ, Bool, true, false, cond, ◌⊎◌, List, [], ◌∷◌, Some, None, sym, refl, ap, ◌∙◌, inl, inr}
use lib.Bits.{bit_and, bit_or}
use Rattle.std.specs.List.{AllByRecursion, cons_option}
use Rattle.std.proofs.lemmas.Bool.{cases_Bool, or_from, or_parts, true≢false, false≢true, false_from_ne_true}
use Rattle.std.proofs.lemmas.List.Elements.{All-from_recursion, recursion_from_All}
use Rattle.sets.specs.Members.{none, minus}
use Rattle.sets.specs.Requests.{Part, part, names}
use Rattle.sets.specs.Sets.{bits_of, set_of}
use Rattle.sets.proofs.Parts.{part_trans, part_antisym, part_or, part_or_l, part_or_r, part_true, true_part}
use Rattle.sets.proofs.Weights.{part_names, set_laws}
use Rattle.listing.specs.Lines.{explored}
use Rattle.listing.specs.Settling.{conflicts_of, drops_of, Avoids, Meets, Settles, IsBetween, IsSought}
use Rattle.listing.specs.declared.lines.Line.{Line}
use Rattle.listing.specs.declared.lines.Line.TheVariants.{Conflict, Relaxation}
use Rattle.listing.proofs.SettleBits.{both_named, named_both, either_named, named_first, named_second, first_named, named_minus, nothing_common, common_not_none}

-- what holds of all of a list that begins with an element if a test passes
first_if : {X : Type 0} (P : X → Type 0) (b : Bool) (y : X) (ys : List X) → AllByRecursion P (cons_option (cond b (Some y) None) ys) → (b ≡ true → P y) × AllByRecursion P ys
first_if P true y ys h = (λ e. h.0, h.1)
first_if P false y ys h = (λ e. absurd (false≢true e), h)

if_first : {X : Type 0} (P : X → Type 0) (b : Bool) (y : X) (ys : List X) → (b ≡ true → P y) → AllByRecursion P ys → AllByRecursion P (cons_option (cond b (Some y) None) ys)
if_first P true y ys f h = (f refl, h)
if_first P false y ys f h = h

-- t is the kept requests and a part of the free ones
module _ (kept free x t : ℕ) (whole : t ≡ bit_or kept x) (inside : Part x free) (apart : bit_and kept free ≡ none) where
  kept_there : (q : ℕ) → names kept q ≡ true → names t q ≡ true
  kept_there q h = ap (λ n. names n q) whole ∙ named_first kept x q h

  rest_there : (q : ℕ) → names x q ≡ true → names t q ≡ true
  rest_there q h = ap (λ n. names n q) whole ∙ named_second kept x q h

  there_cases : (q : ℕ) → names t q ≡ true → (names kept q ≡ true) ⊎ (names x q ≡ true)
  there_cases q h = either_named kept x q (ap (λ n. names n q) (sym whole) ∙ h)

  -- a conflict is part of it exactly where it lies within all of these, and cut to the free requests in their part
  conflict_below : (c : ℕ) → Part c t → Part c (bit_or kept free)
  conflict_below c p =
      set_laws.2 c (bit_or kept free) (λ q h.
      elim (there_cases q (part_names c t p q h)) [
        | inl k ↦ named_first kept free q k
        | inr y ↦ named_second kept free q (part_names x free inside q y)
      ])

  conflict_cut : (c : ℕ) → Part c t → Part (bit_and c free) x
  conflict_cut c p =
      set_laws.2 (bit_and c free) x (λ q h.
      let both = both_named c free q h in
      elim (there_cases q (part_names c t p q both.0)) [ inl k ↦ absurd (common_not_none kept free q apart k both.1) | inr y ↦ y ])

  cut_conflict : (c : ℕ) → Part c (bit_or kept free) → Part (bit_and c free) x → Part c t
  cut_conflict c p cut =
      set_laws.2 c t (λ q h.
      elim (either_named kept free q (part_names c (bit_or kept free) p q h)) [
        | inl k ↦ kept_there q k
        | inr f ↦ rest_there q (part_names (bit_and c free) x cut q (named_both c free q h f))
      ])

  -- and it is part of a relaxation exactly where this contains the kept requests and leaves out none of the part
  relaxation_above : (r : ℕ) → Part t r → Part kept r
  relaxation_above r p = set_laws.2 kept r (λ q h. part_names t r p q (kept_there q h))

  relaxation_meets : (r : ℕ) → Part t r → bit_and (minus free r) x ≡ none
  relaxation_meets r p =
      nothing_common (minus free r) x (λ q h y.
      true≢false (sym (part_names t r p q (rest_there q y)) ∙ (first_named free r q h).1))

  meets_relaxation : (r : ℕ) → Part kept r → bit_and (minus free r) x ≡ none → Part t r
  meets_relaxation r above nothing =
      set_laws.2 t r (λ q h.
      elim (there_cases q h) [
        | inl k ↦ part_names kept r above q k
        | inr y ↦ elim (cases_Bool (names r q)) [
          | inl there ↦ there
          | inr away ↦ absurd (common_not_none (minus free r) x q nothing (named_minus free r q (part_names x free inside q y) away) y)
        ]
      ])

  unexplored : (lines : List Line) → AllByRecursion (Avoids free x) (conflicts_of (bit_or kept free) lines) → AllByRecursion (Meets x) (drops_of kept free lines)
      → explored lines t ≡ false
  unexplored [] avoids meets = refl
  unexplored (Conflict c ∷ xs) avoids meets =
      let all : ℕ = bit_or kept free in
      let here = first_if (Avoids free x) (part (bits_of c) all) c (conflicts_of all xs) avoids in
      or_from (part (bits_of c) t) (explored xs t)
      (false_from_ne_true (part (bits_of c) t) (λ h.
      let p = part_true (bits_of c) t h in
      here.0 (true_part (bits_of c) all (conflict_below (bits_of c) p)) (conflict_cut (bits_of c) p)))
      (unexplored xs here.1 meets)
  unexplored (Relaxation r ∷ xs) avoids meets =
      let here = first_if (Meets x) (part kept (bits_of r)) (set_of (minus free (bits_of r))) (drops_of kept free xs) meets in
      or_from (part t (bits_of r)) (explored xs t)
      (false_from_ne_true (part t (bits_of r)) (λ h.
      let p = part_true t (bits_of r) h in
      here.0 (true_part kept (bits_of r) (relaxation_above (bits_of r) p)) (relaxation_meets (bits_of r) p)))
      (unexplored xs avoids here.1)

  all_avoided : (lines : List Line) → explored lines t ≡ false → AllByRecursion (Avoids free x) (conflicts_of (bit_or kept free) lines)
  all_avoided [] e = tt
  all_avoided (Conflict c ∷ xs) e =
      let all : ℕ = bit_or kept free in
      let parts = or_parts (part (bits_of c) t) (explored xs t) e in
      if_first (Avoids free x) (part (bits_of c) all) c (conflicts_of all xs)
      (λ b cut. true≢false (sym (true_part (bits_of c) t (cut_conflict (bits_of c) (part_true (bits_of c) all b) cut)) ∙ parts.0))
      (all_avoided xs parts.1)
  all_avoided (Relaxation r ∷ xs) e = all_avoided xs (or_parts (part t (bits_of r)) (explored xs t) e).1

  all_met : (lines : List Line) → explored lines t ≡ false → AllByRecursion (Meets x) (drops_of kept free lines)
  all_met [] e = tt
  all_met (Conflict c ∷ xs) e = all_met xs (or_parts (part (bits_of c) t) (explored xs t) e).1
  all_met (Relaxation r ∷ xs) e =
      let parts = or_parts (part t (bits_of r)) (explored xs t) e in
      if_first (Meets x) (part kept (bits_of r)) (set_of (minus free (bits_of r))) (drops_of kept free xs)
      (λ b nothing. true≢false (sym (true_part t (bits_of r) (meets_relaxation (bits_of r) (part_true kept (bits_of r) b) nothing)) ∙ parts.0))
      (all_met xs parts.1)

-- what settles the question of the lines, with the kept requests, is sought
pub sought : (lines : List Line) (kept free x : ℕ) → bit_and kept free ≡ none
    → Settles free (conflicts_of (bit_or kept free) lines) (drops_of kept free lines) x → IsSought lines kept free (bit_or kept x)
sought lines kept free x apart s = (
  record {
    above = part_or_l kept x;
    below = part_or kept x (bit_or kept free) (part_or_l kept free) (part_trans x free (bit_or kept free) s.inside (part_or_r kept free));
  },
  unexplored kept free x (bit_or kept x) refl s.inside apart lines
      (recursion_from_All (Avoids free x) (conflicts_of (bit_or kept free) lines) s.avoids)
      (recursion_from_All (Meets x) (drops_of kept free lines) s.meets),
)

-- and of what is sought the free part settles it
sought_whole : (kept free t : ℕ) → IsBetween kept free t → t ≡ bit_or kept (bit_and t free)
sought_whole kept free t between =
    part_antisym t (bit_or kept (bit_and t free))
    (set_laws.2 t (bit_or kept (bit_and t free)) (λ q h.
    elim (either_named kept free q (part_names t (bit_or kept free) between.below q h)) [
      | inl k ↦ named_first kept (bit_and t free) q k
      | inr f ↦ named_second kept (bit_and t free) q (named_both t free q h f)
    ]))
    (part_or kept (bit_and t free) t between.above (set_laws.2 (bit_and t free) t (λ q h. (both_named t free q h).0)))

pub none_sought : (lines : List Line) (kept free : ℕ) → bit_and kept free ≡ none
    → ((x : ℕ) → Settles free (conflicts_of (bit_or kept free) lines) (drops_of kept free lines) x → ⊥) → (t : ℕ) → IsSought lines kept free t → ⊥
none_sought lines kept free apart nothing t (between, e) =
    let x : ℕ = bit_and t free in
    let inside : Part x free = set_laws.2 x free (λ q h. (both_named t free q h).1) in
    let whole = sought_whole kept free t between in
    nothing x (record {
      inside = inside;
      avoids = All-from_recursion (Avoids free x) (conflicts_of (bit_or kept free) lines) (all_avoided kept free x t whole inside apart lines e);
      meets = All-from_recursion (Meets x) (drops_of kept free lines) (all_met kept free x t whole inside apart lines e);
    })
