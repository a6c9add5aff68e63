-- Which head a rule in force turns on. Assumes nothing.
use Rattle.std.proofs.Common.{◌≡◌, ℕ, true, false, not, ◌&&◌, cond, is_some, Some, None, Option, refl, ap, ◌∙◌, inl, inr}
use Rattle.std.proofs.lemmas.Bool.{cond_both, cases_Bool, false≢true}
use Rattle.sets.specs.Masks.{number_of}
use Rattle.sets.specs.Members.{has, added}
use Rattle.sets.specs.Requests.{part}
use Rattle.sets.proofs.Parts.{part_refl, part_antisym, part_added, added_part}
use Rattle.rules.specs.Force.{in_force}
use Rattle.rules.specs.Propagation.{with_head, turned_if}
use Rattle.rules.specs.declared.Body.{Body}
use Rattle.rules.specs.declared.Body.TheVariants.{Options, Gap, Faces}
use Rattle.rules.specs.declared.Rule.{Rule}
use Rattle.rules.proofs.Saying.{in_force_body}
use Rattle.options.specs.Propagating.{head_turned_on}

-- to add what is there changes nothing
added_there : (on h : ℕ) → has on h ≡ true → added on h ≡ on
added_there on h there = part_antisym (added on h) on (added_part on h on (part_refl on) there) (part_added on h)

turned_with : (o : Option Body) (on : ℕ) → turned_if o on ≡ with_head (head_turned_on o on) on
turned_with None on = refl
turned_with (Some (Options None s)) on = cond_both (part (number_of s.members) on) on on (λ n. n ≡ on) (λ _. refl) (λ _. refl)
turned_with (Some (Options (Some h) s)) on =
    elim (part (number_of s.members) on) as (λ p. cond p (added on h) on ≡ with_head (cond (p && not (has on h)) (Some h) None) on) [
      | true ↦ elim (cases_Bool (has on h)) [ inl there ↦ rw there (added_there on h there) | inr away ↦ rw away refl ]
      | false ↦ refl
    ]
turned_with (Some (Gap a b w)) on = refl
turned_with (Some (Faces odd s)) on = refl

-- so a rule without such a head turns nothing on, in force or not
module _ (s : ℕ) (r : Rule) (on : ℕ) where
  pub turned_without : head_turned_on r.body on ≡ None → turned_if (in_force s r) on ≡ on
  turned_without e =
      elim (in_force_body s r) [ inl out ↦ rw out refl | inr same ↦ rw same (turned_with r.body on ∙ ap (λ o. with_head o on) e) ]

  pub turned_head : (h : ℕ) → head_turned_on r.body on ≡ Some h → is_some (in_force s r) ≡ true → turned_if (in_force s r) on ≡ added on h
  turned_head h e says =
      elim (in_force_body s r) [
        | inl out ↦ absurd (false≢true (rw out at says))
        | inr same ↦ rw same (turned_with r.body on ∙ ap (λ o. with_head o on) e)
      ]
