-- The sums, a rule at a time. Assumes nothing.
use Rattle.std.proofs.Common.{◌≡◌, ℕ, ◌+◌, ◌<◌, ◌≤◌, false, sym, List, [], length, get_or, drop, Some, None, Option, inl, inr, arith}
use Rattle.std.proofs.lemmas.Bool.{false≢true}
use Rattle.std.proofs.lemmas.List.{drop_more}
use Rattle.rules.specs.Blank.{blank}
use Rattle.rules.specs.Force.{in_force, and_then, said}
use Rattle.rules.specs.Kinds.{if_some, of_kind}
use Rattle.rules.specs.Substitution.{entered, more_faces, width_of}
use Rattle.rules.specs.declared.Body.{Body}
use Rattle.rules.specs.declared.Body.TheVariants as body
use Rattle.rules.specs.declared.Kind.TheVariants.{Faces}
use Rattle.rules.specs.declared.Rule.{Rule}
use Rattle.rules.proofs.FacesDecided.{LeavesIf, Leaves, leaves_next}
use Rattle.rules.proofs.Saying.{in_force_body}

-- what is of another letter leaves the sums as they are
other_left : (all rest : List Body) (o : Option Body) (sums : List ℕ) → if_some Faces o ≡ false
    → Leaves 32 all (and_then o rest) sums → Leaves 32 all rest sums
other_left all rest None sums other leaves = leaves
other_left all rest (Some (body.Options head s)) sums other leaves =
    leaves_next 32 all rest (Some (body.Options head s)) (Some sums) (omega arith) leaves
other_left all rest (Some (body.Gap a b w)) sums other leaves =
    leaves_next 32 all rest (Some (body.Gap a b w)) (Some sums) (omega arith) leaves
other_left all rest (Some (body.Faces odd s)) sums other leaves = absurd (false≢true (sym other))

module _ (s : ℕ) (rules : List Rule) (i : ℕ) (inside : i < length rules)
    (sums : List ℕ) (leaves : Leaves 32 (said s rules) (said s (drop i rules)) sums) where
  -- the rule at i and the rest
  abbrev rule : Rule
  rule = get_or rules i blank

  abbrev rest : List Body
  rest = said s (drop (i + 1) rules)

  whole : Leaves 32 (said s rules) (and_then (in_force s rule) rest) sums
  whole = rw (drop_more rules i blank inside) at leaves

  -- it is of another letter
  pub passed_over : of_kind Faces rule ≡ false → Leaves 32 (said s rules) rest sums
  passed_over other =
      elim (in_force_body s rule) [
        | inl out ↦ rw out at whole
        | inr same ↦ other_left (said s rules) rest rule.body sums other (rw same at whole)
      ]

  -- it says b, which has come to the sums
  pub followed : (b : Body) (after : Option (List ℕ)) → in_force s rule ≡ Some b → more_faces b ≡ 0
      → after ≡ entered (Some sums) b → LeavesIf 32 (said s rules) rest after
  followed b after says narrow same =
      let wide : width_of (and_then (Some b) []) ≤ 32 = omega (arith, narrow) in
      rw same (leaves_next 32 (said s rules) rest (Some b) (Some sums) wide (rw says at whole))
