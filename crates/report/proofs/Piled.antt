-- A pile made of the same rules throughout, and new, is that of a ticket. Assumes nothing.
use Rattle.std.proofs.Common.{◌≡◌, ℕ, zero, suc, min, Bool, true, cond, ◌&&◌, eqb, List, Some, sym, refl, ap, ◌∙◌, arith}
use Rattle.std.proofs.lemmas.Bool.{and_parts, and_from, ne_eqb}
use Rattle.oracle.specs.Asking.{nought}
use Rattle.oracle.specs.Meaning.{Meaning, limit}
use Rattle.rules.specs.Choices.{Fit}
use Rattle.rules.specs.declared.Kind.TheVariants as kind
use Rattle.rules.specs.declared.Rule.{Rule}
use Rattle.rules.proofs.FacesDecided.{faces_decided}
use Rattle.rules.proofs.Fewer.{true_yes, yes_true}
use Rattle.rules.proofs.GapsDecided.{gaps_decided}
use Rattle.rules.proofs.Joined.{fit_joined, fit_kind}
use Rattle.rules.proofs.OptionsDecided.{options_decided}
use Rattle.faces.specs.Verdict as faces
use Rattle.gaps.specs.Verdict as gaps
use Rattle.options.specs.Verdict as options
use Rattle.report.specs.Piles.{covered, piled, BelowOf, PileOf}

-- oracles that are each of this width and over these rules
pub all_meant : (meant : ℕ → List Rule → Meaning) (w width : ℕ) (r rules : List Rule) → r ≡ rules → w ≡ width → meant w r ≡ meant width rules
all_meant meant w width r rules e f = ap (λ x. meant x r) f ∙ ap (meant width) e

-- the label is the quota's own where it has no check
abbrev own : Bool → ℕ
own none = cond none 1 0

label_piled : (checks : ℕ) → own (nought (Some (min checks limit))) ≡ own (eqb checks 0)
label_piled zero = refl
label_piled (suc k) =
    let e : min (suc k) limit ≡ suc (min k 999999) = omega arith in
    ap (λ n. own (nought (Some n))) e ∙ sym (ap own (ne_eqb (suc k) 0 (omega arith)))

module _ (rules : List Rule) (s : ℕ) where
  pub all_fit : (options.fit rules s && (gaps.fit rules s && faces.fit rules s)) ≡ true → Fit rules s
  all_fit e =
      let first = and_parts (options.fit rules s) (gaps.fit rules s && faces.fit rules s) e in
      let rest = and_parts (gaps.fit rules s) (faces.fit rules s) first.1 in
      fit_joined rules s (true_yes (options_decided rules s) first.0) (true_yes (gaps_decided rules s) rest.0) (true_yes (faces_decided rules s) rest.1)

  pub fit_all : Fit rules s → (options.fit rules s && (gaps.fit rules s && faces.fit rules s)) ≡ true
  fit_all fit =
      and_from (options.fit rules s) (gaps.fit rules s && faces.fit rules s) (yes_true (options_decided rules s) (fit_kind kind.Options rules s fit))
      (and_from (gaps.fit rules s) (faces.fit rules s) (yes_true (gaps_decided rules s) (fit_kind kind.Gaps rules s fit))
      (yes_true (faces_decided rules s) (fit_kind kind.Faces rules s fit)))

pub covered_is : (rules : List Rule) (width : ℕ) → BelowOf rules width (covered rules width)
covered_is rules width =
    record { width_is = omega arith; fit_then = all_fit rules; then_fit = fit_all rules; endless = refl }

pub piled_is : (rules : List Rule) (width checks : ℕ) → PileOf rules width checks (piled rules width checks)
piled_is rules width checks = record {
  width_is = omega arith;
  fit_then = all_fit rules;
  then_fit = fit_all rules;
  allowance_is = refl;
  label_is = label_piled checks;
}
