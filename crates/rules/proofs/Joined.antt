-- Three choices, one for each kind of rule, are one choice for all. Assumes nothing.
use Rattle.std.proofs.Common.{ℕ, List, [], ◌∷◌, refl}
use Rattle.rules.specs.Choices.{Choice, Meets, Every, MeetsKind, FitBy, Fit}
use Rattle.rules.specs.Force.{said}
use Rattle.rules.specs.declared.Body.{Body}
use Rattle.rules.specs.declared.Body.TheVariants as body
use Rattle.rules.specs.declared.Kind.{Kind}
use Rattle.rules.specs.declared.Kind.TheVariants.{Options, Gaps, Faces}
use Rattle.rules.specs.declared.Rule.{Rule}

unfoldable joined : Choice → Choice → Choice → Choice
joined o g f = record { on = o.on; mark = g.mark; back = f.back }

module _ (o g f : Choice) where
  meets_joined : (b : Body) → MeetsKind Options o b → MeetsKind Gaps g b → MeetsKind Faces f b → Meets (joined o g f) b
  unfolding joined
  meets_joined (body.Options head s) mo mg mf = mo refl
  meets_joined (body.Gap a b w) mo mg mf = mg refl
  meets_joined (body.Faces odd s) mo mg mf = mf refl

  every_joined : (bs : List Body) → Every (MeetsKind Options o) bs → Every (MeetsKind Gaps g) bs → Every (MeetsKind Faces f) bs → Every (Meets (joined o g f)) bs
  every_joined [] eo eg ef = tt
  every_joined (b ∷ bs) eo eg ef = (meets_joined b eo.0 eg.0 ef.0, every_joined bs eo.1 eg.1 ef.1)

every_kind : (k : Kind) (c : Choice) (bs : List Body) → Every (Meets c) bs → Every (MeetsKind k c) bs
every_kind k c [] all = tt
every_kind k c (b ∷ bs) all = (λ e. all.0, every_kind k c bs all.1)

-- a set is fit by all rules exactly when it is fit by each kind
pub fit_joined : (rules : List Rule) (s : ℕ) → FitBy Options rules s → FitBy Gaps rules s → FitBy Faces rules s → Fit rules s
fit_joined rules s o g f = (joined o.0 g.0 f.0, every_joined o.0 g.0 f.0 (said s rules) o.1 g.1 f.1)

pub fit_kind : (k : Kind) (rules : List Rule) (s : ℕ) → Fit rules s → FitBy k rules s
fit_kind k rules s fit = (fit.0, every_kind k fit.0 (said s rules) fit.1)
