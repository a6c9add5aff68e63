-- The verdict over the rules of one kind, what an oracle over them means, and what a search finds.
-- Assumes nothing.
use Rattle.std.specs.Prelude.{ℕ, Bool, true, false, List, Some, None, Option}
use Rattle.std.proofs.Math.Logic.{ite}
use Rattle.oracle.specs.Meaning.{Meaning}
use Rattle.rules.specs.Choices.{Choice, Every, MeetsKind, FitBy}
use Rattle.rules.specs.Force.{said}
use Rattle.rules.specs.declared.Kind.{Kind}
use Rattle.rules.specs.declared.Rule.{Rule}

-- of every list of rules and every set, whether some choice meets each rule of the kind that is in
-- force
abbrev pub Decision : Kind → Type 0
Decision k = (rules : List Rule) (s : ℕ) → Dec (FitBy k rules s)

-- the same as a truth value
abbrev pub fit_by : (k : Kind) → Decision k → List Rule → ℕ → Bool
fit_by k decide rules s = ite (decide rules s) true false

-- what an oracle over a list of rules means: its checks are endless, and its label is 0
abbrev pub meant_by : (k : Kind) → Decision k → (width : ℕ) → List Rule → Meaning
meant_by k decide width rules =
    record { width = width; fit = fit_by k decide rules; allowance = None; label = 0 }

-- a choice that meets every rule of the kind that is in force for the set; none where no choice
-- meets them
abbrev pub FoundBy : Kind → List Rule → ℕ → Option Choice → Type 0
FoundBy k rules s (Some c) = Every (MeetsKind k c) (said s rules)
FoundBy k rules s None = FitBy k rules s → ⊥
