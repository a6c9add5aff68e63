-- Rules made from their parts. Assumes nothing.
use Rattle.std.specs.Prelude.{ℕ, Bool, ℤ, Some, Option}
use Rattle.sets.specs.declared.Members.{Members}
use Rattle.rules.specs.declared.Body.TheVariants.{Options, Gap, Faces}
use Rattle.rules.specs.declared.Rule.{Rule}

-- if all of the options are on, the head is on; without a head, not all of them may be on
abbrev pub options_rule : (owner : ℕ) → Option ℕ → Members 0 → Rule
options_rule owner head options = record { owner = owner; body = Some (Options head (record { members = options })) }

-- mark a minus mark b is at most w
abbrev pub gap_rule : (owner a b : ℕ) → ℤ → Rule
gap_rule owner a b w = record { owner = owner; body = Some (Gap a b w) }

-- the faces that lie at the back are odd in number, or even
abbrev pub faces_rule : (owner : ℕ) → (odd : Bool) → Members 0 → Rule
faces_rule owner odd faces = record { owner = owner; body = Some (Faces odd (record { members = faces })) }
