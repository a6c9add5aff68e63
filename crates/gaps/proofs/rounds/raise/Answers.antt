use Rattle.std.proofs.Common.{◌≡◌, set, ◌-ℤ◌, ap, ◌∙◌, w32, SFits, rules}
use Rattle.std.specs.Int.{int_max}
use Rattle.std.proofs.lemmas.Int.{to_z-of_z}
use Rattle.rules.specs.Choices.{place}
use Rattle.gaps.proofs.Lifting.{lifted_max}
use Rattle.gaps.proofs.rounds.raise.Goals as goal

pub returns-in-Gap : goal.returns-in-Gap
returns-in-Gap c =
    let p = place c.args.old.now c.in-Gap.a in
    let q = place c.args.new.now c.in-Gap.b in
    let fp : SFits w32 p = search rules in
    let fq : SFits w32 q = search rules in
    let fw : SFits w32 c.in-Gap.w = search rules in
    let ft : SFits w32 (p -ℤ c.in-Gap.w) = search rules in
    let fm : SFits w32 c.max.result = search rules in
    let higher : c.max.result ≡ int_max (p -ℤ c.in-Gap.w) q = simp to_z-of_z at c.max.ensures.value in
    simp (to_z-of_z, c.in-Gap.is) (ap (set c.args.new.now c.in-Gap.b) higher ∙ lifted_max c.in-Gap.b (p -ℤ c.in-Gap.w) c.args.new.now)
