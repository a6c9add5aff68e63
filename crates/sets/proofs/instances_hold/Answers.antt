use Rattle.std.proofs.Common.{rules}
use Rattle.sets.specs.Instances.{MaskHas, MaskAdds, SetNames}
use Rattle.sets.proofs.Naming.{set_adds, set_stays}
use Rattle.sets.proofs.instances_hold.Goals as goal

pub returns : goal.returns
returns c =
    let mask_has : MaskHas = search rules in
    let mask_adds : MaskAdds = search rules in
    let set_names : SetNames = search rules in
    (mask_has, mask_adds, set_names, set_adds, set_stays)
