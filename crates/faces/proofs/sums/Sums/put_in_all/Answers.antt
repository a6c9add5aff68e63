use Rattle.std.proofs.Common.{arith}
use Rattle.std.proofs.lemmas.Grind.{common_steps}
use Rattle.std.proofs.lemmas.List.Edits.{map_over_more}
use Rattle.rules.specs.Substitution.{put_in}
use Rattle.faces.proofs.sums.Sums.put_in_all.Goals as goal

pub loop-face-preserved : goal.loop-face-preserved
loop-face-preserved c = grind (arith, common_steps, map_over_more (put_in c.args.place c.args.sum))
