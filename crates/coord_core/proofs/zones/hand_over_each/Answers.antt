use Rattle.std.proofs.Common.{arith}
use Rattle.std.proofs.lemmas.Grind.{common_steps}
use Rattle.std.proofs.lemmas.List.Edits.{map_over_more}
use Rattle.coord_core.specs.Tables.{zone_handed}
use Rattle.coord_core.proofs.zones.hand_over_each.Goals as goal

pub loop-zone-preserved : goal.loop-zone-preserved
loop-zone-preserved c = grind (arith, common_steps, map_over_more (zone_handed c.args.axes c.args.holder.now)) steps 16000000
