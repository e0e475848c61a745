use Rattle.order_clocks.specs.Tells.{is_before_in}
use Rattle.zone_stretches.proofs.StretchPairLaws.{from_start}
use Rattle.zone_stretches.proofs.stretch_pairs.StretchPairs.of.Goals as goal

pub returns : goal.returns
returns c = from_start (is_before_in c.args.clocks.now.rows) c.args.left.now.time c.args.right.now.time c.first_place.result c.first_place.ensures
