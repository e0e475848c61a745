use Rattle.order_clocks.specs.Tells.{is_before_in}
use Rattle.zone_stretches.proofs.StretchPairLaws.{passing_here}
use Rattle.zone_stretches.proofs.stretch_pairs.first_pair.Goals as goal

pub near_part-near-requires : goal.near_part-near-requires
near_part-near-requires c =
    passing_here (is_before_in c.args.clocks.now.rows) c.args.left.now c.args.right.now _ _ c.loop-place.place c.index-stretches-place.result c.left.view_is c.right.view_is c.requires
    c.loop-place-test.true c.index-stretches-place.is
