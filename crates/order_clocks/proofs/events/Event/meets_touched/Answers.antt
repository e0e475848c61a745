use Rattle.order_clocks.proofs.PairLaws.{touched_met}
use Rattle.order_clocks.proofs.events.Event.meets_touched.Goals as goal

pub returns : goal.returns
returns c = touched_met c.share_channels.result c.args.self.now c.args.late.now c.share_channels.ensures
