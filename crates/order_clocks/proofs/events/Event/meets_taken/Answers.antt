use Rattle.order_clocks.proofs.PairLaws.{took_met}
use Rattle.order_clocks.proofs.events.Event.meets_taken.Goals as goal

pub returns : goal.returns
returns c = took_met c.share_axes.result c.args.self.now c.args.late.now c.share_axes.ensures
