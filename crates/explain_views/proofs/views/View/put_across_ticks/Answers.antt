use Rattle.explain_views.specs.Ticks.{across_part}
use Rattle.explain_views.proofs.RangeLaws.{next_part}
use Rattle.explain_views.proofs.views.View.put_across_ticks.Goals as goal

pub loop-number-preserved : goal.loop-number-preserved
loop-number-preserved c = next_part (across_part c.args.self.now) c.loop-number.number _ _ _ c.loop-number.invariant c.put_across_part.ensures
