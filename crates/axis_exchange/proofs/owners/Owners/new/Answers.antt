use Rattle.std.proofs.Common.{◌∙◌, ap, not, arith, length-set, Some}
use Rattle.axis_exchange.proofs.OwnerSteps.{NextLine, kept_more, counted_more}
use Rattle.axis_exchange.proofs.owners.Owners.new.Goals as goal
use Rattle.axis_exchange.proofs.owners.Owners.new.Goals.{then-is_none, else-is_none}

next : (c : goal.Joined-is_none) → NextLine c.loop-axis.states c.args.axes.now c.loop-axis.axis-index c.loop-axis-item.result c.from-place.result
next c = record {
  within = c.loop-axis-test.true;
  is = c.loop-axis-item.is;
  here = c.from-place.ensures ∙ c.axis.view_is;
  below = omega (arith, c.loop-axis.invariant.0, c.axis.invariant);
  before = c.loop-axis.invariant.1;
}

pub loop-axis-preserved : goal.loop-axis-preserved
loop-axis-preserved c = elim c.if-is_none.branch [
  | then-is_none w ↦ rw w.states-is (
    length-set c.loop-axis.states c.from-place.result (Some w.state_with.result) ∙ c.loop-axis.invariant.0,
    counted_more c.loop-axis.states c.args.axes.now c.loop-axis.axis-index c.loop-axis-item.result c.from-place.result c.index-states-place.result w.state_with.result (next c) (c.is_none.ensures ∙ ap not w.if-is_none.true) w.state_with.ensures,
  )
  | else-is_none w ↦ rw w.states-is (
    c.loop-axis.invariant.0,
    kept_more c.loop-axis.states c.args.axes.now c.loop-axis.axis-index c.loop-axis-item.result c.from-place.result c.index-states-place.result (next c) (c.is_none.ensures ∙ ap not w.if-is_none.false),
  )
]
