-- An entry that is there stands at the end; one that is not leaves all as it was.
use Rattle.std.proofs.Common.{◌∙◌, sym, arith}
use Rattle.channel_machine.specs.StartStates.{axis_entry}
use Rattle.number_laws.proofs.Lists.{filter_map-range_some, filter_map-range_none}
use Rattle.channel_machine.proofs.start.first_axes.Goals as goal
use Rattle.channel_machine.proofs.start.first_axes.Goals.{in-Some, in_default}

pub loop-index-preserved : goal.loop-index-preserved
loop-index-preserved c =
    elim c.match-axis_entry.branch [
      | in-Some w ↦ record {
        stand = rw (w.axes-is, w.push.ensures.items)
            (filter_map-range_some (axis_entry c.args.job.now) c.loop-index.index _ _ c.loop-index.invariant.stand (sym c.axis_entry.ensures ∙ w.in-Some.is));
        few = rw (w.axes-is, w.push.ensures.len) (omega arith);
      }
      | in_default w ↦ record {
        stand = rw w.axes-is (filter_map-range_none (axis_entry c.args.job.now) c.loop-index.index _ c.loop-index.invariant.stand (sym c.axis_entry.ensures ∙ w.in_default.is));
        few = rw w.axes-is (omega arith);
      }
    ]
