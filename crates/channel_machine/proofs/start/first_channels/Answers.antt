-- An entry that is there stands at the end; one that is not leaves all as it was.
use Rattle.std.proofs.Common.{◌∙◌, sym, arith}
use Rattle.channel_machine.specs.StartStates.{channel_entry}
use Rattle.channel_machine.proofs.StartLaws.{row_some, row_none}
use Rattle.channel_machine.proofs.start.first_channels.Goals as goal
use Rattle.channel_machine.proofs.start.first_channels.Goals.{in-Some, in_default}

pub loop-index-preserved : goal.loop-index-preserved
loop-index-preserved c =
    elim c.match-channel_entry.branch [
      | in-Some w ↦ record {
        stand = rw (w.channels-is, w.push.ensures.items)
            (row_some (channel_entry c.args.job.now) 1 c.loop-index.index _ _ c.loop-index.invariant.stand (sym c.channel_entry.ensures ∙ w.in-Some.is));
        few = rw (w.channels-is, w.push.ensures.len) (omega arith);
      }
      | in_default w ↦ record {
        stand = rw w.channels-is (row_none (channel_entry c.args.job.now) 1 c.loop-index.index _ c.loop-index.invariant.stand (sym c.channel_entry.ensures ∙ w.in_default.is));
        few = rw w.channels-is (omega arith);
      }
    ]
