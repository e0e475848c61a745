-- An entry that is there stands at the end; one that is not leaves all as it was.
use Rattle.std.proofs.Common.{◌∙◌, sym, arith}
use Rattle.channel_machine.specs.StartStates.{zone_entry}
use Rattle.channel_machine.proofs.StartLaws.{row_some, row_none}
use Rattle.channel_machine.proofs.start.first_zones.Goals as goal
use Rattle.channel_machine.proofs.start.first_zones.Goals.{in-Some, in_default}

pub loop-index-preserved : goal.loop-index-preserved
loop-index-preserved c =
    elim c.match-zone_entry.branch [
      | in-Some w ↦ record {
        stand = rw (w.zones-is, w.push.ensures.items)
            (row_some (zone_entry c.args.job.now) 1 c.loop-index.index _ _ c.loop-index.invariant.stand (sym c.zone_entry.ensures ∙ w.in-Some.is));
        few = rw (w.zones-is, w.push.ensures.len) (omega arith);
      }
      | in_default w ↦ record {
        stand = rw w.zones-is (row_none (zone_entry c.args.job.now) 1 c.loop-index.index _ c.loop-index.invariant.stand (sym c.zone_entry.ensures ∙ w.in_default.is));
        few = rw w.zones-is (omega arith);
      }
    ]
