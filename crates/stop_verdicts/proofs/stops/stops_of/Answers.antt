use Rattle.std.proofs.Common.{◌≡◌, ◌∙◌, List, length, sym, ap, arith}
use Rattle.axis_sets.specs.declared.limits.TheConstants.{CHANNEL_PLACES}
use Rattle.stop_verdicts.proofs.StopLaws.{taken_from, passed, full}
use Rattle.job_types.specs.Channels.{has_channel}
use Rattle.stop_verdicts.specs.Stops.{stops_of}
use Rattle.sync_types.specs.declared.ChannelEnd.{ChannelEnd}
use Rattle.stop_verdicts.proofs.stops.stops_of.Goals as goal
use Rattle.stop_verdicts.proofs.stops.stops_of.Goals.{then-has_channel+then-len-ends, else-has_channel, else-has_channel-via-then-has_channel+else-len-ends, else-has_channel-via-else-has_channel}

pub loop-number-preserved : goal.loop-number-preserved
loop-number-preserved c =
    let same : length c.ends-ends.result.now ≡ length c.args.run.now.ends = ap (λ (ends : List ChannelEnd). length ends) c.ends-ends.ensures in
    elim c.if-has_channel.branch [
      | then-has_channel+then-len-ends w ↦
          rw w.stops-is
          (taken_from (has_channel c.args.job.now) CHANNEL_PLACES c.args.run.now.ends c.ends-ends.result.now w.len-then-len-ends.result _ c.ends-ends.ensures c.loop-number.stops.items w.push.new.self.items
          (stops_of c.args.job.now c.args.run.now) c.loop-number.number w.len-then-len-ends.ensures.value (omega arith) (sym c.has_channel.ensures ∙ w.if-has_channel.true) (omega arith) w.push.ensures.items c.loop-number.invariant)
      | else-has_channel w ↦
          elim w.else-has_channel.branch [
            | else-has_channel-via-then-has_channel+else-len-ends u ↦
                rw w.stops-is (full (has_channel c.args.job.now) CHANNEL_PLACES c.args.run.now.ends c.loop-number.stops.items _ c.loop-number.number (omega (arith, same)) c.loop-number.invariant)
            | else-has_channel-via-else-has_channel u ↦
                rw w.stops-is (passed (has_channel c.args.job.now) CHANNEL_PLACES c.args.run.now.ends c.loop-number.stops.items _ c.loop-number.number (omega arith) (sym c.has_channel.ensures ∙ u.if-has_channel.false) c.loop-number.invariant)
          ]
    ]
