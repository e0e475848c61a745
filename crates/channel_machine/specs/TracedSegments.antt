-- Steps. A segment with the levels on which the block stands whose alarm ends it.
use Rattle.std.specs.Prelude.{◌≡◌, ℕ, List}
use Rattle.channel_machine.specs.CallLevels.{IsPlaced, alarmed_in, alarmed_levels}
use Rattle.channel_machine.specs.Kept.{IsSegment}
use Rattle.channel_machine.specs.Locals.{IsSegmentOf}
use Rattle.channel_machine.specs.Run.{SurroundingsView, Channel, segment_of}
use Rattle.channel_machine.specs.declared.traces.TracedSegment.{TracedSegment}
use Rattle.job_types.specs.Job.{JobView}
use Rattle.sync_types.specs.declared.Grant.{Grant}

-- the segment of a channel from here
pub record IsTraced (setting : SurroundingsView) (channel : Channel) (traced : TracedSegment) : Type 0 where
  pub segment : IsSegment setting (segment_of setting channel) traced.segment
  pub levels : IsPlaced setting channel → traced.levels ≡ alarmed_in setting (segment_of setting channel)

-- the segment of a channel of a job after these grants
pub record IsTracedOf (job : JobView) (c : ℕ) (grants : List Grant) (traced : TracedSegment) : Type 0 where
  pub segment : IsSegmentOf job c grants traced.segment
  pub levels : traced.levels ≡ alarmed_levels job c grants
