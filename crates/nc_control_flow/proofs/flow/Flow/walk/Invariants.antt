use Rattle.std.proofs.Common.{◌≡◌, true}
use Rattle.nc_control_flow.specs.Parts.{views}
use Rattle.nc_control_flow.specs.Counted.{going_to_counted, skipped_bound, CountRepeats}
use Rattle.nc_control_flow.specs.Repetitions.{going_after_passes}
use Rattle.nc_control_flow.proofs.flow.Flow.walk.Given as goal

abbrev pub invariant-loop-place : goal.invariant-loop-place
invariant-loop-place l = record {
  same : going_to_counted true (views l.self) (record { place = l.place; running = l.repeats }) ≡ going_to_counted true (views l.self) (going_after_passes l.fn.control l.fn.repeats);
  repeat : CountRepeats true (views l.self) l.repeats;
}

abbrev pub decreases-loop-place : goal.decreases-loop-place
decreases-loop-place l = skipped_bound (views l.self) (record { place = l.place; running = l.repeats })
