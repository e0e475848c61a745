use Rattle.std.proofs.Common.{◌≡◌}
use Rattle.nc_control_flow.specs.Repetitions.{going_after_passes, times, Fits}
use Rattle.nc_control_flow.proofs.repeats.Repeats.settle.Given as goal

abbrev pub invariant-loop-next : goal.invariant-loop-next
invariant-loop-next l = record {
  fits : Fits l.control;
  goes_on : going_after_passes l.control l.self ≡ going_after_passes l.initial.control l.initial.self;
}

abbrev pub decreases-loop-next : goal.decreases-loop-next
decreases-loop-next l = times l.self
