use Rattle.std.proofs.Common.{◌≡◌, take}
use Rattle.nc_control_flow.proofs.repeats.copies.Given as goal

abbrev pub invariant-loop-one : goal.invariant-loop-one
invariant-loop-one l = l.kept.items ≡ take l.one-index l.running
