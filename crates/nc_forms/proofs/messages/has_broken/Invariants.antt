-- None of the places passed so far has what fits no form.
use Rattle.std.proofs.Common.{◌≡◌, ◌-◌}
use Rattle.nc_forms.specs.Coordination.{has_broken}
use Rattle.nc_forms.proofs.messages.has_broken.Given as goal

abbrev pub invariant-loop-at : goal.invariant-loop-at
invariant-loop-at l = has_broken l.words l.at (l.end - l.at) ≡ has_broken l.words l.start (l.end - l.start)

abbrev pub decreases-loop-at : goal.decreases-loop-at
decreases-loop-at l = l.end - l.at
