use Rattle.std.proofs.Common.{◌≡◌, drop}
use Rattle.stop_verdicts.specs.FirstAnswer.{first_some}
use Rattle.stop_verdicts.specs.Stops as model
use Rattle.stop_verdicts.proofs.stops.first_stuck.Given as goal

abbrev pub invariant-loop-stop : goal.invariant-loop-stop
invariant-loop-stop l = first_some (λ stop. model.stuck_by stop.0 stop.1) (drop l.stop-index l.stops) ≡ first_some (λ stop. model.stuck_by stop.0 stop.1) l.stops
