-- Runs without a race.
use Rattle.schedule_laws.proofs.MachineRuns.{quiet_are_clean}
use Rattle.schedule_laws.proofs.runs.quiet_runs_are_clean.Goals as goal

pub returns : goal.returns
returns c = λ start moves sound run. quiet_are_clean start moves sound run
