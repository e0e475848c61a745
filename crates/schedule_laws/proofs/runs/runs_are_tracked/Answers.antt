-- Runs are tracked.
use Rattle.schedule_laws.proofs.Stepwise.{tracked_runs}
use Rattle.schedule_laws.proofs.runs.runs_are_tracked.Goals as goal

pub returns : goal.returns
returns c = λ start moves i m sound run inside at. tracked_runs start moves i m sound run inside at
