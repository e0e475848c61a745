use Rattle.turnmill.proofs.AlikeInOrder.{reported_any}
use Rattle.turnmill.proofs.laws.quiet_runs_are_reported.Goals as goal

pub returns : goal.returns
returns c job run verdict sound judged none = reported_any job sound run verdict judged none
