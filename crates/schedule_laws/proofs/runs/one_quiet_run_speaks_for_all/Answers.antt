-- One result for all runs.
use Rattle.schedule_laws.proofs.RunLaws.{speaks, all_agree}
use Rattle.schedule_laws.proofs.runs.one_quiet_run_speaks_for_all.Goals as goal

pub returns-clause-every : goal.returns-clause-every
returns-clause-every c = λ script start cs vs quiet run. speaks script start cs vs quiet run

pub returns-clause-maximal : goal.returns-clause-maximal
returns-clause-maximal c = λ script start cs vs quiet run. all_agree script start cs vs quiet run
