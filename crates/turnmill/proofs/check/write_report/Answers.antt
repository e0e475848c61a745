-- A job is answered by the report of its run.
use Rattle.turnmill.proofs.CheckLemmas.{front_of_report}
use Rattle.turnmill.proofs.check.write_report.Goals as goal

pub returns-in-Err-clause-front : goal.returns-in-Err-clause-front
returns-in-Err-clause-front g c = λ is. front_of_report c.args.job.now c.args.judgement.now.run c.args.judgement.now.verdict _ _ c.requires.reported c.in-Err.ensures.front
