use Rattle.std.proofs.Common.{[]}
use Rattle.job_report.proofs.PageLemmas.{Prints-line, Puts-cut}
use Rattle.job_report.proofs.lines.put_verdict.Goals as goal

pub returns-in_err-begin_line-clause-text : goal.returns-in_err-begin_line-clause-text
returns-in_err-begin_line-clause-text g c = Puts-cut _ _ _ [] _ c.from_residual.ensures.0 c.in_err-begin_line.ensures.text

pub returns-clause-text : goal.returns-clause-text
returns-clause-text g c = Prints-line _ _ _ _ _ _ c.in_ok-begin_line.ensures.text c.push_verdict_line.ensures
