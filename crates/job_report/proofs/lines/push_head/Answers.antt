use Rattle.std.proofs.Common.{append_assoc, refl}
use Rattle.job_report.specs.Report.{head_lines}
use Rattle.job_report.proofs.lines.push_head.Goals as goal

pub returns : goal.returns
unfolding head_lines
returns c = rw (c.push_note.ensures, c.push.ensures, append_assoc) refl
