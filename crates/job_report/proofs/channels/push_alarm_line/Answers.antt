use Rattle.std.proofs.Common.{append_assoc, refl}
use Rattle.job_report.specs.Channels.{alarm_line}
use Rattle.job_report.proofs.channels.push_alarm_line.Goals as goal

pub returns : goal.returns
unfolding alarm_line
returns c =
    rw (c.push-5.ensures, c.push-4.ensures, c.text_of.ensures.text, c.push-3.ensures, c.push_number-2.ensures.text, c.from.ensures, c.push-2.ensures, c.push_number.ensures.text, c.push.ensures)
    (simp append_assoc refl)
