use Rattle.std.proofs.Common.{append_assoc, refl}
use Rattle.job_report.specs.Verdicts.{stuck_line}
use Rattle.job_report.proofs.verdicts.push_stuck_line.Goals as goal

pub returns : goal.returns
unfolding stuck_line
returns c =
    rw (c.push-2.ensures, c.push_channel_place.ensures.text, c.push.ensures, append_assoc, append_assoc) refl
