use Rattle.std.proofs.Common.{arith}
use Rattle.parallel_run.proofs.MeetingRule.{sits}
use Rattle.parallel_run.proofs.meeting.Meeting.sit.Goals as goal

pub load_new_seat-requires : goal.load_new_seat-requires
load_new_seat-requires c = let s = c.self.invariant.0 in (omega (arith, s), sits _ _)
