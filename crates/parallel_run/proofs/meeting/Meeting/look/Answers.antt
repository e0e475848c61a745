use Rattle.std.proofs.Common.{ap, arith, sym, ◌∙◌}
use Rattle.parallel_run.proofs.MeetingRule.{looks}
use Rattle.parallel_run.proofs.meeting.Meeting.look.Goals as goal
use Rattle.parallel_run.specs.Meetings.{MeetingView}

pub load-requires : goal.load-requires
load-requires c = let s = c.self.invariant.0 in (c.requires.table ∙ sym (ap (λ (m : MeetingView). m.table_id) c.self.view_is), omega (arith, s), looks _ _ _ _)
