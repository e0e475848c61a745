use Rattle.std.proofs.Common.{ap, arith, sym, ◌∙◌}
use Rattle.parallel_run.proofs.MeetingRule.{gives_up}
use Rattle.parallel_run.proofs.meeting.Meeting.give_up.Goals as goal
use Rattle.parallel_run.specs.Meetings.{MeetingView}

pub compare_exchange-requires : goal.compare_exchange-requires
compare_exchange-requires c =
    let i = c.self.invariant in
    let many = ap (λ (m : MeetingView). m.workers) c.self.view_is in
    let fewer = c.requires.fewer in
    (c.requires.table ∙ sym (ap (λ (m : MeetingView). m.table_id) c.self.view_is), omega (arith, i.0), gives_up _ _ _ _ c.args.expected _ (omega (arith, i.1, many)) (omega (arith, i.1)))
