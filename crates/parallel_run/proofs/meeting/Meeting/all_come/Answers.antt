use Rattle.std.proofs.Common.{◌≡◌, ◌+◌, ◌==◌, ℕ, if◌then◌else◌, ap, arith, subst}
use Rattle.parallel_run.proofs.MeetingRule.{told}
use Rattle.parallel_run.proofs.meeting.Meeting.all_come.Goals as goal
use Rattle.parallel_run.specs.Meetings.{MeetingView}

pub returns-clause-told : goal.returns-clause-told
returns-clause-told c =
    let many = ap (λ (m : MeetingView). m.workers) c.self.view_is in
    let last : ℕ = c.last_number-last.result in
    let seen : ℕ = c.last_number-last.new.seat.me.0.seen in
    let within = c.last_number-last.ensures.last in
    let low = within.0 in
    let high = within.1 in
    subst (λ (n : ℕ). seen ≡ (if last == c.self.inside.workers then n else n + 1)) many (told c.self.inside.workers last seen c.last_number-last.ensures.seen (omega arith) (omega arith))
