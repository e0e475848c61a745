use Rattle.std.proofs.Common.{◌≡◌, ◌-◌}
use Rattle.parallel_run.proofs.meeting.Meeting.come.Given as goal

abbrev pub invariant-turns : goal.invariant-turns
invariant-turns l = record {
  table : l.seat.table_id ≡ l.self.table_id;
  workers : l.seat.me.0.workers ≡ l.self.workers;
  first : l.seat.me.0.come ≡ 0;
  seen : l.seat.me.0.seen ≡ l.expected;
}

abbrev pub decreases-turns : goal.decreases-turns
decreases-turns l = l.self.workers - l.expected
