use Rattle.std.proofs.Common.{◌≡◌, ap, arith, inl, ◌∙◌}
use Rattle.atomic_table.specs.Table.{Me}
use Rattle.parallel_run.proofs.MeetingRule.{comes_hit, comes_miss}
use Rattle.parallel_run.proofs.meeting.Meeting.come.Goals as goal
use Rattle.parallel_run.specs.Meetings.{MeetingView}
use Rattle.parallel_run.specs.declared.meeting.Knowledge.{Knowledge}

pub turns-init : goal.turns-init
turns-init c =
    let sat = c.sit-expected.ensures in
    record {
      table = sat.table;
      workers = ap (λ (m : Me (Unit {0}) Knowledge). m.0.workers) sat.fresh.1;
      first = ap (λ (m : Me (Unit {0}) Knowledge). m.0.come) sat.fresh.1;
      seen = ap (λ (m : Me (Unit {0}) Knowledge). m.0.seen) sat.fresh.1;
    }

pub turns-preserved : goal.turns-preserved
turns-preserved c =
    let i = c.turns.invariant in
    let now = comes_miss c.turns.seat.me c.count-found.new.seat.me c.turns.expected c.count-found.result c.if-found-expected.false c.count-found.ensures.found in
    record {
      table = c.count-found.ensures.table;
      workers = ap (λ (m : Me (Unit {0}) Knowledge). m.0.workers) now ∙ i.workers;
      first = ap (λ (m : Me (Unit {0}) Knowledge). m.0.come) now ∙ i.first;
      seen = ap (λ (m : Me (Unit {0}) Knowledge). m.0.seen) now;
    }

pub turns-smaller : goal.turns-smaller
turns-smaller c =
    let seen = c.turns.invariant.seen in
    let more = c.count-found.ensures.found.0.more in
    let other = c.if-found-expected.false in
    let many : c.self.inside.workers ≡ c.args.self.now.workers = ap (λ (m : MeetingView). m.workers) c.self.view_is in
    omega arith

pub returns-then-found-expected : goal.returns-then-found-expected
returns-then-found-expected c =
    let i = c.turns.invariant in
    let now = comes_hit c.turns.seat.me c.count-found.new.seat.me c.turns.expected c.count-found.result c.if-found-expected.true c.count-found.ensures.found in
    record {
      table = c.count-found.ensures.table;
      workers = ap (λ (m : Me (Unit {0}) Knowledge). m.0.workers) now ∙ i.workers;
      counted = inl (ap (λ (m : Me (Unit {0}) Knowledge). m.0.come) now);
    }
