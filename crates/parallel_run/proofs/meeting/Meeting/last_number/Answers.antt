use Rattle.std.proofs.Common.{◌≡◌, ◌+◌, ℕ, ap, arith, sym, ◌∙◌}
use Rattle.atomic_table.specs.Table.{Me}
use Rattle.parallel_run.proofs.MeetingRule.{gives_up_hit, gives_up_miss}
use Rattle.parallel_run.proofs.meeting.Meeting.last_number.Goals as goal
use Rattle.parallel_run.specs.Meetings.{MeetingView}
use Rattle.parallel_run.specs.declared.meeting.Knowledge.{Knowledge}

pub turns-init : goal.turns-init
turns-init c =
    let looked = c.look-expected.ensures.found in
    let most = looked.0.most in
    let many = c.requires.workers in
    record {
      table = c.look-expected.ensures.table;
      workers = ap (λ (m : Me (Unit {0}) Knowledge). m.0.workers) looked.1 ∙ c.requires.workers;
      seen = ap (λ (m : Me (Unit {0}) Knowledge). m.0.seen) looked.1;
      most = omega arith;
    }

pub turns-preserved : goal.turns-preserved
turns-preserved c =
    let i = c.turns.invariant in
    let told = c.give_up-found.ensures.found in
    let now = gives_up_miss c.turns.seat.me c.give_up-found.new.seat.me c.turns.expected c.give_up-found.result c.if-found-expected.false told in
    let many = i.workers in
    let most = told.0.most in
    record {
      table = c.give_up-found.ensures.table;
      workers = ap (λ (m : Me (Unit {0}) Knowledge). m.0.workers) now ∙ i.workers;
      seen = ap (λ (m : Me (Unit {0}) Knowledge). m.0.seen) now;
      most = omega arith;
    }

pub turns-smaller : goal.turns-smaller
turns-smaller c =
    let seen = c.turns.invariant.seen in
    let more = c.give_up-found.ensures.found.0.more in
    let other = c.if-found-expected.false in
    let many : c.self.inside.workers ≡ c.args.self.now.workers = ap (λ (m : MeetingView). m.workers) c.self.view_is in
    omega arith

pub returns-then-found-expected : goal.returns-then-found-expected
returns-then-found-expected c =
    let i = c.turns.invariant in
    let now = gives_up_hit c.turns.seat.me c.give_up-found.new.seat.me c.turns.expected c.give_up-found.result c.if-found-expected.true c.give_up-found.ensures.found in
    let many : c.self.inside.workers ≡ c.args.self.now.workers = ap (λ (m : MeetingView). m.workers) c.self.view_is in
    record {
      table = c.give_up-found.ensures.table;
      seen = ap (λ (m : Me (Unit {0}) Knowledge). m.0.seen) now ∙ ap (λ (n : ℕ). n + 1) (i.workers ∙ sym many);
      last = (omega arith, omega arith);
    }
