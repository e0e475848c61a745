use Rattle.std.proofs.Common.{sym, ap, ◌∙◌}
use Rattle.order_clocks.specs.Clocked.{moves_in}
use Rattle.order_clocks.specs.Watching.{wait_shown}
use Rattle.order_clocks.proofs.WholeLaws.{board_zero, fresh_waits}
use Rattle.order_clocks.proofs.reader.ClockReader.new.Goals as goal

pub returns : goal.returns
returns c = λ b whole. record {
  entries = whole.entries;
  sound = record { holds = λ d. rw (c.new-2.ensures.holds d) (record {}); none = c.new-2.ensures.holds 0 };
  alarms = c.stops_of.ensures b whole;
  keeps = rw (board_zero (moves_in c.args.entries.now) b) (record {
    marks = λ d m. c.new-2.ensures.marks d m ∙ sym (whole.marks d m);
    holds = λ d. ap wait_shown (c.new-2.ensures.holds d) ∙ sym (fresh_waits (b.state d) (whole.fresh d));
  });
  shows = record { past = c.in_ok-times.ensures.past; last = c.in_ok-times.ensures.last };
}
