use Rattle.std.proofs.Common.{◌≡◌, arith}
use Rattle.std.proofs.Common.{add-one}
use Rattle.order_clocks.specs.Clocked.{moves_in}
use Rattle.order_clocks.specs.CourseOf.{course_of}
use Rattle.order_clocks.specs.Tracks.{tracks_of}
use Rattle.order_clocks.proofs.StepRaceLaws.{earlier_more, earlier_start}
use Rattle.order_clocks.proofs.search.least_before.Goals as goal

pub loop-j-init : goal.loop-j-init
loop-j-init c = record {
  reader = λ b reader. rw c.in_ok-reader.ensures reader;
  least = λ b late rows reader known are. earlier_start (course_of b (moves_in c.args.replay.now.entries.now)) (tracks_of b (moves_in c.args.replay.now.entries.now)) c.args.place c.args.start;
}

pub loop-j-preserved : goal.loop-j-preserved
loop-j-preserved c = record {
  reader = λ b reader. rw add-one (c.next.ensures.next b (c.loop-j.invariant.reader b reader));
  least = λ b late rows reader known are. rw add-one (
      let read = c.next.ensures.read b (c.loop-j.invariant.reader b reader) in
      earlier_more (course_of b (moves_in c.args.replay.now.entries.now)) (tracks_of b (moves_in c.args.replay.now.entries.now)) c.loop-j.j c.args.place c.next.new.read.deed late c.next.new.read.rows rows c.put_events.new.events c.args.lates.now
      c.args.start c.loop-j.least c.least_between-least.result read.known known c.put_events.ensures are c.loop-j-test.true (c.loop-j.invariant.least b late rows reader known are) c.least_between-least.ensures);
}

pub returns : goal.returns
returns c = λ b late rows reader known are.
    let low = c.loop-j-test.false in
    let high = c.loop-j.auto.j-end in
    let last : c.loop-j.j ≡ c.args.place = omega arith in
    rw last at (c.loop-j.invariant.least b late rows reader known are)
