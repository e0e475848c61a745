use Rattle.std.proofs.Common.{◌≡◌, ◌+◌, add-one, length, refl, sym, ◌∙◌, arith}
use Rattle.order_clocks.specs.Clocked.{moves_in}
use Rattle.order_clocks.specs.CourseOf.{course_of}
use Rattle.order_clocks.proofs.BeforeLaws.{order_law}
use Rattle.order_clocks.proofs.CountingLaws.{tells_more}
use Rattle.order_clocks.proofs.WholeLaws.{moves_size}
use Rattle.order_clocks.proofs.counting.read_run.Goals as goal

pub loop-place-init : goal.loop-place-init
loop-place-init c =
    let none : length c.in_ok-table.table.steps ≡ 0 = c.in_ok-table.ensures in
    record {
      size = none;
      first = λ b whole. c.in_ok-first.ensures b whole;
      reader = λ b whole. rw c.in_ok-reader.ensures (c.in_ok-first.ensures b whole);
      searched = λ b whole. c.in_ok-search.ensures b (moves_in c.args.entries.now);
      tells = λ b whole. record { rows = λ e event within x. absurd (omega arith) };
    }

pub loop-place-preserved : goal.loop-place-preserved
loop-place-preserved c =
    let i = c.loop-place.invariant in
    let sized = i.size in
    let more : length c.push.new.self.steps ≡ length c.loop-place.table.steps + 1 = c.in_ok-push.ensures.size refl in
    record {
      size = omega arith;
      first = i.first;
      reader = λ b whole. rw add-one (c.next.ensures.next b (i.reader b whole));
      searched = λ b whole. rw add-one (c.in_ok-look.ensures b (i.first b whole) (c.next.ensures.read b (i.reader b whole)) (i.searched b whole) refl);
      tells = λ b whole.
          let read = c.next.ensures.read b (i.reader b whole) in
          tells_more (course_of b (moves_in c.args.entries.now)) c.loop-place.table c.push.new.self c.next.new.read.rows c.goers.result (i.tells b whole)
          (rw i.size read.known.are) more (c.in_ok-push.ensures.kept refl) (c.in_ok-push.ensures.act refl) (c.in_ok-push.ensures.goes refl)
          (rw i.size (λ d. read.known.is.goers d ∙ sym (c.goers.ensures.members d)));
    }

pub returns-clause-order : goal.returns-clause-order
returns-clause-order c = λ b whole.
    let low = c.loop-place-test.false in
    let high = c.loop-place.auto.place-end in
    let sized = c.loop-place.invariant.size in
    let size : length c.loop-place.table.steps ≡ length c.args.entries.now = omega arith in
    rw c.of.ensures (λ e f low_e low_f. order_law b (moves_in c.args.entries.now) c.loop-place.table e f (size ∙ sym (moves_size c.args.entries.now)) (c.loop-place.invariant.tells b whole) low_e low_f)

pub returns-clause-race : goal.returns-clause-race
returns-clause-race c = λ b whole.
    let low = c.loop-place-test.false in
    let high = c.loop-place.auto.place-end in
    let last : c.loop-place.place ≡ length c.args.entries.now = omega arith in
    rw c.of.ensures (rw last at ((c.loop-place.invariant.searched b whole).first))
