use Rattle.std.proofs.Common.{◌≡◌, ◌∙◌, rules, ℕ, length, ap, subst, add-one}
use Rattle.order_clocks.proofs.WholeLaws.{board_zero}
use Rattle.order_clocks.specs.Clocked.{moves_in}
use Rattle.order_clocks.specs.Happenings.{board_at}
use Rattle.explain_ends.specs.LastBoards.{IsTold}
use Rattle.explain_ends.proofs.RunLaws.{board_at_end, step_told}
use Rattle.sync_types.specs.Boards.{Board}
use Rattle.explain_ends.proofs.boards.board_after.Goals as goal

pub loop-place-init : goal.loop-place-init
loop-place-init c = record {
  reader = c.new-reader.ensures;
  told = λ b whole told. rw (board_zero (moves_in c.args.entries.now) b) told;
}

pub loop-place-preserved : goal.loop-place-preserved
loop-place-preserved c = record {
  reader = λ b whole. rw add-one (c.next-read.ensures.next b (c.loop-place.invariant.reader b whole));
  told = λ b whole told.
      let at = c.loop-place.invariant.reader b whole in
      rw add-one
      (step_told c.args.entries.now b c.loop-place.place c.loop-place.board c.tell.new.self c.next-read.result.deed c.loop-place-test.true at.entries (c.next-read.ensures.read b at).deed
      c.tell.ensures (c.loop-place.invariant.told b whole told));
}

pub returns : goal.returns
returns c b whole told =
    let last : c.loop-place.place ≡ length c.args.entries.now = search rules in
    subst (λ (a : Board). IsTold c.loop-place.board a) (ap (λ (i : ℕ). board_at b (moves_in c.args.entries.now) i) last ∙ board_at_end c.args.entries.now b) (c.loop-place.invariant.told b whole told)
