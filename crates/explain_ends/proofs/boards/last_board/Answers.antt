use Rattle.std.proofs.Common.{List, subst}
use Rattle.order_clocks.proofs.WholeLaws.{whole_of}
use Rattle.order_clocks.specs.Stops.{IsWhole}
use Rattle.explain_ends.specs.LastBoards.{IsTold}
use Rattle.explain_ends.proofs.RunLaws.{first_told}
use Rattle.sync_types.specs.Boards.{first_board}
use Rattle.sync_types.specs.Turns.{after_entries}
use Rattle.sync_types.specs.Views.{EntryView}
use Rattle.explain_ends.proofs.boards.last_board.Goals as goal

pub board_after-requires-clause-whole : goal.board_after-requires-clause-whole
board_after-requires-clause-whole c = (first_board c.args.start.now, rw (c.entries.ensures, c.ends.ensures) (whole_of c.args.start.now c.args.run.now c.requires.whole))

pub returns : goal.returns
returns c =
    let whole : IsWhole (first_board c.args.start.now) c.entries.result.now c.ends.result.now = rw (c.entries.ensures, c.ends.ensures) (whole_of c.args.start.now c.args.run.now c.requires.whole) in
    subst (λ (es : List EntryView). IsTold c.board_after.result (after_entries (first_board c.args.start.now) es)) c.entries.ensures
    (c.board_after.ensures (first_board c.args.start.now) whole (first_told c.args.start.now c.first.result c.first.ensures.marks c.first.ensures.holds c.first.ensures.owners))
