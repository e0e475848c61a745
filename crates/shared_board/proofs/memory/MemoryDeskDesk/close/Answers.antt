use Rattle.std.proofs.Common.{ap}
use Rattle.coord_core.specs.Boards.{BoardView}
use Rattle.shared_board.proofs.Alone.{closes_alone}
use Rattle.shared_board.proofs.memory.MemoryDeskDesk.close.Goals as goal

pub returns-clause-told : goal.returns-clause-told
returns-clause-told g c = closes_alone c.args.pass.now.channel c.args.pass.now.locked c.close_turn.new.locked (ap (λ (v : BoardView). v.start) c.close_turn.ensures.board)
    c.entries-lawful.ensures.lawful c.close_turn.ensures.turn
