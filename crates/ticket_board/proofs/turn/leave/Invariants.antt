use Rattle.coord_core.specs.Histories.{history_of}
use Rattle.ticket_board.proofs.turn.leave.Given as goal

abbrev pub ghosts-count : goal.ghosts-count
ghosts-count a = record { after = history_of a.held.now }
