-- Rules 1 to 3 at once.
use Rattle.board_laws.proofs.Goings.{turn_board}
use Rattle.board_laws.proofs.who_goes_on_goes_at_once.Goals as goal

pub returns : goal.returns
returns c = λ b p step rests zones run clean. turn_board b p step run rests.uncalled (record { zones = zones; none = rests.takes_free }) clean.going
