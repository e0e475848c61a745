-- Meaning. The passes of a board, and what a pass tells that has the board for itself.
use Rattle.std.specs.Prelude.{ℕ, List, filter, map}
use Rattle.coord_core.specs.Desks.{Told}
use Rattle.coord_core.specs.Histories.{history_of}
use Rattle.coord_core.specs.declared.locked.Locked.{Locked}
use Rattle.shared_board.specs.declared.shared.Pass.{Pass}
use Rattle.sync_types.specs.Boards.{channel_numbers}
use Rattle.sync_types.specs.Starts.{has_channel}
use Rattle.sync_types.specs.Views.{StartView}

abbrev pub pass_of : ℕ → Pass
pass_of c = record { channel = c }

-- one for each channel of the start, the lowest first
abbrev pub passes_of : StartView → List Pass
passes_of start = map pass_of (filter (has_channel start) channel_numbers)

-- all that there is of the board
abbrev pub told_of : ℕ → Locked → Told
told_of c locked = record { channel = c; start = locked.board.start; seen = history_of locked }
