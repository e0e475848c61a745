-- Meaning. The history of a board that may be closed, and what a channel is told of it.
use Rattle.std.specs.Prelude.{ℕ, Bool, true, false, List, Option, Some, None, if◌then◌else◌}
use Rattle.coord_core.specs.declared.locked.Locked.{Locked}
use Rattle.coord_core.specs.declared.outcome.Outcome.{Outcome}
use Rattle.coord_core.specs.declared.outcome.Outcome.TheVariants.{Granted, Done, Over, Closed}
use Rattle.sync_types.specs.Boards.{State, IsRunning, HasEnded, HasAlarmed, Board, first_board, is_running}
use Rattle.sync_types.specs.Runs.{is_over}
use Rattle.sync_types.specs.Turns.{after_entries}
use Rattle.sync_types.specs.Views.{StartView, EntryView}

-- the entries of a board, and whether the board was closed after them
pub record History : Type 0 where
  pub entries : List EntryView
  pub closed : Bool

abbrev pub history_of : Locked → History
history_of locked = record { entries = locked.board.entries; closed = locked.closed }

-- the board that a history leaves
abbrev pub board_of : StartView → History → Board
board_of start history = after_entries (first_board start) history.entries

abbrev pub runs : StartView → History → ℕ → Bool
runs start history c = is_running ((board_of start history).state c)

-- what is told of a channel in this state, with whether no channel runs: nothing where it waits or is idle while another runs
abbrev pub outcome_in : State → Bool → Option Outcome
outcome_in (IsRunning grant) over = Some (Granted grant)
outcome_in (HasEnded line) over = Some Done
outcome_in (HasAlarmed code line) over = Some Done
outcome_in other over = if over then Some Over else None

-- of a closed board that alone is told
abbrev pub outcome_at : Bool → State → Bool → Option Outcome
outcome_at true state over = Some Closed
outcome_at false state over = outcome_in state over

-- what a channel is told after a history; none where it has to wait
unfoldable pub answer_of : StartView → History → ℕ → Option Outcome
answer_of start history c = outcome_at history.closed ((board_of start history).state c) (is_over (board_of start history))
