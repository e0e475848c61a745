-- Meaning. What contracts see of a board: where it started, its entries, and the room for more.
use Rattle.std.specs.Prelude.{◌≡◌, ℕ, ◌-◌, List, [], ◌∷◌, ◌++◌}
use Rattle.coord_core.specs.declared.ChannelState.{ChannelState}
use Rattle.coord_core.specs.declared.ChannelState.TheVariants.{Idle, Running, Holding, Ended, Alarmed}
use Rattle.sync_types.specs.Boards.{State, IsIdle, IsRunning, IsHolding, HasEnded, HasAlarmed, Board, first_board}
use Rattle.sync_types.specs.Turns.{after_entries, entry_of}
use Rattle.sync_types.specs.Views.{StartView, EntryView}
use Rattle.sync_types.specs.declared.Step.{Step}

-- where a board started, its steps so far, and how many more there is room for
pub record BoardView : Type 0 where
  pub start : StartView
  pub entries : List EntryView
  pub spare : ℕ

-- what the board is: the replay of its entries from its start
abbrev pub replayed : BoardView → Board
replayed view = after_entries (first_board view.start) view.entries

-- with the entry of one more step
abbrev pub with_step : BoardView → ℕ → Step → BoardView
with_step view c step = record view { entries = view.entries ++ entry_of (replayed view) c step ∷ [] }

-- the room for one entry is used
abbrev pub with_step_reserved : BoardView → ℕ → Step → BoardView
with_step_reserved view c step = record (with_step view c step) { spare = view.spare - 1 }

-- they started alike and have the same entries
pub record HaveSameEntries (one other : BoardView) : Type 0 where
  pub start : one.start ≡ other.start
  pub entries : one.entries ≡ other.entries

-- what is told of the state of a channel
abbrev pub channel_state : State → ChannelState
channel_state IsIdle = Idle
channel_state (IsRunning grant) = Running
channel_state (IsHolding hold line) = Holding line
channel_state (HasEnded line) = Ended line
channel_state (HasAlarmed code line) = Alarmed (record { code = code; line = line })
