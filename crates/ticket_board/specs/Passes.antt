-- Meaning. What a pass of a board of tickets tells, what its calls tell of the closing, and what the board leaves once its passes are back.
use Rattle.std.specs.Prelude.{◌≡◌, ◌⊎◌, ◌↔◌, ◌||◌, ◌≤◌, ℕ, Bool, true, false, not, List, [], ◌∷◌, ◌++◌, filter, length, map, All, Option, Some}
use Rattle.std.specs.List.{list_any}
use Rattle.atomic_table.specs.Seated.{TableId}
use Rattle.coord_core.specs.BoardTurns.{closed_after}
use Rattle.coord_core.specs.Boards.{BoardView}
use Rattle.coord_core.specs.Desks.{Told, SeesOn, own_entries}
use Rattle.coord_core.specs.Histories.{History}
use Rattle.coord_core.specs.declared.outcome.Outcome.{Outcome}
use Rattle.coord_core.specs.declared.outcome.Outcome.TheVariants.{Closed, NoMemory}
use Rattle.sync_types.specs.Boards.{channel_numbers}
use Rattle.sync_types.specs.Starts.{has_channel}
use Rattle.sync_types.specs.Views.{StartView, EntryView}
use Rattle.sync_types.specs.declared.Step.{Step}

-- a board: which one it is, and where it started
pub record TicketBoardView : Type 0 where
  pub table_id : TableId
  pub start : StartView

-- a pass: to which board it belongs, its channel, where the board started, what it has seen of the history, the entries that it has made, and
-- whether the closing mark was put with it
pub record TicketPassView : Type 0 where
  pub table_id : TableId
  pub channel : ℕ
  pub start : StartView
  pub seen : History
  pub mine : List EntryView
  pub shut : Bool

abbrev pub told_of : TicketPassView → Told
told_of pass = record { channel = pass.channel; start = pass.start; seen = pass.seen }

abbrev pub IsPassOf : TicketBoardView → TicketPassView → Type 0
IsPassOf board pass = (pass.table_id ≡ board.table_id) × (pass.start ≡ board.start)

-- the channels of a start, the lowest first
abbrev pub channels_of : StartView → List ℕ
channels_of start = filter (has_channel start) channel_numbers

-- the history before the first step
abbrev pub no_history : History
no_history = record { entries = []; closed = false }

-- the pass of a channel with which nothing was done yet, and one for each channel of the start
abbrev pub fresh_pass : TicketBoardView → ℕ → TicketPassView
fresh_pass board c = record { table_id = board.table_id; channel = c; start = board.start; seen = no_history; mine = []; shut = false }

abbrev pub fresh_passes : TicketBoardView → List TicketPassView
fresh_passes board = map (fresh_pass board) (channels_of board.start)

-- whether a call answers that no memory was found
abbrev pub is_no_memory : Outcome → Bool
is_no_memory NoMemory = true
is_no_memory other = false

-- Who had seen the board closed is told Closed, and sees nothing more. Closed is told exactly where the history that the pass has seen then
-- ends with the closing mark, and the call itself did not put that there. Who sees the board closed is told so, or has closed it for want of
-- memory.
pub record TellsClosing (before : TicketPassView) (outcome : Outcome) (after : TicketPassView) : Type 0 where
  pub stays : before.seen.closed ≡ true → (outcome ≡ Closed) × (after.seen ≡ before.seen)
  pub closed : (outcome ≡ Closed) ↔ ((after.seen.closed ≡ true) × (after.shut ≡ before.shut))
  pub told : after.seen.closed ≡ true → (outcome ≡ Closed) ⊎ (outcome ≡ NoMemory)

-- A pass closes the board: it finds a history that begins with what it has seen, and puts the closing mark exactly where that has none.
pub record PutsMark (before after : TicketPassView) : Type 0 where
  pub found : History
  pub seen : SeesOn before.channel before.seen found
  pub closed : after.seen ≡ closed_after found
  pub shut : after.shut ≡ (before.shut || not found.closed)

-- With a pass a step was brought: its entry is the last that the pass has made. Or none was made of it, and Closed or NoMemory is told.
pub data Makes (before : TicketPassView) (step : Step) (answer : Option Outcome) (after : TicketPassView) : Type 0 where
  AnEntry : (entry : EntryView) → entry.step ≡ step → after.mine ≡ before.mine ++ entry ∷ [] → Makes before step answer after
  NoEntry : after.mine ≡ before.mine → (answer ≡ Some Closed) ⊎ (answer ≡ Some NoMemory) → Makes before step answer after

-- The history begins with what the pass has seen, and is that where it was closed. Of the channel of the pass it has the entries that the
-- pass has made, in order, and no other. Where the mark was put with the pass, it has seen that.
pub record EndsFor (history : History) (pass : TicketPassView) : Type 0 where
  pub seen : SeesOn pass.channel pass.seen history
  pub mine : own_entries pass.channel history.entries ≡ pass.mine
  pub shut : pass.shut ≡ true → pass.seen.closed ≡ true

-- The board is that of one history, with which each pass ends. It is closed exactly where the mark was put with a pass, and exactly where a
-- pass has seen that. The mark was put with one pass at most.
pub record HasOneHistory (passes : List TicketPassView) (board : BoardView) : Type 0 where
  pub history : History
  pub entries : board.entries ≡ history.entries
  pub each : All (EndsFor history) passes
  pub closed : history.closed ≡ list_any (λ pass. pass.shut) passes
  pub seen : history.closed ≡ list_any (λ pass. pass.seen.closed) passes
  pub once : length (filter (λ pass. pass.shut) passes) ≤ 1
