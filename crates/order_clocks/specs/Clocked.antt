-- Meaning. What a contract sees of the clocks of a run: which event is before which, and the first race.
use Rattle.std.specs.Prelude.{◌≡◌, ◌↔◌, Bool, true, List, map, Option}
use Rattle.counter_rows.specs.Tables.{TableView}
use Rattle.order_clocks.specs.Before.{Before}
use Rattle.sync_types.specs.Boards.{Board}
use Rattle.sync_types.specs.Events.{IsLowestName}
use Rattle.sync_types.specs.Turns.{Move}
use Rattle.sync_types.specs.Views.{EntryView}
use Rattle.sync_types.specs.declared.runs.EventId.{EventId}
use Rattle.sync_types.specs.declared.runs.Race.{Race}

-- the counters of all events, and the first race
pub record ClocksView : Type 0 where
  pub rows : TableView
  pub race : Option Race

-- the steps of these entries
abbrev pub moves_in : List EntryView → List Move
moves_in entries = map (λ e. record { channel = e.channel; step = e.step }) entries

-- the test tells of any two events of the run, by their lowest names, whether the one is before the other
abbrev pub IsOrderOf : Board → List Move → (EventId → EventId → Bool) → Type 0
IsOrderOf b moves test = (e f : EventId) → IsLowestName b moves e → IsLowestName b moves f → (test e f ≡ true) ↔ Before b moves e f
