-- Steps. Counters in a table that tell the events of a run.
use Rattle.std.specs.Prelude.{◌≡◌, ℕ, ◌<◌, ◌&&◌, not, nat_lt, Bool, List, length}
use Rattle.counter_rows.specs.Rows.{count_of}
use Rattle.counter_rows.specs.Tables.{TableView, row_at}
use Rattle.order_clocks.specs.Courses.{Course, IsEventIn}
use Rattle.order_clocks.specs.Counters.{row}
use Rattle.sync_types.specs.Events.{is_same_event}
use Rattle.sync_types.specs.declared.runs.EventId.{EventId}

abbrev pub row_in : TableView → EventId → List ℕ
row_in table e = row_at table e.step e.channel e.go

-- the table has the counters of all events of the run
pub record Tells (run : Course) (table : TableView) : Type 0 where
  pub rows : (e : EventId) → IsEventIn run e → e.step < length table.steps → (c : ℕ) → count_of (row_in table e) c ≡ row run e c

-- another event, which counts the events of the first one's channel up to it
abbrev pub is_before_in : TableView → EventId → EventId → Bool
is_before_in table a b = not (is_same_event a b) && not (nat_lt (count_of (row_in table b) a.channel) (count_of (row_in table a) a.channel))
