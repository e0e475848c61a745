-- Steps. A step of a run as the code has it, and arrays that show the counters.
use Rattle.std.specs.Prelude.{◌≡◌, ℕ, ◌+◌, ◌<◌, ◌^◌, ◌↔◌, ◌==◌, ◌&&◌, Bool, true, false, List, [], ◌∷◌, map, Option, Some, None, slice_index, slice_index_or, length}
use Rattle.order_clocks.specs.Happenings.{Key, Raised, Freed, Started, Ended}
use Rattle.axis_sets.specs.Sets.{has, members_of}
use Rattle.sync_types.specs.Boards.{among}
use Rattle.sync_types.specs.declared.runs.EventId.{EventId}
use Rattle.order_clocks.specs.Chains.{IsIn}
use Rattle.order_clocks.specs.Courses.{Course}
use Rattle.order_clocks.specs.Counters.{LastRows, row}
use Rattle.counter_rows.specs.Rows.{count_of}
use Rattle.step_deeds.specs.declared.deed.Hold.{Hold}
use Rattle.step_deeds.specs.declared.deed.Hold.TheVariants.{Marks, Ends, Axes}
use Rattle.step_deeds.specs.declared.deed.WaitAt.{WaitAt}
use Rattle.step_deeds.specs.declared.deed.Wakeup.{Wakeup}
use Rattle.step_deeds.specs.declared.deed.StepEvents.{StepEvents}
use Rattle.order_clocks.specs.declared.times.LastClocks.{LastClocks}
use Rattle.counter_rows.specs.declared.table.StepClocks.{StepClocks}
use Rattle.step_deeds.specs.Holds.{departure_of, goes_in}

abbrev pub act_name : ℕ → ℕ → EventId
act_name i c = record { step = i; channel = c; go = false }

abbrev pub go_name : ℕ → ℕ → EventId
go_name i c = record { step = i; channel = c; go = true }

-- the keys that an Act gives
abbrev pub gives_of : StepEvents → Key → Bool
gives_of deed (Raised c m) = has deed.raises m && (c == deed.channel)
gives_of deed (Freed x) = has deed.frees x
gives_of deed (Started c) = has deed.starts c
gives_of deed (Ended c) = deed.ends && (c == deed.channel)

-- the keys that a Go rests on
abbrev pub rests_of : List Bool → Hold → List Key
rests_of took (Marks m named) = map (λ d. Raised d m) (members_of named)
rests_of took (Ends named) = map Ended (members_of named)
rests_of took (Axes axes) = map Freed (members_of took)

abbrev pub rests_at : ℕ → List Bool → Option WaitAt → List Key
rests_at c took None = Started c ∷ []
rests_at c took (Some held) = rests_of took held.hold

abbrev pub keys_of : ℕ → Option Wakeup → List Key
keys_of c (Some gone) = rests_at c gone.took gone.held
keys_of c None = []

-- the step of the run is this deed: the order of those that go is free, and so are the numbers of their groups
pub record IsStep (run : Course) (i : ℕ) (deed : StepEvents) : Type 0 where
  pub actor : run.actor i ≡ deed.channel
  pub gives : (k : Key) → run.gives i k ≡ gives_of deed k
  pub goers : (c : ℕ) → among (run.goers i) c ≡ goes_in deed c
  pub asks : (c : ℕ) → goes_in deed c ≡ true → (k : Key) → IsIn k (run.asks i c) ↔ IsIn k (keys_of c (departure_of deed c))
  pub group : (c d : ℕ) → goes_in deed c ≡ true → goes_in deed d ≡ true → (run.group i d == run.group i c) ≡ (slice_index deed.group d == slice_index deed.group c)

-- the row of the last Act that gave a key
abbrev pub row_at : LastClocks → Key → List ℕ
row_at t (Raised c m) = slice_index_or (slice_index_or t.raised m []) c []
row_at t (Freed x) = slice_index_or t.freed x []
row_at t (Started c) = slice_index_or t.started c []
row_at t (Ended c) = slice_index_or t.ended c []

-- the arrays have these counters
pub record Shows (t : LastClocks) (s : LastRows) : Type 0 where
  pub past : (c x : ℕ) → count_of (slice_index_or t.past c []) x ≡ s.past c x
  pub last : (k : Key) (x : ℕ) → count_of (row_at t k) x ≡ s.last k x

-- all counters leave room for so many events
pub record HasRoom (t : LastClocks) (events : ℕ) : Type 0 where
  pub past : (c x : ℕ) → count_of (slice_index_or t.past c []) x + events < 2 ^ 64
  pub last : (k : Key) (x : ℕ) → count_of (row_at t k) x + events < 2 ^ 64

-- the rows of a step's events
pub record AreRows (run : Course) (i : ℕ) (rows : StepClocks) : Type 0 where
  pub act : (x : ℕ) → count_of rows.act x ≡ row run (act_name i (run.actor i)) x
  pub goes : (c x : ℕ) → among (run.goers i) c ≡ true → count_of (slice_index_or rows.goes c []) x ≡ row run (go_name i c) x

abbrev pub no_deed : StepEvents
no_deed = record { channel = 0; line = 0; raises = []; lowers = []; frees = []; starts = []; ends = false; touches = []; begins = None; goes = []; group = [] }

abbrev pub deed_at : List StepEvents → ℕ → StepEvents
deed_at deeds i = slice_index_or deeds i no_deed

-- the first steps of the run are these deeds
pub record AreSteps (run : Course) (deeds : List StepEvents) : Type 0 where
  pub step : (i : ℕ) → i < length deeds → IsStep run i (deed_at deeds i)
