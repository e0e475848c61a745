-- Steps. Events as the code has them, the races of two of them, and the least of races.
use Rattle.order_clocks.specs.declared.events.TheConstants.{EVENT_PLACES}
use Rattle.axis_sets.specs.declared.limits.TheConstants.{CHANNEL_PLACES}
use Rattle.std.specs.Prelude.{◌≡◌, ℕ, ◌<◌, ◌⊎◌, ◌↔◌, ◌==◌, ◌&&◌, ◌||◌, Bool, true, false, List, [], Option, Some, None, MatchOption, length, slice_index_or}
use Rattle.axis_sets.specs.Sets.{has}
use Rattle.counter_rows.specs.Rows.{count_of}
use Rattle.order_clocks.specs.Chains.{IsIn}
use Rattle.order_clocks.specs.Counters.{row}
use Rattle.order_clocks.specs.Courses.{Course, IsEventIn}
use Rattle.order_clocks.specs.LastPlaces.{IsTracked, deed_leaves, deed_minds, leaves_of, departure_minds}
use Rattle.order_clocks.specs.RaceOrder.{IsUpTo, numbers_of, letter_c, letter_d, letter_f}
use Rattle.order_clocks.specs.TracedRaces.{Trace, Lowered, Needed, Took, Touched, shown}
use Rattle.order_clocks.specs.Steps.{AreRows, IsStep}
use Rattle.order_clocks.specs.Tracks.{Tracks}
use Rattle.counter_rows.specs.declared.table.StepClocks.{StepClocks}
use Rattle.step_deeds.specs.declared.deed.StepEvents.{StepEvents}
use Rattle.step_deeds.specs.declared.deed.Wakeup.{Wakeup}
use Rattle.step_deeds.specs.declared.deed.WaitAt.{WaitAt}
use Rattle.order_clocks.specs.declared.events.Event.{Event}
use Rattle.step_deeds.specs.declared.named.NamedMarks.{NamedMarks}
use Rattle.order_clocks.specs.declared.pairs.RaceTiming.{RaceTiming}
use Rattle.order_clocks.specs.declared.pairs.RaceTiming.TheVariants.{Later, Together, Waiting}
use Rattle.sync_types.specs.declared.runs.EventId.{EventId}
use Rattle.sync_types.specs.declared.runs.Race.{Race}
use Rattle.step_deeds.specs.Holds.{asks_of_hold, goes_in, is_given, line_of, marks_of_hold, named_marks, waits_in}

-- the race is the old or the new one, and up to both
abbrev pub IsLeastOf : Option Race → Race → Race → Type 0
IsLeastOf old new least =
    ((least ≡ new) ⊎ (old ≡ Some least))
    × (IsUpTo (numbers_of least) (numbers_of new) × MatchOption old (Unit {0}) (λ other. IsUpTo (numbers_of least) (numbers_of other)))

-- the least of some races and an old one, none where there are none
pub record IsLeastWith (some : Race → Type 0) (old new : Option Race) : Type 0 where
  pub from : (r : Race) → new ≡ Some r → some r ⊎ (old ≡ Some r)
  pub least : (q : Race) → some q ⊎ (old ≡ Some q) → (r : Race) × ((new ≡ Some r) × IsUpTo (numbers_of r) (numbers_of q))

-- what an event leaves and minds
abbrev pub left_by : Event → Trace → Bool
left_by e (Lowered c m) = has e.lowers m && (c == e.channel)
left_by e (Needed c m) = waits_in e.needs m c
left_by e (Took x) = has e.took x
left_by e (Touched c) = has e.touches c

abbrev pub minded_by : Event → Trace → Bool
minded_by e (Lowered c m) = waits_in e.waits m c
minded_by e (Needed c m) = has e.lowers m && (c == e.channel)
minded_by e (Took x) = has e.asks x
minded_by e (Touched c) = has e.touches c

-- the two meet at a trace
pub record IsMet (e l : Event) (t : Trace) : Type 0 where
  pub left : left_by e t ≡ true
  pub minded : minded_by l t ≡ true

-- the later event is of another channel and does not count the earlier
abbrev pub IsUnordered : Event → Event → Type 0
IsUnordered e l = ((e.channel == l.channel) ≡ false) × (count_of l.row e.channel < count_of e.row e.channel)

pub record IsApartPair (e l : Event) (race : Race) : Type 0 where
  pub apart : IsUnordered e l
  pub trace : Trace
  pub met : IsMet e l trace
  pub is : race ≡ shown trace (e.channel, e.line) (l.channel, l.line)

-- two go on at one number, the one names the other, and they and those that they name are not the same
abbrev pub AreUnlike : Option NamedMarks → Option NamedMarks → ℕ → ℕ → Type 0
AreUnlike (Some one) (Some two) c d =
    (one.number ≡ two.number) × ((has one.named d ≡ true) × ((x : ℕ) × ((((x == c) || has one.named x) ≡ ((x == d) || has two.named x)) → ⊥)))
AreUnlike (Some one) None c d = ⊥
AreUnlike None two c d = ⊥

pub record IsUnlikePair (e l : Event) (race : Race) : Type 0 where
  pub unlike : AreUnlike e.needs l.needs e.channel l.channel
  pub is : race ≡ record { case = letter_d; first = (l.channel, l.line); second = (e.channel, e.line) }

-- another channel waits for a mark that the event lowers, or for an axis that it takes
pub record IsWaitingPair (e l : Event) (race : Race) : Type 0 where
  pub other : (e.channel == l.channel) ≡ false
  pub met : (((c m : ℕ) × IsMet e l (Lowered c m)) × (race ≡ record { case = letter_c; first = (e.channel, e.line); second = (l.channel, l.line) }))
      ⊎ (((x : ℕ) × IsMet e l (Took x)) × (race ≡ record { case = letter_f; first = (e.channel, e.line); second = (l.channel, l.line) }))

abbrev pub IsPairRace : RaceTiming → Event → Event → Race → Type 0
IsPairRace Later e l race = IsApartPair e l race
IsPairRace Together e l race = IsUnlikePair e l race
IsPairRace Waiting e l race = IsWaitingPair e l race

pub record IsRaceOver (meeting : RaceTiming) (events : List (Option Event)) (count : ℕ) (l : Event) (race : Race) : Type 0 where
  pub place : ℕ
  pub within : place < count
  pub early : Event
  pub there : slice_index_or events place None ≡ Some early
  pub race_of : IsPairRace meeting early l race

pub record IsRaceBetween (meeting : RaceTiming) (earlies lates : List (Option Event)) (count : ℕ) (race : Race) : Type 0 where
  pub place : ℕ
  pub within : place < count
  pub late : Event
  pub there : slice_index_or lates place None ≡ Some late
  pub race_of : IsRaceOver meeting earlies EVENT_PLACES late race

-- the event is the one of this name
pub record IsEventOf (run : Course) (tracks : Tracks) (name : EventId) (e : Event) : Type 0 where
  pub event : IsEventIn run name
  pub channel : e.channel ≡ name.channel
  pub line : e.line ≡ tracks.line name
  pub row : (x : ℕ) → count_of e.row x ≡ row run name x
  pub left : (t : Trace) → (left_by e t ≡ true) ↔ (tracks.leaves name t ≡ true)
  pub minded : (t : Trace) → (minded_by e t ≡ true) ↔ (tracks.minds name t ≡ true)

-- the event of a step at a place: 9 for the act, and a channel's for its going on
pub record IsActEvent (deed : StepEvents) (row : List ℕ) (e : Event) : Type 0 where
  pub channel : e.channel ≡ deed.channel
  pub line : e.line ≡ deed.line
  pub row_is : e.row ≡ row
  pub left : (t : Trace) → left_by e t ≡ deed_leaves deed t
  pub minded : (t : Trace) → (minded_by e t ≡ true) ↔ IsIn t (deed_minds deed)
  pub needs : e.needs ≡ None

pub record IsGoEvent (goes : List (Option Wakeup)) (rows : List (List ℕ)) (c : ℕ) (e : Event) : Type 0 where
  pub goes_there : is_given (slice_index_or goes c None) ≡ true
  pub channel : e.channel ≡ c
  pub line : e.line ≡ line_of (slice_index_or goes c None)
  pub row_is : e.row ≡ slice_index_or rows c []
  pub left : (t : Trace) → left_by e t ≡ leaves_of c (slice_index_or goes c None) t
  pub minded : (t : Trace) → (minded_by e t ≡ true) ↔ IsIn t (departure_minds c (slice_index_or goes c None))
  pub needs : e.needs ≡ named_marks (slice_index_or goes c None)

abbrev pub IsGoAt : List (Option Wakeup) → List (List ℕ) → ℕ → Option Event → Type 0
IsGoAt goes rows c (Some e) = IsGoEvent goes rows c e
IsGoAt goes rows c None = is_given (slice_index_or goes c None) ≡ false

abbrev pub IsActAt : StepEvents → List ℕ → Option Event → Type 0
IsActAt deed row (Some e) = IsActEvent deed row e
IsActAt deed row None = ⊥

-- the list has the events of the step
pub record AreEvents (deed : StepEvents) (rows : StepClocks) (events : List (Option Event)) : Type 0 where
  pub go : (c : ℕ) → 0 < c → c < CHANNEL_PLACES → IsGoAt deed.goes rows.goes c (slice_index_or events c None)
  pub none : slice_index_or events 0 None ≡ None
  pub act : IsActAt deed rows.act (slice_index_or events CHANNEL_PLACES None)

-- the event is the wait of a channel
pub record IsWaitEvent (held : WaitAt) (c : ℕ) (e : Event) : Type 0 where
  pub channel : e.channel ≡ c
  pub line : e.line ≡ held.line
  pub waits : e.waits ≡ marks_of_hold held.hold
  pub asks : (x : ℕ) → has e.asks x ≡ asks_of_hold held.hold x

abbrev pub IsWaitAt : Option WaitAt → ℕ → Option Event → Type 0
IsWaitAt (Some held) c (Some e) = IsWaitEvent held c e
IsWaitAt (Some held) c None = ⊥
IsWaitAt None c (Some e) = ⊥
IsWaitAt None c None = Unit {0}

-- the list has the waits of the channels
pub record AreWaits (holds : List (Option WaitAt)) (waits : List (Option Event)) : Type 0 where
  pub wait : (c : ℕ) → 0 < c → c < CHANNEL_PLACES → IsWaitAt (slice_index_or holds c None) c (slice_index_or waits c None)
  pub first : slice_index_or waits 0 None ≡ None
  pub last : slice_index_or waits CHANNEL_PLACES None ≡ None

-- the deed is the step of the run, with its traces and rows; only channels from 1 to 8 go on
pub record IsKnownStep (run : Course) (tracks : Tracks) (i : ℕ) (deed : StepEvents) (rows : StepClocks) : Type 0 where
  pub is : IsStep run i deed
  pub tracked : IsTracked tracks i deed
  pub are : AreRows run i rows
  pub from_one : goes_in deed 0 ≡ false
  pub size : length deed.goes ≡ CHANNEL_PLACES
