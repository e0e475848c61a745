-- Meaning. The events of each channel of a run in their order, and runs that have the same events in the same order.
use Rattle.std.specs.Prelude.{◌≡◌, ◌↔◌, ℕ, zero, suc, List, [], ◌∷◌, ◌++◌, length, Option, Some, None, true, false, if◌then◌else◌}
use Rattle.order_clocks.specs.Before.{Before}
use Rattle.sync_types.specs.Boards.{Board, among, is_this}
use Rattle.sync_types.specs.Events.{AreOne, actor_at, goings_at, channels_in}
use Rattle.sync_types.specs.Turns.{Move}
use Rattle.sync_types.specs.declared.runs.EventId.{EventId}

-- those of a channel in the step of this place: its act, and then that it goes on
abbrev pub act_in : List Move → ℕ → ℕ → List EventId
act_in moves c i = if is_this (actor_at moves i) c then record { step = i; channel = c; go = false } ∷ [] else []

abbrev pub going_in : Board → List Move → ℕ → ℕ → List EventId
going_in b moves c i = if among (channels_in (goings_at b moves i)) c then record { step = i; channel = c; go = true } ∷ [] else []

-- and in the first steps
abbrev pub events_upto : Board → List Move → ℕ → ℕ → List EventId
events_upto b moves c zero = []
events_upto b moves c (suc i) = events_upto b moves c i ++ (act_in moves c i ++ going_in b moves c i)

abbrev pub events_of : Board → List Move → ℕ → List EventId
events_of b moves c = events_upto b moves c (length moves)

abbrev pub event_in : List EventId → ℕ → Option EventId
event_in [] n = None
event_in (e ∷ es) zero = Some e
event_in (e ∷ es) (suc n) = event_in es n

-- the event of a channel at this place among its events, counted from 0
abbrev pub IsEventAt : Board → List Move → ℕ → ℕ → EventId → Type 0
IsEventAt b moves c n e = event_in (events_of b moves c) n ≡ Some e

-- in two runs an event is the same where its channel and its place among that channel's events are the same
pub record IsSameEvent (b : Board) (ms ns : List Move) (e same_e : EventId) : Type 0 where
  pub channel : ℕ
  pub place : ℕ
  pub in_one : IsEventAt b ms channel place e
  pub in_other : IsEventAt b ns channel place same_e

-- Each channel has as many events in the one run as in the other. The same events are both acts or both goings on, two of them are one in
-- the one run where they are one in the other, and the same are before the same.
pub record HaveSameOrder (b : Board) (ms ns : List Move) : Type 0 where
  pub events : (c : ℕ) → length (events_of b ms c) ≡ length (events_of b ns c)
  pub kind : (e same_e : EventId) → IsSameEvent b ms ns e same_e → e.go ≡ same_e.go
  pub one : (e f same_e same_f : EventId) → IsSameEvent b ms ns e same_e → IsSameEvent b ms ns f same_f
      → AreOne b ms e f ↔ AreOne b ns same_e same_f
  pub before : (e f same_e same_f : EventId) → IsSameEvent b ms ns e same_e → IsSameEvent b ms ns f same_f
      → Before b ms e f ↔ Before b ns same_e same_f
