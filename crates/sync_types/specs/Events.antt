-- Meaning. The events of steps, and which of them are one.
use Rattle.std.specs.Prelude.{◌≡◌, ℕ, zero, suc, ◌≤◌, ◌==◌, ◌&&◌, ◌⊎◌, Bool, true, false, not, if◌then◌else◌, List, [], ◌∷◌, ◌++◌, map, filter, Option, Some, None}
use Rattle.sync_types.specs.Boards.{State, IsHolding, AtMarks, Board, among}
use Rattle.sync_types.specs.GoingOn.{Going}
use Rattle.sync_types.specs.Turns.{Move, goings_in_step, after_step}
use Rattle.sync_types.specs.declared.runs.EventId.{EventId}

-- the two are the same name of an event: of one step, of one channel, and both an act or both a going on
abbrev pub is_same_event : EventId → EventId → Bool
is_same_event a b = (a.step == b.step) && ((a.channel == b.channel) && (if a.go then b.go else not b.go))

-- who acts in the step of this place
abbrev pub actor_at : List Move → ℕ → Option ℕ
actor_at [] i = None
actor_at (m ∷ ms) zero = Some m.channel
actor_at (m ∷ ms) (suc i) = actor_at ms i

-- who goes on in it
abbrev pub goings_at : Board → List Move → ℕ → List Going
goings_at b [] i = []
goings_at b (m ∷ ms) zero = goings_in_step b m.channel m.step
goings_at b (m ∷ ms) (suc i) = goings_at (after_step b m.channel m.step) ms i

abbrev pub channels_in : List Going → List ℕ
channels_in goings = map (λ g. g.channel) goings

-- each step has one act; each going on is an event
abbrev pub IsEvent : Board → List Move → EventId → Type 0
IsEvent b moves e = elim e.go [
  | true ↦ among (channels_in (goings_at b moves e.step)) e.channel ≡ true
  | false ↦ actor_at moves e.step ≡ Some e.channel
]

-- the number of the marks for which a channel waited, and whether it waited for that of a channel
abbrev pub number_of : State → Option ℕ
number_of (IsHolding (AtMarks number named) line) = Some number
number_of other = None

abbrev pub names_at : State → ℕ → ℕ → Bool
names_at (IsHolding (AtMarks number named) line) m d = (number == m) && among named d
names_at other m d = false

abbrev pub name_each_other_at : Option ℕ → Going → Going → Bool
name_each_other_at (Some m) g h = names_at g.from m h.channel && names_at h.from m g.channel
name_each_other_at None g h = false

-- two that go on and name each other at one mark number
abbrev pub name_each_other : Going → Going → Bool
name_each_other g h = name_each_other_at (number_of g.from) g h

pub record Pair : Type 0 where
  pub one : ℕ
  pub two : ℕ

abbrev pub pairs_with : Going → List Going → List Pair
pairs_with g hs = map (λ h. record { one = g.channel; two = h.channel }) (filter (name_each_other g) hs)

abbrev pub pairs_between : List Going → List Going → List Pair
pairs_between [] hs = []
pairs_between (g ∷ gs) hs = pairs_with g hs ++ pairs_between gs hs

-- all pairs of a step
abbrev pub pairs_of : List Going → List Pair
pairs_of goings = pairs_between goings goings

-- the two are a pair of the list, in either order
abbrev pub ArePaired : List Pair → ℕ → ℕ → Type 0
ArePaired [] c d = ⊥
ArePaired (p ∷ ps) c d = ((p.one ≡ c) × (p.two ≡ d)) ⊎ (((p.one ≡ d) × (p.two ≡ c)) ⊎ ArePaired ps c d)

-- the list leads from the one to the other: each is a pair with the one before it
abbrev pub IsChain : List Pair → ℕ → List ℕ → ℕ → Type 0
IsChain ps c [] d = ArePaired ps c d
IsChain ps c (e ∷ es) d = ArePaired ps c e × IsChain ps e es d

-- one channel, or joined by a chain of pairs
abbrev pub AreLinked : List Pair → ℕ → ℕ → Type 0
AreLinked ps c d = (c ≡ d) ⊎ ((between : List ℕ) × IsChain ps c between d)

-- acts of one channel, or goings on of two that are linked
abbrev pub AreAsOne : Board → List Move → EventId → EventId → Type 0
AreAsOne b moves e f = elim e.go [
  | true ↦ AreLinked (pairs_of (goings_at b moves e.step)) e.channel f.channel
  | false ↦ e.channel ≡ f.channel
]

-- two names of one event
pub record AreOne (b : Board) (moves : List Move) (e f : EventId) : Type 0 where
  pub first : IsEvent b moves e
  pub second : IsEvent b moves f
  pub step : e.step ≡ f.step
  pub go : e.go ≡ f.go
  pub joined : AreAsOne b moves e f

-- an event by its lowest channel
pub record IsLowestName (b : Board) (moves : List Move) (e : EventId) : Type 0 where
  pub event : IsEvent b moves e
  pub lowest : (f : EventId) → AreOne b moves e f → e.channel ≤ f.channel

-- The two cases by the kind of the event: only to prove.
abbrev pub IsThere : Board → List Move → EventId → Bool → Type 0
IsThere b moves e true = among (channels_in (goings_at b moves e.step)) e.channel ≡ true
IsThere b moves e false = actor_at moves e.step ≡ Some e.channel

abbrev pub AreJoined : Board → List Move → EventId → EventId → Bool → Type 0
AreJoined b moves e f true = AreLinked (pairs_of (goings_at b moves e.step)) e.channel f.channel
AreJoined b moves e f false = e.channel ≡ f.channel
