-- Steps. Stretches of a zone of which each is over as the next begins, and those of them that may overlap a stretch of another zone.
use Rattle.std.specs.Prelude.{◌≡◌, ◌<◌, ◌≤◌, ◌&&◌, ◌||◌, not, suc, ℕ, Bool, true, false, if◌then◌else◌, All, List, [], ◌∷◌, drop, length, slice_index_or, take, Option, Some, None}
use Rattle.order_clocks.specs.Clocked.{IsOrderOf}
use Rattle.sync_types.specs.Boards.{Board}
use Rattle.sync_types.specs.Events.{is_same_event}
use Rattle.sync_types.specs.Turns.{Move}
use Rattle.sync_types.specs.declared.runs.EventId.{EventId}
use Rattle.zone_stretches.specs.Overlaps.{Order, is_open_at}
use Rattle.zone_stretches.specs.SoundStretches.{HasLowNames}
use Rattle.zone_stretches.specs.Stretches.{StretchView}
use Rattle.zone_stretches.specs.declared.ascents.IndexRange.{IndexRange}
use Rattle.zone_stretches.specs.declared.ascents.RangeCursor.{RangeCursor}

-- ---- lists of which the first elements pass a test

-- how many pass before the first that does not
abbrev pub leading : {X : Type 0} → (X → Bool) → List X → ℕ
leading test [] = 0
leading test (x ∷ xs) = if test x then suc (leading test xs) else 0

-- none passes after one that does not
abbrev pub PassFirst : {X : Type 0} → (X → Bool) → List X → Type 0
PassFirst test [] = Unit {0}
PassFirst test (x ∷ xs) = (test x ≡ false → All (λ y. test y ≡ false) xs) × PassFirst test xs

-- ---- stretches

-- the early one is over as the late one begins
abbrev pub is_over : Order → StretchView → StretchView → Bool
is_over before early late = not (is_open_at before early.last late.first)

-- a stretch does not end before it begins
abbrev pub is_in_order : Order → Option EventId → Option EventId → Bool
is_in_order before None last = true
is_in_order before (Some first) None = true
is_in_order before (Some first) (Some last) = is_same_event first last || before first last

abbrev pub is_forward : Order → StretchView → Bool
is_forward before stretch = is_in_order before stretch.first stretch.last

-- over as the first of these begins, if there is one
abbrev pub is_over_at_first : Order → StretchView → List StretchView → Bool
is_over_at_first before early [] = true
is_over_at_first before early (late ∷ stretches) = is_over before early late

-- each is over as the next begins
abbrev pub is_chain : Order → List StretchView → Bool
is_chain before [] = true
is_chain before (stretch ∷ stretches) = is_forward before stretch && (is_over_at_first before stretch stretches && is_chain before stretches)

-- a stretch of another zone is over as this one begins, or begins before this one is over
abbrev pub passes : Order → Bool → StretchView → StretchView → Bool
passes before true own other = is_over before other own
passes before false own other = not (is_over before own other)

-- a list is marked only where it ascends
abbrev pub AreAscents : Order → List (List StretchView) → List Bool → Type 0
AreAscents before lists ascents = (place : ℕ) → slice_index_or ascents place false ≡ true → is_chain before (slice_index_or lists place []) ≡ true

-- of the stretches of another zone those that are not over as this one begins, up to the first that begins after it is over
abbrev pub near : Order → StretchView → List StretchView → List StretchView
near before own others = drop (leading (passes before true own) others) (take (leading (passes before false own) others) others)

-- the test tells the order of the events of a run, and these stretches begin and end with such events
pub record IsTimed (before : Order) (lists : List (List StretchView)) : Type 0 where
  pub board : Board
  pub moves : List Move
  pub order : IsOrderOf board moves before
  pub names : All (All (HasLowNames board moves)) lists

-- ---- a walk along the stretches of a zone

abbrev pub place_in : IndexRange → Bool → ℕ
place_in range true = range.from
place_in range false = range.upto

-- no fewer and no more stretches of another zone pass
pub record IsBetween (before : Order) (own : StretchView) (others : List StretchView) (low high : IndexRange) : Type 0 where
  pub least : (ended : Bool) → place_in low ended ≤ leading (passes before ended own) others
  pub most : (ended : Bool) → leading (passes before ended own) others ≤ place_in high ended
  pub within : (ended : Bool) → place_in high ended ≤ length others

-- where they ascend, this is known of each from this place on
abbrev pub IsWalk : Order → List StretchView → List StretchView → ℕ → RangeCursor → Type 0
IsWalk before own others place walk =
    walk.ascends ≡ true → (is_chain before own ≡ true) × ((k : ℕ) (d : StretchView) → place ≤ k → k < length own → IsBetween before (slice_index_or own k d) others walk.range walk.limit)
