-- Steps. The races of a run by the traces that events leave and later ones mind: a, b, e and g are one case.
use Rattle.std.specs.Prelude.{◌≡◌, ℕ, ◌<◌, ◌==◌, ◌&&◌, ◌||◌, Bool, true, false, List, if◌then◌else◌}
use Rattle.order_clocks.specs.Before.{Before}
use Rattle.order_clocks.specs.Chains.{IsIn}
use Rattle.order_clocks.specs.Happenings.{Happening, happening_at, waits_for, asks_for, of_going, line_in}
use Rattle.order_clocks.specs.RaceOrder.{letter_a, letter_b, letter_c, letter_d, letter_e, letter_f, letter_g}
use Rattle.order_clocks.specs.Races.{going_at, place_of}
use Rattle.sync_types.specs.Boards.{Board, AtMarks, AtAxes, IsHolding, among}
use Rattle.sync_types.specs.Events.{IsEvent, names_at}
use Rattle.sync_types.specs.GoingOn.{Going, lowers}
use Rattle.sync_types.specs.Turns.{Move}
use Rattle.sync_types.specs.declared.runs.EventId.{EventId}
use Rattle.sync_types.specs.declared.runs.Race.{Race}

-- what an event leaves that a later one may mind: a mark was lowered, a mark was needed, an axis was
-- taken, INIT or START named a channel
pub data Trace : Type 0 where
  Lowered : (channel number : ℕ) → Trace
  Needed : (channel number : ℕ) → Trace
  Took : (axis : ℕ) → Trace
  Touched : (channel : ℕ) → Trace

-- what an act and one that goes on leave
abbrev pub act_leaves : Happening → Trace → Bool
act_leaves h (Lowered c m) = (c == h.channel) && h.lowers m
act_leaves h (Touched c) = among h.touches c
act_leaves h other = false

abbrev pub going_leaves : Going → Trace → Bool
going_leaves g (Lowered c m) = (c == g.channel) && lowers g.from m
going_leaves g (Needed c m) = names_at g.from m c
going_leaves g (Took x) = among g.took x
going_leaves g (Touched c) = false

-- what they mind: an act the marks and axes for which it begins to wait, the needs of a mark that it lowers,
-- and INIT or START on its channels; one that goes on the needs of the mark that it lowers
abbrev pub act_minds : Happening → Trace → Bool
act_minds h (Lowered c m) = waits_for h.begins c m
act_minds h (Needed c m) = (c == h.channel) && h.lowers m
act_minds h (Took x) = asks_for h.begins x
act_minds h (Touched c) = among h.touches c

abbrev pub going_minds : Going → Trace → Bool
going_minds g (Needed c m) = (c == g.channel) && lowers g.from m
going_minds g other = false

-- what an event leaves and minds
abbrev pub leaves_at : Board → List Move → EventId → Trace → Bool
leaves_at b moves e t = if e.go then of_going (going_at b moves e) (λ g. going_leaves g t) else act_leaves (happening_at b moves e.step) t

abbrev pub minds_at : Board → List Move → EventId → Trace → Bool
minds_at b moves e t = if e.go then of_going (going_at b moves e) (λ g. going_minds g t) else act_minds (happening_at b moves e.step) t

-- an event leaves what one of another channel in a later step minds, and is not before it
pub record AreApart (b : Board) (moves : List Move) (early late : EventId) (trace : Trace) : Type 0 where
  pub first : IsEvent b moves early
  pub second : IsEvent b moves late
  pub step : early.step < late.step
  pub channels : (early.channel == late.channel) ≡ false
  pub left : leaves_at b moves early trace ≡ true
  pub minded : minds_at b moves late trace ≡ true
  pub unordered : Before b moves early late → ⊥

-- what is printed of two events that are apart
abbrev pub shown : Trace → (ℕ × ℕ) → (ℕ × ℕ) → Race
shown (Lowered c m) early late = record { case = letter_a; first = early; second = late }
shown (Needed c m) early late = record { case = letter_b; first = late; second = early }
shown (Took x) early late = record { case = letter_e; first = early; second = late }
shown (Touched c) early late = record { case = letter_g; first = early; second = late }

-- a race of the step of this place; `races_agree` of the proofs says that these are the races by their seven cases
pub data IsTracedRace (b : Board) (moves : List Move) (i : ℕ) (race : Race) : Type 0 where
  Apart : (early late : EventId) (trace : Trace) → late.step ≡ i → AreApart b moves early late trace
      → race ≡ shown trace (place_of b moves early) (place_of b moves late) → IsTracedRace b moves i race
  -- c
  StillWaits : (lowering : EventId) (d m line : ℕ) (named : List ℕ) → lowering.step ≡ i → IsEvent b moves lowering
      → leaves_at b moves lowering (Lowered lowering.channel m) ≡ true → (d == lowering.channel) ≡ false
      → (happening_at b moves i).after d ≡ IsHolding (AtMarks m named) line → among named lowering.channel ≡ true
      → race ≡ record { case = letter_c; first = place_of b moves lowering; second = (d, line) } → IsTracedRace b moves i race
  -- d
  Differ : (g h : Going) (m line other_line x : ℕ) (named other_named : List ℕ)
      → IsIn g (happening_at b moves i).goings → IsIn h (happening_at b moves i).goings
      → g.from ≡ IsHolding (AtMarks m named) line → h.from ≡ IsHolding (AtMarks m other_named) other_line
      → among named h.channel ≡ true → (((x == g.channel) || among named x) ≡ ((x == h.channel) || among other_named x) → ⊥)
      → race ≡ record { case = letter_d; first = (h.channel, other_line); second = (g.channel, line) } → IsTracedRace b moves i race
  -- f
  StillAsks : (g : Going) (d x line : ℕ) (from_standing : Bool) (axes : List ℕ) → IsIn g (happening_at b moves i).goings → among g.took x ≡ true → (d == g.channel) ≡ false
      → (happening_at b moves i).after d ≡ IsHolding (AtAxes from_standing axes) line → among axes x ≡ true
      → race ≡ record { case = letter_f; first = (g.channel, line_in g.from); second = (d, line) } → IsTracedRace b moves i race
