-- Meaning. The races of a run, and the first of them.
use Rattle.std.specs.Prelude.{◌≡◌, ℕ, ◌<◌, ◌==◌, ◌||◌, Bool, true, false, List, Option, MatchOption, if◌then◌else◌}
use Rattle.order_clocks.specs.Before.{Before}
use Rattle.order_clocks.specs.Chains.{IsIn}
use Rattle.order_clocks.specs.Happenings.{happening_at, going_of, waits_for, asks_for, of_going, line_of_going, line_in}
use Rattle.order_clocks.specs.RaceOrder.{IsUpTo, numbers_of, letter_a, letter_b, letter_c, letter_d, letter_e, letter_f, letter_g}
use Rattle.sync_types.specs.Boards.{Board, AtMarks, AtAxes, IsHolding, among}
use Rattle.sync_types.specs.Events.{IsEvent, names_at}
use Rattle.sync_types.specs.GoingOn.{Going, lowers}
use Rattle.sync_types.specs.Turns.{Move}
use Rattle.sync_types.specs.declared.runs.EventId.{EventId}
use Rattle.sync_types.specs.declared.runs.Race.{Race}

-- how the channel of an event goes on in its step
abbrev pub going_at : Board → List Move → EventId → Option Going
going_at b moves e = going_of (happening_at b moves e.step).goings e.channel

-- the event lowers its channel's mark of this number: an act that lowers it, or the end of a WAITM of that number
abbrev pub lowers_mark : Board → List Move → EventId → ℕ → Bool
lowers_mark b moves e m = if e.go then of_going (going_at b moves e) (λ g. lowers g.from m) else (happening_at b moves e.step).lowers m

-- it is the end of a WAITM that names this channel's mark
abbrev pub needed_mark : Board → List Move → EventId → ℕ → ℕ → Bool
needed_mark b moves e c m = if e.go then of_going (going_at b moves e) (λ g. names_at g.from m c) else false

-- it is the act of a WAITM that names this channel's mark
abbrev pub awaits_mark : Board → List Move → EventId → ℕ → ℕ → Bool
awaits_mark b moves e c m = if e.go then false else waits_for (happening_at b moves e.step).begins c m

-- it is the end of a GET that took the axis
abbrev pub takes_axis : Board → List Move → EventId → ℕ → Bool
takes_axis b moves e x = if e.go then of_going (going_at b moves e) (λ g. among g.took x) else false

-- it is the act of a GET that names the axis
abbrev pub asks_for_axis : Board → List Move → EventId → ℕ → Bool
asks_for_axis b moves e x = if e.go then false else asks_for (happening_at b moves e.step).begins x

-- it is the act of an INIT or START that names the channel, also of one that alarms
abbrev pub touches_channel : Board → List Move → EventId → ℕ → Bool
touches_channel b moves e c = if e.go then false else among (happening_at b moves e.step).touches c

-- two events of different channels, the one in a later step, whose order is not settled: the earlier is not before it
pub record AreUnsettled (b : Board) (moves : List Move) (early late : EventId) : Type 0 where
  pub first : IsEvent b moves early
  pub second : IsEvent b moves late
  pub step : early.step < late.step
  pub channels : (early.channel == late.channel) ≡ false
  pub unordered : Before b moves early late → ⊥

-- the line that is printed of an event: that of the wait which ends, where it is one that goes on
abbrev pub line_at : Board → List Move → EventId → ℕ
line_at b moves e = if e.go then line_of_going (going_at b moves e) else (happening_at b moves e.step).line

-- a channel and a line
abbrev pub place_of : Board → List Move → EventId → ℕ × ℕ
place_of b moves e = (e.channel, line_at b moves e)

-- The race belongs to the step of this place, in which its later part happens. Each case ends with its letter and
-- the two places that are printed.
pub data IsRace (b : Board) (moves : List Move) (i : ℕ) (race : Race) : Type 0 where
  -- a: a mark is lowered, a WAITM of another channel that names it acts in a later step, and the lowering is not
  -- before that act
  LoweredThenAwaited : (lowering wait : EventId) (m : ℕ) → wait.step ≡ i → AreUnsettled b moves lowering wait
      → lowers_mark b moves lowering m ≡ true → awaits_mark b moves wait lowering.channel m ≡ true
      → race ≡ record { case = letter_a; first = place_of b moves lowering; second = place_of b moves wait } → IsRace b moves i race
  -- b: one goes on that needed a mark, the mark is lowered in a later step, and the going on is not before the
  -- lowering
  NeededThenLowered : (going lowering : EventId) (m : ℕ) → lowering.step ≡ i → AreUnsettled b moves going lowering
      → needed_mark b moves going lowering.channel m ≡ true → lowers_mark b moves lowering m ≡ true
      → race ≡ record { case = letter_b; first = place_of b moves lowering; second = place_of b moves going } → IsRace b moves i race
  -- c: a mark is lowered, and when the step is over another channel waits at a WAITM that names it
  LoweredWhileAwaited : (lowering : EventId) (d m line : ℕ) (named : List ℕ) → lowering.step ≡ i → IsEvent b moves lowering
      → lowers_mark b moves lowering m ≡ true → (d == lowering.channel) ≡ false
      → (happening_at b moves i).after d ≡ IsHolding (AtMarks m named) line → among named lowering.channel ≡ true
      → race ≡ record { case = letter_c; first = place_of b moves lowering; second = (d, line) } → IsRace b moves i race
  -- d: two go on at one number, the one names the other, and they and those that they name are not the same
  MetUnlike : (g h : Going) (m line other_line x : ℕ) (named other_named : List ℕ)
      → IsIn g (happening_at b moves i).goings → IsIn h (happening_at b moves i).goings
      → g.from ≡ IsHolding (AtMarks m named) line → h.from ≡ IsHolding (AtMarks m other_named) other_line
      → among named h.channel ≡ true → (((x == g.channel) || among named x) ≡ ((x == h.channel) || among other_named x) → ⊥)
      → race ≡ record { case = letter_d; first = (h.channel, other_line); second = (g.channel, line) } → IsRace b moves i race
  -- e: an axis is taken, a GET of another channel that names it acts in a later step, and the taking is not before
  -- that act
  TakenThenAsked : (taking get : EventId) (x : ℕ) → get.step ≡ i → AreUnsettled b moves taking get
      → takes_axis b moves taking x ≡ true → asks_for_axis b moves get x ≡ true
      → race ≡ record { case = letter_e; first = place_of b moves taking; second = place_of b moves get } → IsRace b moves i race
  -- f: an axis is taken, and when the step is over another channel waits at a GET that names it
  TakenWhileAsked : (g : Going) (d x line : ℕ) (from_standing : Bool) (axes : List ℕ) → IsIn g (happening_at b moves i).goings → among g.took x ≡ true → (d == g.channel) ≡ false
      → (happening_at b moves i).after d ≡ IsHolding (AtAxes from_standing axes) line → among axes x ≡ true
      → race ≡ record { case = letter_f; first = (g.channel, line_in g.from); second = (d, line) } → IsRace b moves i race
  -- g: two channels do INIT or START on one channel in different steps, and the earlier is not before the later
  TouchedTwice : (early late : EventId) (c : ℕ) → late.step ≡ i → AreUnsettled b moves early late
      → touches_channel b moves early c ≡ true → touches_channel b moves late c ≡ true
      → race ≡ record { case = letter_g; first = place_of b moves early; second = place_of b moves late } → IsRace b moves i race

-- no race at an earlier step, and none of the step before it in the order of races
pub record IsFirstAt (b : Board) (moves : List Move) (count : ℕ) (race : Race) (i : ℕ) : Type 0 where
  pub within : i < count
  pub race_there : IsRace b moves i race
  pub none_before : (j : ℕ) (other : Race) → j < i → IsRace b moves j other → ⊥
  pub least : (other : Race) → IsRace b moves i other → IsUpTo (numbers_of race) (numbers_of other)

-- the first race of the first steps, or none where there is none
abbrev pub IsFirst : Board → List Move → ℕ → Option Race → Type 0
IsFirst b moves count answer = MatchOption answer ((i : ℕ) (race : Race) → i < count → IsRace b moves i race → ⊥) (λ race. (i : ℕ) × IsFirstAt b moves count race i)
