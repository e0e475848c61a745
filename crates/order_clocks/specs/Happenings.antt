-- Meaning. What happens in each step of a run, as far as events of other channels rest on it or mind it.
use Rattle.std.specs.Prelude.{ℕ, zero, suc, ◌==◌, ◌&&◌, not, Bool, false, List, [], ◌∷◌, map, find, Option, Some, None}
use Rattle.axis_sets.specs.Sets.{members_of}
use Rattle.sync_types.specs.BoardActions.{after_own_part, axes_to_free, channels_started}
use Rattle.sync_types.specs.BoardAlarms.{alarm_of}
use Rattle.sync_types.specs.Boards.{Hold, AtMarks, AtEnds, AtAxes, State, IsIdle, IsHolding, Board, among, has_ended}
use Rattle.sync_types.specs.GoingOn.{Going}
use Rattle.sync_types.specs.Turns.{Move, goings_in_step, after_step}
use Rattle.sync_types.specs.declared.Action.{Action}
use Rattle.sync_types.specs.declared.Action.TheVariants.{Init, Start}
use Rattle.sync_types.specs.declared.Step.{Step}

-- what a channel that goes on may rest on: a mark was raised, an axis was let go, a channel was started, a
-- program has ended
pub data Key : Type 0 where
  Raised : (channel number : ℕ) → Key
  Freed : (axis : ℕ) → Key
  Started : (channel : ℕ) → Key
  Ended : (channel : ℕ) → Key

-- A step: who acts at which line, the own marks that did not stand before the act and stand after it, those
-- that stood and stand no more, the axes that it lets go, the channels that it starts, whether the program
-- ends, the channels that its INIT or START names, the wait that begins, who goes on, and what each channel
-- does when the step is over.
pub record Happening : Type 0 where
  pub channel : ℕ
  pub line : ℕ
  pub raises : ℕ → Bool
  pub lowers : ℕ → Bool
  pub frees : List ℕ
  pub starts : List ℕ
  pub ends : Bool
  pub touches : List ℕ
  pub begins : Option Hold
  pub goings : List Going
  pub after : ℕ → State

-- the channels of an INIT or START, also of one that alarms
abbrev pub channels_touched : Action → List ℕ
channels_touched (Init target program) = target ∷ []
channels_touched (Start named) = members_of named
channels_touched other = []

-- the axes that a RELEASE lets go, where it does not alarm
abbrev pub axes_freed : Option ℕ → Action → List ℕ
axes_freed (Some code) action = []
axes_freed None action = axes_to_free action

abbrev pub hold_in : State → Option Hold
hold_in (IsHolding hold line) = Some hold
hold_in other = None

abbrev pub line_in : State → ℕ
line_in (IsHolding hold line) = line
line_in other = 0

-- what a step of a channel does on this board
abbrev pub happening_of : Board → ℕ → Step → Happening
happening_of b c step = record {
  channel = c;
  line = step.line;
  raises = λ m. (after_own_part b c step).marks c m && not (b.marks c m);
  lowers = λ m. b.marks c m && not ((after_own_part b c step).marks c m);
  frees = axes_freed (alarm_of b c step.action) step.action;
  starts = channels_started (alarm_of b c step.action) step.action;
  ends = has_ended ((after_own_part b c step).state c);
  touches = channels_touched step.action;
  begins = hold_in ((after_own_part b c step).state c);
  goings = goings_in_step b c step;
  after = (after_step b c step).state;
}

abbrev pub nothing : Happening
nothing = record {
  channel = 0;
  line = 0;
  raises = λ m. false;
  lowers = λ m. false;
  frees = [];
  starts = [];
  ends = false;
  touches = [];
  begins = None;
  goings = [];
  after = λ c. IsIdle;
}

-- the board before the step of this place
abbrev pub board_at : Board → List Move → ℕ → Board
board_at b [] i = b
board_at b (m ∷ ms) zero = b
board_at b (m ∷ ms) (suc i) = board_at (after_step b m.channel m.step) ms i

-- what happens in the step of this place
abbrev pub happening_at : Board → List Move → ℕ → Happening
happening_at b [] i = nothing
happening_at b (m ∷ ms) zero = happening_of b m.channel m.step
happening_at b (m ∷ ms) (suc i) = happening_at (after_step b m.channel m.step) ms i

-- the keys that an act gives
abbrev pub gives : Happening → Key → Bool
gives h (Raised c m) = (c == h.channel) && h.raises m
gives h (Freed x) = among h.frees x
gives h (Started c) = among h.starts c
gives h (Ended c) = (c == h.channel) && h.ends

-- how a channel goes on in a step; none where it does not
abbrev pub going_of : List Going → ℕ → Option Going
going_of goings c = find (λ g. g.channel == c) goings

-- the keys on which it rests: the marks and the ends for which it waited, the axes that it took, its start
abbrev pub rests_in : Going → State → List Key
rests_in g (IsHolding (AtMarks number named) line) = map (λ d. Raised d number) named
rests_in g (IsHolding (AtEnds named) line) = map Ended named
rests_in g (IsHolding (AtAxes from_standing axes) line) = map Freed g.took
rests_in g other = Started g.channel ∷ []

abbrev pub rests_on : Option Going → List Key
rests_on (Some g) = rests_in g g.from
rests_on None = []

-- whether the wait is one for this mark of a channel, and whether it is one for this axis
abbrev pub waits_for : Option Hold → ℕ → ℕ → Bool
waits_for (Some (AtMarks number named)) c m = (number == m) && among named c
waits_for other c m = false

abbrev pub asks_for : Option Hold → ℕ → Bool
asks_for (Some (AtAxes from_standing axes)) x = among axes x
asks_for other x = false

-- a test of how a channel goes on, false where it does not; and the line of the wait that ends
abbrev pub of_going : Option Going → (Going → Bool) → Bool
of_going (Some g) test = test g
of_going None test = false

abbrev pub line_of_going : Option Going → ℕ
line_of_going (Some g) = line_in g.from
line_of_going None = 0
