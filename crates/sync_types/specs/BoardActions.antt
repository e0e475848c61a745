-- Meaning. What the action of a step changes on the board, before anybody goes on.
use Rattle.std.specs.Prelude.{ℕ, ℤ, pos, ◌==◌, ◌&&◌, ◌||◌, not, Bool, true, false, List, [], filter, Option, Some, None, if◌then◌else◌}
use Rattle.std.specs.List.{list_any}
use Rattle.axis_sets.specs.Sets.{has, members_of}
use Rattle.axis_sets.specs.Positions.{position_of}
use Rattle.sync_types.specs.BoardAlarms.{alarm_of}
use Rattle.sync_types.specs.Boards.{Hold, AtMarks, AtEnds, AtAxes, State, IsRunning, IsHolding, HasEnded, HasAlarmed, Ownership, FreeAt, Board, among, is_this, no_positions, grant_with, start_grant}
use Rattle.sync_types.specs.Starts.{axes_of_zone}
use Rattle.sync_types.specs.declared.Action.{Action}
use Rattle.sync_types.specs.declared.Action.TheVariants.{WaitM, SetM, ClearM, Init, Start, WaitE, Release, Get, End}
use Rattle.sync_types.specs.declared.Step.{Step}

-- without one channel
abbrev pub others_than : ℕ → List ℕ → List ℕ
others_than c named = filter (λ d. not (d == c)) named

-- for what a channel waits after an action; none where it does not wait. WAITM does not wait for the
-- channel's own mark, WAITE waits for its own end
abbrev pub hold_of : ℕ → Action → Option Hold
hold_of c (WaitM m named) = Some (AtMarks m (others_than c (members_of named)))
hold_of c (WaitE named) = Some (AtEnds (members_of named))
hold_of c (Get axes) = Some (AtAxes false (members_of axes))
hold_of c other = None

-- the channels that START lets run
abbrev pub channels_to_start : Action → List ℕ
channels_to_start (Start named) = members_of named
channels_to_start other = []

-- the axes that RELEASE lets go
abbrev pub axes_to_free : Action → List ℕ
axes_to_free (Release axes) = members_of axes
axes_to_free other = []

-- the own marks: WAITM and SETM raise, CLEARM lowers those that it names, or all where it names none
abbrev pub marks_after : (ℕ → Bool) → Action → ℕ → Bool
marks_after own (WaitM n named) m = (m == n) || own m
marks_after own (SetM marks) m = has marks m || own m
marks_after own (ClearM marks) m = own m && not (has marks m || not (list_any (λ n. true) (members_of marks)))
marks_after own other m = own m

-- the selected program of a channel: INIT selects
abbrev pub program_after : Action → ℕ → Option ℕ → Option ℕ
program_after (Init target program) c old = if c == target then Some program else old
program_after other c old = old

-- a position that a step does not tell is 0
abbrev pub position_or_zero : Option ℤ → ℤ
position_or_zero (Some position) = position
position_or_zero None = pos 0

-- an axis of the zone is among these
abbrev pub carries : Board → List ℕ → ℕ → Bool
carries b axes z = list_any (has (axes_of_zone b.start z)) axes

-- whether a zone is on: the step tells it of the zones that its channel holds
unfoldable pub is_on_after : Board → ℕ → Step → ℕ → Bool
is_on_after b c step z = if is_this (b.holder z) c then has step.on z else b.is_on z

-- a step tells where the axes of its channel stand
unfoldable pub last_position_after : Board → ℕ → Step → ℕ → ℕ → ℤ
last_position_after b c step d x = if d == c then position_or_zero (position_of step.at x) else b.last_position d x

-- after an alarm the channel is alarmed; nothing else changes but what the step tells of its zones and positions
unfoldable pub state_after_alarm : Board → ℕ → Step → ℕ → ℕ → State
state_after_alarm b c step code d = if d == c then HasAlarmed code step.line else b.state d

abbrev pub after_alarm : Board → ℕ → Step → ℕ → Board
after_alarm b c step code = record b {
  state = state_after_alarm b c step code;
  last_position = last_position_after b c step;
  is_on = is_on_after b c step;
}

-- marks, programs and axes after an action that does not alarm; a zone goes with its axes
unfoldable pub marks_of_all : Board → ℕ → Step → ℕ → ℕ → Bool
marks_of_all b c step d m = if d == c then marks_after (b.marks c) step.action m else b.marks d m

unfoldable pub ownership_after : Board → Step → ℕ → Ownership
ownership_after b step x = if among (axes_to_free step.action) x then FreeAt (position_or_zero (position_of step.at x)) else b.axis x

unfoldable pub holder_after : Board → Step → ℕ → Option ℕ
holder_after b step z = if carries b (axes_to_free step.action) z then None else b.holder z

abbrev pub after_effects : Board → ℕ → Step → Board
after_effects b c step = record b {
  marks = marks_of_all b c step;
  program = λ d. program_after step.action d (b.program d);
  last_position = last_position_after b c step;
  axis = ownership_after b step;
  holder = holder_after b step;
  is_on = is_on_after b c step;
}

-- the acting channel waits, has ended or runs on; what it starts runs
abbrev pub state_of_actor : Board → ℕ → ℕ → Action → State
state_of_actor b c line End = HasEnded line
state_of_actor b c line action = waiting (hold_of c action)
  where
    waiting : Option Hold → State
    waiting (Some hold) = IsHolding hold line
    waiting None = IsRunning (grant_with b c no_positions)

unfoldable pub state_after_action : Board → ℕ → Step → ℕ → State
state_after_action b c step d =
    if d == c then state_of_actor b c step.line step.action
    else if among (channels_to_start step.action) d then IsRunning (start_grant b d)
    else b.state d

abbrev pub after_action : Board → ℕ → Step → Board
after_action b c step = record (after_effects b c step) { state = state_after_action (after_effects b c step) c step }

abbrev pub after_part : Board → ℕ → Step → Option ℕ → Board
after_part b c step (Some code) = after_alarm b c step code
after_part b c step None = after_action b c step

-- the channel's own part of its step: its alarm, or what its action changes
abbrev pub after_own_part : Board → ℕ → Step → Board
after_own_part b c step = after_part b c step (alarm_of b c step.action)

-- the channels that the step has started
abbrev pub channels_started : Option ℕ → Action → List ℕ
channels_started (Some code) action = []
channels_started None action = channels_to_start action
