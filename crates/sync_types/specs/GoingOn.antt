-- Meaning. Who goes on in a step, and what it goes on with: three rules, one after another.
use Rattle.axis_sets.specs.declared.limits.TheConstants.{CHANNEL_LIMIT}
use Rattle.std.specs.Prelude.{ℕ, ℤ, pos, zero, suc, ◌==◌, ◌&&◌, ◌||◌, not, Bool, true, false, List, [], ◌∷◌, ◌++◌, map, filter, Option, Some, None, if◌then◌else◌}
use Rattle.std.specs.List.{list_all}
use Rattle.sync_types.specs.BoardActions.{carries}
use Rattle.sync_types.specs.Boards.{AtMarks, AtEnds, AtAxes, State, IsIdle, IsRunning, IsHolding, Ownership, OwnedBy, FreeAt, Board, among, channel_numbers, has_ended, owner_of, owns, stands, positions_where, no_positions, grant_with, start_grant}
use Rattle.sync_types.specs.declared.Grant.{Grant}
use Rattle.sync_types.specs.declared.runs.Go.{Go}

-- a channel goes on: what it did before, the axes that it took, and what it goes on with
pub record Going : Type 0 where
  pub channel : ℕ
  pub from : State
  pub took : List ℕ
  pub grant : Grant

abbrev pub go_of : Going → Go
go_of going = record { channel = going.channel; grant = going.grant }

-- rule 1: all go that wait for marks which all stand, or for channels which all have ended
abbrev pub goes_at_once : Board → State → Bool
goes_at_once b (IsHolding (AtMarks m named) line) = list_all (λ d. b.marks d m) named
goes_at_once b (IsHolding (AtEnds named) line) = list_all (λ d. has_ended (b.state d)) named
goes_at_once b other = false

abbrev pub goers_at_once : Board → List ℕ
goers_at_once b = filter (λ c. goes_at_once b (b.state c)) channel_numbers

-- rule 2: the own marks of those that went at WAITM are lowered
abbrev pub lowers : State → ℕ → Bool
lowers (IsHolding (AtMarks m named) line) n = n == m
lowers other n = false

unfoldable pub marks_after_goes : Board → ℕ → ℕ → Bool
marks_after_goes b c m = b.marks c m && not (among (goers_at_once b) c && lowers (b.state c) m)

unfoldable pub state_after_goes : Board → ℕ → State
state_after_goes b c = if among (goers_at_once b) c then IsRunning (grant_with b c no_positions) else b.state c

abbrev pub after_goes : Board → Board
after_goes b = record b { marks = marks_after_goes b; state = state_after_goes b }

-- rule 3: the lowest channel takes its axes whose axes are all free or its own, or, where it takes them from standing
-- channels too, of a channel that stands at that moment
abbrev pub axes_asked : State → List ℕ
axes_asked (IsHolding (AtAxes from_standing axes) line) = axes
axes_asked other = []

abbrev pub waits_for_axes : State → Bool
waits_for_axes (IsHolding (AtAxes from_standing axes) line) = true
waits_for_axes other = false

abbrev pub takes_from_standing : State → Bool
takes_from_standing (IsHolding (AtAxes from_standing axes) line) = from_standing
takes_from_standing other = false

-- an axis of this owner, or of none, may be taken
abbrev pub may_be_taken : Board → ℕ → Bool → Option ℕ → Bool
may_be_taken b c from_standing None = true
may_be_taken b c from_standing (Some owner) = (owner == c) || (from_standing && stands (b.state owner))

abbrev pub can_have : Board → ℕ → ℕ → Bool
can_have b c x = may_be_taken b c (takes_from_standing (b.state c)) (owner_of (b.axis x))

abbrev pub can_take : Board → ℕ → Bool
can_take b c = waits_for_axes (b.state c) && list_all (can_have b c) (axes_asked (b.state c))

abbrev pub first_of : List ℕ → Option ℕ
first_of [] = None
first_of (c ∷ cs) = Some c

abbrev pub next_taker : Board → Option ℕ
next_taker b = first_of (filter (can_take b) channel_numbers)

-- those of the axes that it asks for which are not its own; where it can take them, each of these is free or of a channel that stands
abbrev pub axes_to_take : Board → ℕ → List ℕ
axes_to_take b c = filter (λ x. not (owns b c x)) (axes_asked (b.state c))

-- where an axis stands whose owner, if it has one, stands: where it was let go, or where its owner left it
abbrev pub resting_position : Board → ℕ → Ownership → ℤ
resting_position b x (OwnedBy c) = b.last_position c x
resting_position b x (FreeAt position) = position

unfoldable pub ownership_after_taking : Board → ℕ → ℕ → Ownership
ownership_after_taking b c x = if among (axes_to_take b c) x then OwnedBy c else b.axis x

unfoldable pub holder_after_taking : Board → ℕ → ℕ → Option ℕ
holder_after_taking b c z = if carries b (axes_to_take b c) z then Some c else b.holder z

abbrev pub with_its_axes : Board → ℕ → Board
with_its_axes b c = record b { axis = ownership_after_taking b c; holder = holder_after_taking b c }

-- it goes on with where the axes stand that it took
unfoldable pub grant_of_taker : Board → ℕ → Grant
grant_of_taker b c = grant_with (with_its_axes b c) c (positions_where (among (axes_to_take b c)) (λ x. resting_position b x (b.axis x)))

unfoldable pub state_after_taking : Board → ℕ → ℕ → State
state_after_taking b c d = if d == c then IsRunning (grant_of_taker b c) else b.state d

abbrev pub after_taking : Board → ℕ → Board
after_taking b c = record (with_its_axes b c) { state = state_after_taking b c }

abbrev pub going_of_taker : Board → ℕ → Going
going_of_taker b c = record { channel = c; from = b.state c; took = axes_to_take b c; grant = grant_of_taker b c }

-- who took, in order, and the board after that
pub record Takings : Type 0 where
  pub goings : List Going
  pub board : Board

-- The lowest that can takes its axes, and then again, until none can, at most so often.
abbrev pub takings : ℕ → Board → Takings
takings zero b = record { goings = []; board = b }
takings (suc n) b = elim (next_taker b) [
  | None ↦ record { goings = []; board = b }
  | Some c ↦ let rest = takings n (after_taking b c) in record { goings = going_of_taker b c ∷ rest.goings; board = rest.board }
]

-- Each taking ends a wait of a channel, so as many are enough as there can be channels: the law after_a_step_nobody_can_go shows that none can after them.
abbrev pub all_takings : Board → Takings
all_takings b = takings CHANNEL_LIMIT b

abbrev pub going_of_start : Board → ℕ → Going
going_of_start b c = record { channel = c; from = IsIdle; took = []; grant = start_grant b c }

abbrev pub going_at_once : Board → ℕ → Going
going_at_once b c = record { channel = c; from = b.state c; took = []; grant = grant_with b c no_positions }

-- all that go on, in order: those that START lets run, those that wait for marks or ends, both ascending,
-- and those that take axes, in the order of taking
abbrev pub goings_on : Board → List ℕ → List Going
goings_on b starts = map (going_of_start b) starts ++ (map (going_at_once b) (goers_at_once b) ++ (all_takings (after_goes b)).goings)

-- the board after all of them
abbrev pub after_goings : Board → Board
after_goings b = (all_takings (after_goes b)).board

-- Takings by who takes next, where the rest is a function: only to prove.
abbrev pub takings_from : (Board → Takings) → Board → Option ℕ → Takings
takings_from rest b None = record { goings = []; board = b }
takings_from rest b (Some c) = record {
  goings = going_of_taker b c ∷ (rest (after_taking b c)).goings;
  board = (rest (after_taking b c)).board;
}
