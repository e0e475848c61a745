-- What each step keeps of a board: axes that are free stand in range, and those of channels after their last steps, so do the axes of all grants, and channels are stopped by alarms of the table.
use Rattle.axis_sets.specs.declared.limits.TheConstants.{AXIS_LIMIT, CHANNEL_LIMIT}
use Rattle.std.proofs.Common.{◌≡◌, ℕ, zero, suc, ℤ, pos, ◌==◌, Bool, true, false, cond, List, [], ◌∷◌, length, map, Option, None, Some, IfSome, refl, arith}
use Rattle.std.proofs.lemmas.List.{length-map}
use Rattle.axis_sets.specs.Positions.{position_of}
use Rattle.channel_machine.specs.Run.{IsListedAction}
use Rattle.micro_units.specs.Position.{IsPosition}
use Rattle.fault_codes.specs.Codes.{IsAlarmCode, alarm_codes}
use Rattle.sync_types.proofs.BoardTests.{by_test}
use Rattle.sync_types.specs.BoardActions.{after_action, after_alarm, after_effects, after_own_part, after_part, channels_to_start, last_position_after, ownership_after, position_or_zero, state_after_action, state_after_alarm, state_of_actor, axes_to_free}
use Rattle.sync_types.specs.BoardAlarms.{alarm_of, names_no_mark, names_no_channel, names_no_axis, lets_go_of_others, splits_a_zone, finds_own_mark, finds_one_awake, starts_without_program, own_alarm}
use Rattle.sync_types.specs.Boards.{State, IsRunning, HasAlarmed, Ownership, OwnedBy, FreeAt, Board, among, axis_numbers, board_at_rest, first_board, first_state, grant_with, no_positions, owns, ownership_of, positions_where, start_grant}
use Rattle.sync_types.specs.GoingOn.{after_goes, after_taking, axes_to_take, resting_position, goers_at_once, grant_of_taker, next_taker, ownership_after_taking, state_after_goes, state_after_taking, takings, takings_from, with_its_axes}
use Rattle.sync_types.specs.Starts.{first_owner, first_position, runs_at_first}
use Rattle.sync_types.specs.Turns.{after_step}
use Rattle.sync_types.specs.Views.{StartView}
use Rattle.sync_types.specs.declared.Action.{Action}
use Rattle.sync_types.specs.declared.Action.TheVariants.{WaitM, SetM, ClearM, Init, Start, WaitE, Release, Get, End, Alarm}
use Rattle.sync_types.specs.declared.Grant.{Grant}
use Rattle.sync_types.specs.declared.Step.{Step}

-- the positions that there are are in range
abbrev pub AreInRange : List (Option ℤ) → Type 0
AreInRange at = (axis : ℕ) → IfSome (position_of at axis) IsPosition

pub record IsGoodGrant (grant : Grant) : Type 0 where
  pub at : AreInRange grant.at
  pub axes : length grant.axes ≡ AXIS_LIMIT

abbrev pub IsGoodState : State → Type 0
IsGoodState (IsRunning grant) = IsGoodGrant grant
IsGoodState (HasAlarmed code line) = IsAlarmCode code
IsGoodState other = Unit {0}

abbrev pub IsGoodPlace : Ownership → Type 0
IsGoodPlace (OwnedBy c) = Unit {0}
IsGoodPlace (FreeAt position) = IsPosition position

pub record IsGood (b : Board) : Type 0 where
  pub states : (d : ℕ) → IsGoodState (b.state d)
  pub places : (x : ℕ) → IsGoodPlace (b.axis x)
  pub left : (d x : ℕ) → IsPosition (b.last_position d x)
  pub first : (x : ℕ) → IsPosition (first_position b.start x)

pub record IsGoodStep (step : Step) : Type 0 where
  pub at : AreInRange step.at
  pub listed : IsListedAction step.action

-- ---- rows of positions

pub zero_in_range : IsPosition (pos 0)
zero_in_range = omega arith

pub row_in_range : (f : ℕ → Option ℤ) → ((x : ℕ) → IfSome (f x) IsPosition) → (xs : List ℕ) → AreInRange (map f xs)
row_in_range f each [] axis = tt
row_in_range f each (x ∷ xs) zero = each x
row_in_range f each (x ∷ xs) (suc axis) = row_in_range f each xs axis

pub none_in_range : AreInRange no_positions
none_in_range = row_in_range (λ x. None) (λ x. tt) axis_numbers

some_in_range : (test : ℕ → Bool) (place : ℕ → ℤ) → ((x : ℕ) → IsPosition (place x)) → AreInRange (positions_where test place)
some_in_range test place each = row_in_range (λ x. cond (test x) (Some (place x)) None)
    (λ x. by_test (λ (o : Option ℤ). IfSome o IsPosition) (test x) (Some (place x)) None (λ on. each x) (λ off. tt)) axis_numbers

pub read_in_range : (o : Option ℤ) → IfSome o IsPosition → IsPosition (position_or_zero o)
read_in_range None given = zero_in_range
read_in_range (Some position) given = given

-- ---- grants

granted : (b : Board) (c : ℕ) (at : List (Option ℤ)) → AreInRange at → IsGoodGrant (grant_with b c at)
unfolding grant_with
granted b c at in_range = record { at = in_range; axes = length-map axis_numbers (owns b c) }

started : (b : Board) (c : ℕ) → ((x : ℕ) → IsPosition (first_position b.start x)) → IsGoodGrant (start_grant b c)
unfolding start_grant
started b c first = granted b c (positions_where (owns b c) (first_position b.start)) (some_in_range (owns b c) (first_position b.start) first)

resting_in_range : (b : Board) (x : ℕ) → IsGood b → IsPosition (resting_position b x (b.axis x))
resting_in_range b x good = by_owner (b.axis x) (good.places x)
  where
    by_owner : (a : Ownership) → IsGoodPlace a → IsPosition (resting_position b x a)
    by_owner (OwnedBy c) place = good.left c x
    by_owner (FreeAt position) place = place

taken : (b : Board) (c : ℕ) → IsGood b → IsGoodGrant (grant_of_taker b c)
unfolding grant_of_taker
taken b c good = granted (with_its_axes b c) c (positions_where (among (axes_to_take b c)) (λ x. resting_position b x (b.axis x)))
    (some_in_range (among (axes_to_take b c)) (λ x. resting_position b x (b.axis x)) (λ x. resting_in_range b x good))

-- ---- alarms

own_listed : (action : Action) → IsListedAction action → IfSome (own_alarm action) IsAlarmCode
own_listed (Alarm code) listed = listed
own_listed (WaitM m named) listed = tt
own_listed (SetM marks) listed = tt
own_listed (ClearM marks) listed = tt
own_listed (Init c program) listed = tt
own_listed (Start named) listed = tt
own_listed (WaitE named) listed = tt
own_listed (Release axes) listed = tt
own_listed (Get axes) listed = tt
own_listed End listed = tt

all_listed : (a b c d e f g h : Bool) (rest : Option ℕ) → IfSome rest IsAlarmCode
    → IfSome (cond a (Some 25) (cond b (Some 24) (cond c (Some 14) (cond d (Some 15) (cond e (Some 31) (cond f (Some 26) (cond g (Some 27) (cond h (Some 28) rest)))))))) IsAlarmCode
unfolding IsAlarmCode alarm_codes
all_listed true b c d e f g h rest listed = refl
all_listed false true c d e f g h rest listed = refl
all_listed false false true d e f g h rest listed = refl
all_listed false false false true e f g h rest listed = refl
all_listed false false false false true f g h rest listed = refl
all_listed false false false false false true g h rest listed = refl
all_listed false false false false false false true h rest listed = refl
all_listed false false false false false false false true rest listed = refl
all_listed false false false false false false false false rest listed = listed

alarm_listed : (b : Board) (c : ℕ) (action : Action) → IsListedAction action → IfSome (alarm_of b c action) IsAlarmCode
unfolding alarm_of
alarm_listed b c action listed =
    all_listed (names_no_mark action) (names_no_channel b action) (names_no_axis b action) (lets_go_of_others b c action) (splits_a_zone b action) (finds_own_mark b c action) (finds_one_awake b action)
    (starts_without_program b action) (own_alarm action) (own_listed action listed)

-- ---- the channel's own part

left_in_range : (b : Board) (c : ℕ) (step : Step) (d x : ℕ) → AreInRange step.at → IsGood b → IsPosition (last_position_after b c step d x)
unfolding last_position_after
left_in_range b c step d x in_range good =
    by_test IsPosition (d == c) _ _ (λ here. read_in_range (position_of step.at x) (in_range x)) (λ other. good.left d x)

good_alarm : (b : Board) (c : ℕ) (step : Step) (code : ℕ) → IsAlarmCode code → AreInRange step.at → IsGood b → IsGood (after_alarm b c step code)
unfolding state_after_alarm
good_alarm b c step code listed in_range good = record {
  states = λ d. by_test IsGoodState (d == c) (HasAlarmed code step.line) (b.state d) (λ here. listed) (λ other. good.states d);
  places = good.places;
  left = λ d x. left_in_range b c step d x in_range good;
  first = good.first;
}

good_actor : (b : Board) (c line : ℕ) (action : Action) → IsGoodState (state_of_actor b c line action)
good_actor b c line End = tt
good_actor b c line (WaitM m named) = tt
good_actor b c line (WaitE named) = tt
good_actor b c line (Get axes) = tt
good_actor b c line (SetM marks) = granted b c no_positions none_in_range
good_actor b c line (ClearM marks) = granted b c no_positions none_in_range
good_actor b c line (Init target program) = granted b c no_positions none_in_range
good_actor b c line (Start named) = granted b c no_positions none_in_range
good_actor b c line (Release axes) = granted b c no_positions none_in_range
good_actor b c line (Alarm code) = granted b c no_positions none_in_range

good_action : (b : Board) (c : ℕ) (step : Step) → AreInRange step.at → IsGood b → IsGood (after_action b c step)
unfolding state_after_action ownership_after
good_action b c step in_range good = record {
  states = λ d. by_test IsGoodState (d == c) _ _ (λ here. good_actor (after_effects b c step) c step.line step.action)
      (λ other. by_test IsGoodState (among (channels_to_start step.action) d) _ _ (λ starts. started (after_effects b c step) d good.first) (λ rests. good.states d));
  places = λ x. by_test IsGoodPlace (among (axes_to_free step.action) x) _ _ (λ freed. read_in_range (position_of step.at x) (in_range x)) (λ kept. good.places x);
  left = λ d x. left_in_range b c step d x in_range good;
  first = good.first;
}

good_part : (b : Board) (c : ℕ) (step : Step) (alarm : Option ℕ) → IfSome alarm IsAlarmCode → AreInRange step.at → IsGood b → IsGood (after_part b c step alarm)
good_part b c step (Some code) listed in_range good = good_alarm b c step code listed in_range good
good_part b c step None listed in_range good = good_action b c step in_range good

-- ---- who goes on

good_goes : (b : Board) → IsGood b → IsGood (after_goes b)
unfolding state_after_goes
good_goes b good = record {
  states = λ d. by_test IsGoodState (among (goers_at_once b) d) _ _ (λ goes. granted b d no_positions none_in_range) (λ rests. good.states d);
  places = good.places;
  left = good.left;
  first = good.first;
}

good_taking : (b : Board) (c : ℕ) → IsGood b → IsGood (after_taking b c)
unfolding state_after_taking ownership_after_taking
good_taking b c good = record {
  states = λ d. by_test IsGoodState (d == c) _ _ (λ here. taken b c good) (λ other. good.states d);
  places = λ x. by_test IsGoodPlace (among (axes_to_take b c) x) _ _ (λ taken. tt) (λ kept. good.places x);
  left = good.left;
  first = good.first;
}

good_takings : (n : ℕ) (b : Board) → IsGood b → IsGood (takings n b).board
good_takings zero b good = good
good_takings (suc n) b good = next (good_takings n) (next_taker b)
  where
    next : ((a : Board) → IsGood a → IsGood (takings n a).board) → (taker : Option ℕ) → IsGood (takings_from (takings n) b taker).board
    next rest None = good
    next rest (Some c) = rest (after_taking b c) (good_taking b c good)

pub good_step : (b : Board) (c : ℕ) (step : Step) → IsGoodStep step → IsGood b → IsGood (after_step b c step)
good_step b c step is good =
    good_takings CHANNEL_LIMIT (after_goes (after_own_part b c step))
    (good_goes (after_own_part b c step) (good_part b c step (alarm_of b c step.action) (alarm_listed b c step.action is.listed) is.at good))

-- ---- the board before the first step

first_place : (owner : Option ℕ) (position : ℤ) → IsPosition position → IsGoodPlace (ownership_of owner position)
first_place (Some c) position in_range = tt
first_place None position in_range = in_range

pub good_first : (start : StartView) → ((x : ℕ) → IsPosition (first_position start x)) → IsGood (first_board start)
unfolding first_state
good_first start first = record {
  states = λ d. by_test IsGoodState (runs_at_first start d) _ _ (λ runs. started (board_at_rest start) d first) (λ rests. tt);
  places = λ x. first_place (first_owner start x) (first_position start x) (first x);
  left = λ d x. first x;
  first = first;
}
