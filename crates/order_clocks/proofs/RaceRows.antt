-- Worked runs with a race, computed from the definitions.
use Rattle.std.proofs.Common.{◌≡◌, ℕ, ◌<◌, Bool, true, false, List, [], ◌∷◌, Some, refl, arith}
use Rattle.order_clocks.specs.Before.{Before}
use Rattle.order_clocks.specs.Counters.{row, act_row, rows_after_act, rows_after_goings, own_row, go_row}
use Rattle.order_clocks.specs.CourseOf.{course_of}
use Rattle.order_clocks.specs.Groups.{relabelled}
use Rattle.order_clocks.specs.Races.{IsRace, LoweredThenAwaited, NeededThenLowered, LoweredWhileAwaited}
use Rattle.order_clocks.proofs.CounterLaws.{before_to}
use Rattle.order_clocks.proofs.OrderLaws.{order_in}
use Rattle.sync_types.specs.BoardActions.{is_on_after, state_after_alarm, marks_of_all, ownership_after, holder_after, state_after_action}
use Rattle.sync_types.specs.BoardAlarms.{alarm_of}
use Rattle.sync_types.specs.Boards.{Board, first_board, first_state, grant_with, start_grant}
use Rattle.sync_types.specs.GoingOn.{marks_after_goes, state_after_goes, ownership_after_taking, holder_after_taking, grant_of_taker, state_after_taking}
use Rattle.sync_types.specs.Turns.{Move}
use Rattle.sync_types.specs.Views.{StartView}
use Rattle.sync_types.specs.declared.Action.{Action}
use Rattle.sync_types.specs.declared.Action.TheVariants.{WaitM, SetM, ClearM, End}
use Rattle.sync_types.specs.declared.runs.EventId.{EventId}

-- an event that counts fewer is not after
not_before : (b : Board) (moves : List Move) (e f : EventId) (c : ℕ) → row (course_of b moves) f c < row (course_of b moves) e c → Before b moves e f → ⊥
not_before b moves e f c less path =
    let up = (before_to (course_of b moves) e f c (order_in b moves e f path)).0 in
    absurd (omega arith)

abbrev step_of : ℕ → ℕ → Action → Move
step_of c line action = record { channel = c; step = record { line = line; action = action; at = []; on = [] } }

abbrev event : ℕ → ℕ → Bool → EventId
event i c go = record { step = i; channel = c; go = go }

abbrev two_channels : StartView
two_channels = record { channels = (1, Some 0, true) ∷ (2, Some 1, true) ∷ []; axes = []; zones = [] }

abbrev three_channels : StartView
three_channels = record { channels = (1, Some 0, true) ∷ (2, Some 1, true) ∷ (3, Some 2, true) ∷ []; axes = []; zones = [] }

abbrev mark_three : List Bool
mark_three = false ∷ false ∷ false ∷ true ∷ false ∷ false ∷ false ∷ false ∷ false ∷ false ∷ []

abbrev one : List Bool
one = false ∷ true ∷ false ∷ false ∷ false ∷ false ∷ false ∷ false ∷ false ∷ []

abbrev two : List Bool
two = false ∷ false ∷ true ∷ false ∷ false ∷ false ∷ false ∷ false ∷ false ∷ []

abbrev two_and_three : List Bool
two_and_three = false ∷ false ∷ true ∷ true ∷ false ∷ false ∷ false ∷ false ∷ false ∷ []

abbrev one_and_two : List Bool
one_and_two = false ∷ true ∷ true ∷ false ∷ false ∷ false ∷ false ∷ false ∷ false ∷ []

-- channel 1 raises and lowers its mark 3, and channel 2 then waits for it: a
abbrev lowered_too_soon : List Move
lowered_too_soon = step_of 1 5 (SetM mark_three) ∷ step_of 1 6 (ClearM mark_three) ∷ step_of 1 7 End ∷ step_of 2 9 (WaitM 3 one) ∷ []

soon_lowering : row (course_of (first_board two_channels) lowered_too_soon) (event 1 1 false) 1 ≡ 2
unfolding first_state grant_with start_grant is_on_after state_after_alarm marks_of_all ownership_after holder_after state_after_action alarm_of marks_after_goes state_after_goes ownership_after_taking holder_after_taking grant_of_taker state_after_taking relabelled act_row rows_after_act rows_after_goings own_row go_row
soon_lowering = refl

soon_waiting : row (course_of (first_board two_channels) lowered_too_soon) (event 3 2 false) 1 ≡ 0
unfolding first_state grant_with start_grant is_on_after state_after_alarm marks_of_all ownership_after holder_after state_after_action alarm_of marks_after_goes state_after_goes ownership_after_taking holder_after_taking grant_of_taker state_after_taking relabelled act_row rows_after_act rows_after_goings own_row go_row
soon_waiting = refl

pub lowered_too_soon_races : IsRace (first_board two_channels) lowered_too_soon 3 (record { case = 97; first = (1, 6); second = (2, 9) })
unfolding first_state grant_with start_grant is_on_after state_after_alarm marks_of_all ownership_after holder_after state_after_action alarm_of marks_after_goes state_after_goes ownership_after_taking holder_after_taking grant_of_taker state_after_taking
lowered_too_soon_races = LoweredThenAwaited (event 1 1 false) (event 3 2 false) 3 refl (record {
  first = refl;
  second = refl;
  step = omega arith;
  channels = refl;
  unordered = not_before (first_board two_channels) lowered_too_soon (event 1 1 false) (event 3 2 false) 1 (let early = soon_lowering in let late = soon_waiting in omega arith);
}) refl refl refl

-- with the programs exchanged channel 1 goes on by the mark, which is lowered after that: b
abbrev lowered_later : List Move
lowered_later = step_of 1 5 (WaitM 3 two) ∷ step_of 2 8 (SetM mark_three) ∷ step_of 1 6 End ∷ step_of 2 9 (ClearM mark_three) ∷ step_of 2 10 End ∷ []

later_going : row (course_of (first_board two_channels) lowered_later) (event 1 1 true) 1 ≡ 2
unfolding first_state grant_with start_grant is_on_after state_after_alarm marks_of_all ownership_after holder_after state_after_action alarm_of marks_after_goes state_after_goes ownership_after_taking holder_after_taking grant_of_taker state_after_taking relabelled act_row rows_after_act rows_after_goings own_row go_row
later_going = refl

later_lowering : row (course_of (first_board two_channels) lowered_later) (event 3 2 false) 1 ≡ 0
unfolding first_state grant_with start_grant is_on_after state_after_alarm marks_of_all ownership_after holder_after state_after_action alarm_of marks_after_goes state_after_goes ownership_after_taking holder_after_taking grant_of_taker state_after_taking relabelled act_row rows_after_act rows_after_goings own_row go_row
later_lowering = refl

pub lowered_later_races : IsRace (first_board two_channels) lowered_later 3 (record { case = 98; first = (2, 9); second = (1, 5) })
unfolding first_state grant_with start_grant is_on_after state_after_alarm marks_of_all ownership_after holder_after state_after_action alarm_of marks_after_goes state_after_goes ownership_after_taking holder_after_taking grant_of_taker state_after_taking
lowered_later_races = NeededThenLowered (event 1 1 true) (event 3 2 false) 3 refl (record {
  first = refl;
  second = refl;
  step = omega arith;
  channels = refl;
  unordered = not_before (first_board two_channels) lowered_later (event 1 1 true) (event 3 2 false) 1 (let early = later_going in let late = later_lowering in omega arith);
}) refl refl refl

-- channel 2 goes on, and the mark that it lowers is one for which channel 1 still waits: c
abbrev two_of_three_meet : List Move
two_of_three_meet = step_of 1 6 (WaitM 1 two_and_three) ∷ step_of 2 9 (WaitM 1 one) ∷ step_of 2 10 End ∷ step_of 3 12 (WaitM 1 one_and_two) ∷ []

pub two_of_three_race : IsRace (first_board three_channels) two_of_three_meet 1 (record { case = 99; first = (2, 9); second = (1, 6) })
unfolding first_state grant_with start_grant is_on_after state_after_alarm marks_of_all ownership_after holder_after state_after_action alarm_of marks_after_goes state_after_goes ownership_after_taking holder_after_taking grant_of_taker state_after_taking
two_of_three_race = LoweredWhileAwaited (event 1 2 true) 1 1 6 (2 ∷ 3 ∷ []) refl refl refl refl refl refl refl
