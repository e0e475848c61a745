-- Steps. Each run, after so many of its steps, as the machine of the laws of the board has it.
use Rattle.std.specs.Prelude.{ℕ, ℤ, pos, zero, suc, ◌==◌, ◌&&◌, Bool, List, [], ◌∷◌, ◌++◌, filter, Option, Some, None, if◌then◌else◌}
use Rattle.std.specs.Option.{option_map_or}
use Rattle.board_laws.specs.Machine.{In, Own, Cell, State, Clock, Span, Tenure, with_value_at, span_of, tenures_handed_on}
use Rattle.order_clocks.specs.Counters.{LastRows, last_rows, rows_after_act}
use Rattle.order_clocks.specs.CourseOf.{course_of}
use Rattle.order_clocks.specs.Happenings.{Raised, Freed, board_at, happening_at, going_of, of_going}
use Rattle.order_clocks.specs.TracedRaces.{Trace, Lowered, Needed, Took, Touched, act_leaves, going_leaves}
use Rattle.sync_types.specs.BoardActions.{after_own_part}
use Rattle.sync_types.specs.Boards.{Ownership, OwnedBy, FreeAt, Board, among, channel_numbers, grant_in, owner_of}
use Rattle.sync_types.specs.Events.{channels_in}
use Rattle.sync_types.specs.GoingOn.{first_of}
use Rattle.sync_types.specs.Runs.{as_list, gets_a_grant}
use Rattle.sync_types.specs.Turns.{Move, after_step}
use Rattle.sync_types.specs.declared.Grant.{Grant}

-- the step of a place in a list of steps
abbrev pub move_at : List Move → ℕ → Option Move
move_at [] i = None
move_at (m ∷ ms) zero = Some m
move_at (m ∷ ms) (suc i) = move_at ms i

-- the counters before the step of this place, and within it, after its act
abbrev pub rows_at : Board → List Move → ℕ → LastRows
rows_at b moves i = last_rows (course_of b moves) i

abbrev pub rows_in : Board → List Move → ℕ → LastRows
rows_in b moves i = rows_after_act (course_of b moves) i (rows_at b moves i)

-- the board within the step of this place, after the own part of its channel
abbrev pub part_at : Board → List Move → ℕ → Board
part_at b [] i = b
part_at b (m ∷ ms) zero = after_own_part b m.channel m.step
part_at b (m ∷ ms) (suc i) = part_at (after_step b m.channel m.step) ms i

abbrev pub actor : Board → List Move → ℕ → ℕ
actor b moves i = (happening_at b moves i).channel

abbrev pub goes_in : Board → List Move → ℕ → ℕ → Bool
goes_in b moves i c = among (channels_in (happening_at b moves i).goings) c

-- the place of the last event of a channel, in the first steps, that leaves this; 0 where there is none
abbrev pub last_place : Board → List Move → ℕ → ℕ → Trace → ℕ
last_place b moves zero c t = 0
last_place b moves (suc i) c t =
    if of_going (going_of (happening_at b moves i).goings c) (λ g. going_leaves g t) then (rows_at b moves (suc i)).past c c
    else if (c == actor b moves i) && act_leaves (happening_at b moves i) t then (rows_in b moves i).past c c
    else last_place b moves i c t

-- the grants that a channel has got in the first steps
abbrev pub grants_at : Board → List Move → ℕ → ℕ → List Grant
grants_at b moves zero c = as_list (grant_in (b.state c))
grants_at b moves (suc i) c =
    if gets_a_grant (board_at b moves i) (actor b moves i) c then grants_at b moves i c ++ as_list (grant_in ((board_at b moves (suc i)).state c))
    else grants_at b moves i c

-- by places: the clocks of a channel's events
abbrev pub clocks_in : Board → List Move → ℕ → (ℕ → Clock) → ℕ → ℕ → Clock
clocks_in b moves i old c = if c == actor b moves i then with_value_at ((rows_in b moves i).past c c) ((rows_in b moves i).past c) old else old

abbrev pub clocks_at : Board → List Move → ℕ → ℕ → ℕ → Clock
clocks_at b moves zero c = λ j x. 0
clocks_at b moves (suc i) c =
    if goes_in b moves i c then with_value_at ((rows_at b moves (suc i)).past c c) ((rows_at b moves (suc i)).past c) (clocks_in b moves i (clocks_at b moves i c) c)
    else clocks_in b moves i (clocks_at b moves i c) c

-- and the spans that they begin
abbrev pub spans_in : Board → List Move → ℕ → (ℕ → Span) → ℕ → ℕ → Span
spans_in b moves i old c =
    if c == actor b moves i then with_value_at ((rows_in b moves i).past c c) (span_of ((part_at b moves i).state c) (grants_at b moves i c ++ as_list (grant_in ((part_at b moves i).state c)))) old
    else old

abbrev pub spans_at : Board → List Move → ℕ → ℕ → ℕ → Span
spans_at b moves zero c = λ j. span_of (b.state c) (as_list (grant_in (b.state c)))
spans_at b moves (suc i) c =
    if goes_in b moves i c then with_value_at ((rows_at b moves (suc i)).past c c) (span_of ((board_at b moves (suc i)).state c) (grants_at b moves (suc i) c)) (spans_in b moves i (spans_at b moves i c) c)
    else spans_in b moves i (spans_at b moves i c) c

-- the tenures of an axis
abbrev pub takes_in : Board → List Move → ℕ → ℕ → ℕ → Bool
takes_in b moves i x c = of_going (going_of (happening_at b moves i).goings c) (λ g. among g.took x)

abbrev pub tenures_in : Board → List Move → ℕ → List Tenure → ℕ → List Tenure
tenures_in b moves i old x =
    if among (happening_at b moves i).frees x
    then tenures_handed_on None ((rows_at b moves i).past (actor b moves i) (actor b moves i)) (record { channel = actor b moves i; place = suc ((rows_at b moves i).past (actor b moves i) (actor b moves i)) }) old
    else old

-- within the step, the number of the span in which the owner of an axis is, 0 where there is none
abbrev pub owner_span : Board → List Move → ℕ → ℕ → ℕ
owner_span b moves i x = option_map_or (λ d. (rows_in b moves i).past d d) (owner_of ((part_at b moves i).axis x)) 0

abbrev pub taken_by : Board → List Move → ℕ → ℕ → Option ℕ → List Tenure → List Tenure
taken_by b moves i x None old = old
taken_by b moves i x (Some c) old = tenures_handed_on (Some c) (owner_span b moves i x) (record { channel = c; place = suc ((rows_in b moves i).past c c) }) old

abbrev pub tenures_at : Board → List Move → ℕ → ℕ → List Tenure
tenures_at b moves zero x = record { owner = owner_of (b.axis x); first = None; last = None; from = 0; upto = 0 } ∷ []
tenures_at b moves (suc i) x = taken_by b moves i x (first_of (filter (takes_in b moves i x) channel_numbers)) (tenures_in b moves i (tenures_at b moves i x) x)

unfoldable pub own_at : Board → List Move → ℕ → ℕ → Own
own_at b moves i c = record {
  marks = (board_at b moves i).marks c;
  seat = In ((board_at b moves i).state c);
  program = (board_at b moves i).program c;
  last_position = (board_at b moves i).last_position c;
  grants = grants_at b moves i c;
  count = (rows_at b moves i).past c c;
  past = (rows_at b moves i).past c;
  log = clocks_at b moves i c;
  spans = spans_at b moves i c;
  raised = λ k. (rows_at b moves i).last (Raised c k);
  lowered = λ k. last_place b moves i c (Lowered c k);
  needs = λ d k. last_place b moves i c (Needed d k);
  took = λ x. last_place b moves i c (Took x);
  started = λ y. last_place b moves i c (Touched y);
}

-- where an axis is free; 0 where it is owned
abbrev pub free_position : Ownership → ℤ
free_position (OwnedBy c) = pos 0
free_position (FreeAt position) = position

unfoldable pub cell_at : Board → List Move → ℕ → ℕ → Cell
cell_at b moves i x = record {
  owner = owner_of ((board_at b moves i).axis x);
  position = free_position ((board_at b moves i).axis x);
  freed = (rows_at b moves i).last (Freed x);
  tenures = tenures_at b moves i x;
}

-- the run after so many steps
abbrev pub tracked : Board → List Move → ℕ → State
tracked b moves i = record { start = (board_at b moves i).start; own = own_at b moves i; axis = cell_at b moves i; on = (board_at b moves i).is_on }
