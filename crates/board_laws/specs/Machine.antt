-- Steps. A run as its laws see it: for each channel and each axis what it has, how many events there were, and
-- which of them the last ones count. A step is the own part of a channel, and then all that goes on, at once.
use Rattle.std.specs.Prelude.{ℕ, ℤ, pos, zero, suc, ◌==◌, ◌&&◌, ◌||◌, not, Bool, true, false, List, [], ◌∷◌, ◌++◌, length, filter, Option, None, Some, map, if◌then◌else◌}
use Rattle.std.specs.List.{list_all, list_any}
use Rattle.axis_sets.specs.Sets.{has, members_of}
use Rattle.axis_sets.specs.Positions.{position_of}
use Rattle.sync_types.specs.BoardActions.{after_own_part, axes_to_free, channels_started, position_or_zero}
use Rattle.sync_types.specs.BoardAlarms.{alarm_of}
use Rattle.sync_types.specs.Boards.{State as Doing, IsIdle, IsRunning, IsHolding, HasEnded, AtMarks, AtEnds, AtAxes, Board, among, axis_numbers, zone_numbers, channel_numbers, grant_in, is_this, ownership_of, positions_where}
use Rattle.sync_types.specs.GoingOn.{first_of}
use Rattle.sync_types.specs.Runs.{Script, as_list}
use Rattle.sync_types.specs.Starts.{axes_of_zone, first_holder, first_position}
use Rattle.sync_types.specs.Views.{StartView}
use Rattle.sync_types.specs.declared.Action.{Action}
use Rattle.sync_types.specs.declared.Action.TheVariants.{Init, Start}
use Rattle.sync_types.specs.declared.Grant.{Grant}
use Rattle.sync_types.specs.declared.Step.{Step}

-- what a wait needs: a mark, the end of a channel, an axis; and who is started needs its START
pub data Need : Type 0 where
  Mark : (channel number : ℕ) → Need
  End : (channel : ℕ) → Need
  Axis : (axis : ℕ) → Need
  Call : (channel : ℕ) → Need

abbrev pub same : Need → Need → Bool
same (Mark d k) (Mark e j) = (d == e) && (k == j)
same (End d) (End e) = d == e
same (Axis a) (Axis e) = a == e
same (Call p) (Call q) = p == q
same n m = false

-- what a channel does; in a step also that it is started by a channel and has not gone on yet
pub data Seat : Type 0 where
  In : (state : Doing) → Seat
  Called : (by : ℕ) → Seat

abbrev pub needs_of : Seat → List Need
needs_of (In (IsHolding (AtMarks k named) line)) = map (λ (d : ℕ). Mark d k) named
needs_of (In (IsHolding (AtEnds named) line)) = map (λ (d : ℕ). End d) named
needs_of (In (IsHolding (AtAxes from_standing axes) line)) = map (λ (a : ℕ). Axis a) axes
needs_of (In state) = []
needs_of (Called p) = Call p ∷ []

abbrev pub holds : Seat → Bool
holds (In (IsHolding hold line)) = true
holds (In state) = false
holds (Called p) = true

-- only channels of a machine's numbers go on after a wait
abbrev pub is_listed : ℕ → Seat → Bool
is_listed c (In state) = among channel_numbers c
is_listed c (Called p) = true

-- the seat needs this
unfoldable pub asks : Seat → Need → Bool
asks s n = list_any (same n) (needs_of s)

-- at a WAITM of this number
abbrev pub is_at : Seat → ℕ → Bool
is_at (In (IsHolding (AtMarks k named) line)) j = k == j
is_at (In state) j = false
is_at (Called p) j = false

abbrev pub is_ended : Seat → Bool
is_ended (In (HasEnded line)) = true
is_ended (In state) = false
is_ended (Called p) = false

abbrev pub is_idle : Seat → Bool
is_idle (In IsIdle) = true
is_idle (In state) = false
is_idle (Called p) = false

abbrev pub is_running : Seat → Bool
is_running (In (IsRunning grant)) = true
is_running (In state) = false
is_running (Called p) = false

-- how many events of each channel an event counts: those that are it or before it
abbrev pub Clock : Type 0
Clock = ℕ → ℕ

-- what a channel does after an event, and how many grants it has got by then
pub record Span : Type 0 where
  pub state : Doing
  pub grants : ℕ

-- Of a channel: what the board has of it, by their numbers where its axes stood after its last act or at the start, its grants, the number of its events, the clock of the last, and by
-- the place of each its clock and the span that it begins; the clock of the act that raised a mark last; and
-- the places of its events that last lowered a mark, needed one, took an axis, and named a channel by INIT or
-- START.
pub record Own : Type 0 where
  pub marks : ℕ → Bool
  pub seat : Seat
  pub program : Option ℕ
  pub last_position : ℕ → ℤ
  pub grants : List Grant
  pub count : ℕ
  pub past : Clock
  pub log : ℕ → Clock
  pub spans : ℕ → Span
  pub raised : ℕ → Clock
  pub lowered : ℕ → ℕ
  pub needs : ℕ → ℕ → ℕ
  pub took : ℕ → ℕ
  pub started : ℕ → ℕ

-- an event by its channel and its place among that channel's events
pub record Place : Type 0 where
  pub channel : ℕ
  pub place : ℕ

-- how long an axis has one owner, or none: between which events, and the numbers of the owner's first and last span
pub record Tenure : Type 0 where
  pub owner : Option ℕ
  pub first : Option Place
  pub last : Option Place
  pub from : ℕ
  pub upto : ℕ

-- of an axis: its owner or none, where it is free (0 where it is owned), the clock of the last RELEASE, and its tenures, the newest first
pub record Cell : Type 0 where
  pub owner : Option ℕ
  pub position : ℤ
  pub freed : Clock
  pub tenures : List Tenure

pub record State : Type 0 where
  pub start : StartView
  pub own : ℕ → Own
  pub axis : ℕ → Cell
  pub on : ℕ → Bool

abbrev pub is_free : Option ℕ → Bool
is_free None = true
is_free (Some d) = false

-- the channel owns the axis
abbrev pub mine : State → ℕ → ℕ → Bool
mine t c a = is_this (t.axis a).owner c

unfoldable pub is_met : State → ℕ → Need → Bool
is_met t c (Mark d k) = (t.own d).marks k
is_met t c (End d) = is_ended (t.own d).seat
is_met t c (Axis a) = is_free (t.axis a).owner || mine t c a
is_met t c (Call p) = true

-- the channel in this seat goes on
unfoldable pub ready_at : State → ℕ → Seat → Bool
ready_at t c s = holds s && (is_listed c s && list_all (is_met t c) (needs_of s))

abbrev pub ready : State → ℕ → Bool
ready t c = ready_at t c (t.own c).seat

abbrev pub larger : ℕ → ℕ → ℕ
larger zero n = n
larger (suc m) zero = suc m
larger (suc m) (suc n) = suc (larger m n)

abbrev pub most : (Need → ℕ) → List Need → ℕ
most f [] = 0
most f (n ∷ ns) = larger (f n) (most f ns)

-- d goes on too and names c at this number: one event
abbrev pub partner : State → ℕ → ℕ → ℕ → Bool
partner t c d k = ready t d && asks (t.own d).seat (Mark c k)

-- what a need gives to the clock of c's going on
unfoldable pub heard : State → ℕ → ℕ → Need → ℕ
heard t c x (Mark d k) =
    if d == c then 0 else larger ((t.own d).raised k x) (if (x == d) && partner t c d k then suc (t.own d).count else 0)
heard t c x (End d) = (t.own d).past x
heard t c x (Axis a) = if mine t c a then 0 else (t.axis a).freed x
heard t c x (Call p) = (t.own p).past x

unfoldable pub clock_of : State → ℕ → Own → Clock
clock_of t c o = λ (x : ℕ). if x == c then suc o.count else larger (o.past x) (most (heard t c x) (needs_of o.seat))

abbrev pub go_clock : State → ℕ → Clock
go_clock t c = clock_of t c (t.own c)

-- the axes that a channel takes: those that it names and that are not its own
unfoldable pub axes_taken : State → ℕ → Seat → ℕ → Bool
axes_taken t c s = λ (a : ℕ). asks s (Axis a) && not (mine t c a)

-- and those that it owns after that
unfoldable pub axes_then_owned : State → ℕ → Seat → ℕ → Bool
axes_then_owned t c s = λ (a : ℕ). asks s (Axis a) || mine t c a

-- a zone goes with the first axis that carries it, and where none does it stays with its first holder
abbrev pub holds_by_carrier : Option ℕ → (ℕ → Bool) → Bool → Bool
holds_by_carrier (Some a) own first = own a
holds_by_carrier None own first = first

unfoldable pub holds_zone : StartView → (ℕ → Bool) → ℕ → ℕ → Bool
holds_zone start own c z = holds_by_carrier (first_of (members_of (axes_of_zone start z))) own (is_this (first_holder start z) c)

-- what a channel goes on with that owns these axes
unfoldable pub grant_by : StartView → ℕ → (ℕ → Bool) → List (Option ℤ) → (ℕ → Bool) → Option ℕ → Grant
grant_by start c own at on program = record {
  axes = map own axis_numbers;
  at = at;
  on = false ∷ map (λ z. holds_zone start own c z && on z) zone_numbers;
  program = program;
}

-- it learns where all its axes stand that it is started with, and where those stand that it has taken
unfoldable pub places_of : State → ℕ → Seat → List (Option ℤ)
places_of t c (In state) = positions_where (axes_taken t c (In state)) (λ a. (t.axis a).position)
places_of t c (Called p) = positions_where (mine t c) (first_position t.start)

unfoldable pub grant_at_go : State → ℕ → Own → Grant
grant_at_go t c o = grant_by t.start c (axes_then_owned t c o.seat) (places_of t c o.seat) t.on o.program

-- a value at a place
abbrev pub with_value_at : {A : Type 0} → ℕ → A → (ℕ → A) → ℕ → A
with_value_at i new old j = if j == i then new else old j

abbrev pub span_of : Doing → List Grant → Span
span_of state grants = record { state = state; grants = length grants }

-- a channel after its going on
unfoldable pub gone_of : Own → Clock → (ℕ → Bool) → Grant → Own
gone_of o clock taken grant = record {
  marks = λ (k : ℕ). if is_at o.seat k then false else o.marks k;
  seat = In (IsRunning grant);
  program = o.program;
  last_position = o.last_position;
  grants = o.grants ++ grant ∷ [];
  count = suc o.count;
  past = clock;
  log = with_value_at (suc o.count) clock o.log;
  spans = with_value_at (suc o.count) (span_of (IsRunning grant) (o.grants ++ grant ∷ [])) o.spans;
  raised = o.raised;
  lowered = λ (k : ℕ). if is_at o.seat k then suc o.count else o.lowered k;
  needs = λ (d k : ℕ). if asks o.seat (Mark d k) then suc o.count else o.needs d k;
  took = λ (a : ℕ). if taken a then suc o.count else o.took a;
  started = o.started;
}

abbrev pub own_after_go : State → ℕ → Own
own_after_go t c = gone_of (t.own c) (go_clock t c) (axes_taken t c (t.own c).seat) (grant_at_go t c (t.own c))

unfoldable pub takes : State → ℕ → ℕ → Bool
takes t a c = ready t c && (asks (t.own c).seat (Axis a) && not (mine t c a))

abbrev pub taker : State → ℕ → Option ℕ
taker t a = first_of (filter (takes t a) channel_numbers)

-- the number of the span in which an owner is, 0 where there is none
abbrev pub span_now : State → Option ℕ → ℕ
span_now t (Some c) = (t.own c).count
span_now t None = 0

-- from this event on another has the axis, or nobody
abbrev pub tenures_handed_on : Option ℕ → ℕ → Place → List Tenure → List Tenure
tenures_handed_on to upto e [] = []
tenures_handed_on to upto e (t ∷ ts) =
    record { owner = to; first = Some e; last = None; from = e.place; upto = 0 }
    ∷ (record { owner = t.owner; first = t.first; last = Some e; from = t.from; upto = upto } ∷ ts)

abbrev pub next_event : State → ℕ → Place
next_event t c = record { channel = c; place = suc (t.own c).count }

unfoldable pub cell_after_taking : State → Option ℕ → Cell → Cell
cell_after_taking t None cell = cell
cell_after_taking t (Some c) cell = record {
  owner = Some c;
  position = pos 0;
  freed = cell.freed;
  tenures = tenures_handed_on (Some c) (span_now t cell.owner) (next_event t c) cell.tenures;
}

unfoldable pub settle_own : State → ℕ → Own
settle_own t c = if ready t c then own_after_go t c else t.own c

unfoldable pub settle_axis : State → ℕ → Cell
settle_axis t a = cell_after_taking t (taker t a) (t.axis a)

-- all that is ready goes on, at once
abbrev pub settle : State → State
settle t = record { start = t.start; own = settle_own t; axis = settle_axis t; on = t.on }

-- what a step makes: its channel's own part, the axes that it lets go and where they stand, the channels that it
-- starts or gives a program, and which of the channel's zones are on
pub record Effect : Type 0 where
  pub own : Own
  pub frees : ℕ → Bool
  pub place : ℕ → ℤ
  pub calls : ℕ → Bool
  pub selects : ℕ → Bool
  pub program : Option ℕ
  pub on : ℕ → Bool

-- what START and INIT do to a channel
unfoldable pub own_after_call : Effect → ℕ → ℕ → Own → Own
own_after_call e p c o =
    if e.calls c && is_idle o.seat then record o { seat = Called p }
    else (if e.selects c && is_idle o.seat then record o { program = e.program } else o)

unfoldable pub put_own : State → ℕ → Effect → ℕ → Own
put_own b p e c = if c == p then e.own else own_after_call e p c (b.own c)

-- an axis after it was let go
unfoldable pub cell_after_release : State → ℕ → Effect → ℕ → Cell
cell_after_release b p e a = record {
  owner = None;
  position = e.place a;
  freed = e.own.past;
  tenures = tenures_handed_on None (b.own p).count (next_event b p) (b.axis a).tenures;
}

unfoldable pub put_axis : State → ℕ → Effect → ℕ → Cell
put_axis b p e a = if e.frees a && mine b p a then cell_after_release b p e a else b.axis a

unfoldable pub put_on : State → ℕ → Effect → ℕ → Bool
put_on b p e z = if holds_zone b.start (mine b p) p z then e.on z else b.on z

abbrev pub with_effect : State → ℕ → Effect → State
with_effect b p e = record { start = b.start; own = put_own b p e; axis = put_axis b p e; on = put_on b p e }

-- the board: who is started runs already, by what it will get
abbrev pub doing_of : State → ℕ → Seat → Doing
doing_of t c (In state) = state
doing_of t c (Called p) = IsRunning (grant_at_go t c (t.own c))

abbrev pub carrier : Option ℕ → (ℕ → Option ℕ) → Option ℕ → Option ℕ
carrier (Some a) owner first = owner a
carrier None owner first = first

abbrev pub board_of : State → Board
board_of t = record {
  start = t.start;
  marks = λ c. (t.own c).marks;
  state = λ c. doing_of t c (t.own c).seat;
  program = λ c. (t.own c).program;
  last_position = λ c. (t.own c).last_position;
  axis = λ a. ownership_of (t.axis a).owner (t.axis a).position;
  holder = λ z. carrier (first_of (members_of (axes_of_zone t.start z))) (λ a. (t.axis a).owner) (first_holder t.start z);
  is_on = t.on;
}

-- the channels that INIT and START name, also where they alarm
abbrev pub touches : Action → ℕ → Bool
touches (Init c program) y = among (c ∷ []) y
touches (Start named) y = among (members_of named) y
touches other y = false

abbrev pub act_clock : ℕ → Own → Clock
act_clock p o = λ (x : ℕ). if x == p then suc o.count else o.past x

-- a channel after its act, which leaves these marks and this state, and its axes at these places
unfoldable pub own_after_act : ℕ → Own → (ℕ → Bool) → Doing → (ℕ → Bool) → (ℕ → ℤ) → Own
own_after_act p o marks state names place = record {
  marks = marks;
  seat = In state;
  program = o.program;
  last_position = place;
  grants = o.grants ++ as_list (grant_in state);
  count = suc o.count;
  past = act_clock p o;
  log = with_value_at (suc o.count) (act_clock p o) o.log;
  spans = with_value_at (suc o.count) (span_of state (o.grants ++ as_list (grant_in state))) o.spans;
  raised = λ (k : ℕ). if marks k && not (o.marks k) then act_clock p o else o.raised k;
  lowered = λ (k : ℕ). if o.marks k && not (marks k) then suc o.count else o.lowered k;
  needs = o.needs;
  took = o.took;
  started = λ (y : ℕ). if names y then suc o.count else o.started y;
}

-- by its alarm, or none
abbrev pub axes_freed : Option ℕ → Action → List ℕ
axes_freed (Some code) action = []
axes_freed None action = axes_to_free action

abbrev pub selects_program : Option ℕ → Action → ℕ → Bool
selects_program None (Init c program) y = c == y
selects_program alarm action y = false

abbrev pub program_selected : Action → Option ℕ
program_selected (Init c program) = Some program
program_selected other = None

-- where a step tells that the axes of its channel stand
abbrev pub places_told : Step → ℕ → ℤ
places_told step a = position_or_zero (position_of step.at a)

-- what a step of a channel makes
unfoldable pub effect : State → ℕ → Step → Effect
effect b p step = record {
  own = own_after_act p (b.own p) ((after_own_part (board_of b) p step).marks p) ((after_own_part (board_of b) p step).state p) (touches step.action) (places_told step);
  frees = among (axes_freed (alarm_of (board_of b) p step.action) step.action);
  place = places_told step;
  calls = among (channels_started (alarm_of (board_of b) p step.action) step.action);
  selects = selects_program (alarm_of (board_of b) p step.action) step.action;
  program = program_selected step.action;
  on = has step.on;
}

-- the step that a channel makes next
abbrev pub next_step : Script → State → ℕ → Step
next_step script b p = script p (b.own p).grants

abbrev pub turn_by : State → ℕ → Step → State
turn_by b p step = settle (with_effect b p (effect b p step))

abbrev pub turn : Script → State → ℕ → State
turn script b p = turn_by b p (next_step script b p)

abbrev pub runs_at : State → ℕ → Bool
runs_at b p = is_running (b.own p).seat
