-- All that goes on in a step, as the machine has it.
use Rattle.std.proofs.Common.{◌≡◌, ℕ, ◌⊎◌, ◌==◌, ◌&&◌, not, Bool, true, false, List, [], ◌∷◌, ◌++◌, map, None, inl, inr, refl, sym, ap, ap₂, subst, ◌∙◌}
use Rattle.std.proofs.lemmas.Bool.{cases_Bool, eqb-true, eq-eqb, and_parts, and_from, or_cases, or_left, or_right, true≢false}
use Rattle.sync_types.specs.Boards.{IsIdle, IsHolding, AtMarks, AtEnds, State as Doing, Board, among}
use Rattle.sync_types.specs.Events.{channels_in}
use Rattle.sync_types.specs.GoingOn.{Going, next_taker, goers_at_once, after_goings}
use Rattle.board_laws.specs.Machine.{Axis, Call, Seat, In, Called, State, asks, mine, ready_at, ready, doing_of, board_of}
use Rattle.board_laws.specs.Clean.{GoesClean}
use Rattle.board_laws.specs.Zones.{Zones}
use Rattle.board_laws.proofs.Basics.{no, called_self, ready_holds}
use Rattle.board_laws.proofs.Parts.{settle_goes, settle_stays, gone_marks_off}
use Rattle.board_laws.proofs.Absorb.{call_ready}
use Rattle.board_laws.proofs.Actions.{owns_mine}
use Rattle.board_laws.proofs.Takings.{IsOf, in_channels, channels_of}
use Rattle.board_laws.proofs.Shown.{is_quick, is_getting, is_called, quick_goes, axis_getting}
use Rattle.board_laws.proofs.AtOnce.{Orderly, taken_in, went, takings_of, goes_state, stays_state, getting_stays, asked_gets, taken_ready, went_ready, ready_went}
use Rattle.board_laws.proofs.SettledBoards.{ready_kinds, marks_after, settled_board}
use Rattle.board_laws.proofs.PutBoards.{put_board, starts_called}
use Rattle.sync_types.specs.GoingOn.{going_of_start, going_at_once, goings_on}
use Rattle.sync_types.specs.BoardActions.{after_own_part, channels_started}
use Rattle.sync_types.specs.BoardAlarms.{alarm_of}
use Rattle.sync_types.specs.Turns.{after_step}
use Rattle.sync_types.specs.declared.Step.{Step}
use Rattle.board_laws.specs.Machine.{axes_taken, is_running, with_effect, put_own, effect, turn_by}
use Rattle.board_laws.proofs.Zones.{zones_part}
use Rattle.sync_types.proofs.FreeTakings.{NobodyRobs, own_part_robs_nobody}
use Rattle.sync_types.proofs.Settling.{settled}
use Rattle.sync_types.specs.Boards as boards
use Rattle.board_laws.specs.Machine.{Own, is_at, settle_own}

of_append : {A : Type 0} (a : A) (xs ys : List A) → IsOf a (xs ++ ys) → IsOf a xs ⊎ IsOf a ys
of_append a [] ys on = inr on
of_append a (x ∷ xs) ys on = elim on [
  | inl here ↦ inl (inl here)
  | inr later ↦ elim (of_append a xs ys later) [ inl l ↦ inl (inr l) | inr r ↦ inr r ]
]

left_of : {A : Type 0} (a : A) (xs ys : List A) → IsOf a xs → IsOf a (xs ++ ys)
left_of a [] ys on = absurd on
left_of a (x ∷ xs) ys on = elim on [ inl here ↦ inl here | inr later ↦ inr (left_of a xs ys later) ]

right_of : {A : Type 0} (a : A) (xs ys : List A) → IsOf a ys → IsOf a (xs ++ ys)
right_of a [] ys on = on
right_of a (x ∷ xs) ys on = inr (right_of a xs ys on)

of_map : (f : ℕ → Going) (g : Going) (xs : List ℕ) → IsOf g (map f xs) → (c : ℕ) × ((among xs c ≡ true) × (g ≡ f c))
of_map f g [] on = absurd on
of_map f g (x ∷ xs) on = elim on [
  | inl here ↦ (x, (or_left (x == x) (among xs x) (eq-eqb x x refl), here))
  | inr later ↦ let r = of_map f g xs later in (r.0, (or_right (x == r.0) (among xs r.0) r.1.0, r.1.1))
]

map_of : (f : ℕ → Going) (c : ℕ) (xs : List ℕ) → among xs c ≡ true → IsOf (f c) (map f xs)
map_of f c [] on = absurd (true≢false (sym on))
map_of f c (x ∷ xs) on = elim (or_cases (x == c) (among xs c) on) [
  | inl here ↦ inl (ap f (sym (eqb-true x c here)))
  | inr later ↦ inr (map_of f c xs later)
]

-- from where it goes on
abbrev pub from_of : Seat → Doing
from_of (In state) = state
from_of (Called p) = IsIdle

-- one that goes on in a step
pub record Went (t : State) (g : Going) : Type 0 where
  pub goes : ready t g.channel ≡ true
  pub from : g.from ≡ from_of (t.own g.channel).seat
  pub took : (x : ℕ) → among g.took x ≡ axes_taken t g.channel (t.own g.channel).seat x

no_axis : (s : Seat) (x : ℕ) → is_getting s ≡ false → asks s (Axis x) ≡ false
no_axis s x off = elim (cases_Bool (asks s (Axis x))) [ inl on ↦ no (axis_getting s x on) off | inr n ↦ n ]

quick_in : (t : State) (c : ℕ) (s : Seat) → is_quick s ≡ true → (doing_of t c s ≡ from_of s) × (is_getting s ≡ false)
quick_in t c (In (IsHolding (AtMarks k named) line)) on = (refl, refl)
quick_in t c (In (IsHolding (AtEnds named) line)) on = (refl, refl)
quick_in t c s on = absurd (true≢false (sym on))

getting_in : (t : State) (c : ℕ) (s : Seat) → is_getting s ≡ true → doing_of t c s ≡ from_of s
getting_in t c (In state) on = refl
getting_in t c (Called p) on = absurd (true≢false (sym on))

called_in : (s : Seat) → is_called s ≡ true → (IsIdle ≡ from_of s) × (is_getting s ≡ false)
called_in (Called p) on = (refl, refl)
called_in (In state) on = absurd (true≢false (sym on))

called_ready : (t : State) (c : ℕ) (s : Seat) → is_called s ≡ true → ready_at t c s ≡ true
called_ready t c (Called p) on = call_ready t c (Called p) p (called_self p)
called_ready t c (In state) on = absurd (true≢false (sym on))

none_taken : (t : State) (c : ℕ) → is_getting (t.own c).seat ≡ false → (x : ℕ) → false ≡ axes_taken t c (t.own c).seat x
unfolding axes_taken
none_taken t c off x = ap (λ (b : Bool). b && not (mine t c x)) (sym (no_axis (t.own c).seat x off))

took_told : (t : State) (c x : ℕ) → (asks (t.own c).seat (Axis x) && not (mine t c x)) ≡ axes_taken t c (t.own c).seat x
unfolding axes_taken
took_told t c x = refl

-- who is in the list of those that go on is one of three kinds
pub went_of : (t : State) (starts : List ℕ) (g : Going) → Orderly t → ((c : ℕ) → among starts c ≡ is_called (t.own c).seat) → IsOf g (goings_on (board_of t) starts) → Went t g
went_of t starts g zs called on = elim (of_append g (map (going_of_start (board_of t)) starts) (map (going_at_once (board_of t)) (goers_at_once (board_of t)) ++ (taken_in t).goings) on) [
  | inl start ↦
      let w = of_map (going_of_start (board_of t)) g starts start in
      let call : is_called (t.own w.0).seat ≡ true = sym (called w.0) ∙ w.1.0 in
      let i = called_in (t.own w.0).seat call in
      subst (λ (h : Going). Went t h) (sym w.1.1) (record { goes = called_ready t w.0 (t.own w.0).seat call; from = i.0; took = none_taken t w.0 i.1 })
  | inr rest ↦ elim (of_append g (map (going_at_once (board_of t)) (goers_at_once (board_of t))) (taken_in t).goings rest) [
    | inl once ↦
        let w = of_map (going_at_once (board_of t)) g (goers_at_once (board_of t)) once in
        let q = and_parts (ready t w.0) (is_quick (t.own w.0).seat) (sym (quick_goes t w.0) ∙ w.1.0) in
        let i = quick_in t w.0 (t.own w.0).seat q.1 in
        subst (λ (h : Going). Went t h) (sym w.1.1) (record { goes = q.0; from = i.0; took = none_taken t w.0 i.1 })
    | inr took ↦
        let w = (takings_of t zs).each g took in
        let r = taken_ready t g zs took in
        record {
          goes = r.0;
          from = w.from ∙ getting_stays t g.channel r.1 ∙ getting_in t g.channel (t.own g.channel).seat r.1;
          took = λ x. w.took x ∙ ap₂ (λ (a b : Bool). a && not b) (asked_gets t g.channel x r.1) (owns_mine t g.channel x) ∙ took_told t g.channel x;
        }
  ]
]

-- and who goes at once, or takes, is in it
pub started_in : (t : State) (starts : List ℕ) (c : ℕ) → ((d : ℕ) → among starts d ≡ is_called (t.own d).seat) → is_called (t.own c).seat ≡ true → among (channels_in (goings_on (board_of t) starts)) c ≡ true
started_in t starts c called call = channels_of (goings_on (board_of t) starts) (going_of_start (board_of t) c)
    (left_of (going_of_start (board_of t) c) (map (going_of_start (board_of t)) starts) (map (going_at_once (board_of t)) (goers_at_once (board_of t)) ++ (taken_in t).goings)
    (map_of (going_of_start (board_of t)) c starts (called c ∙ call)))

pub quick_in_goings : (t : State) (starts : List ℕ) (c : ℕ) → ready t c ≡ true → is_quick (t.own c).seat ≡ true → among (channels_in (goings_on (board_of t) starts)) c ≡ true
quick_in_goings t starts c r quick = channels_of (goings_on (board_of t) starts) (going_at_once (board_of t) c)
    (right_of (going_at_once (board_of t) c) (map (going_of_start (board_of t)) starts) (map (going_at_once (board_of t)) (goers_at_once (board_of t)) ++ (taken_in t).goings)
    (left_of (going_at_once (board_of t) c) (map (going_at_once (board_of t)) (goers_at_once (board_of t))) (taken_in t).goings
    (map_of (going_at_once (board_of t)) c (goers_at_once (board_of t)) (quick_goes t c ∙ and_from (ready t c) (is_quick (t.own c).seat) r quick))))

pub taken_in_goings : (t : State) (starts : List ℕ) (g : Going) → IsOf g (taken_in t).goings → IsOf g (goings_on (board_of t) starts)
taken_in_goings t starts g on =
    right_of g (map (going_of_start (board_of t)) starts) (map (going_at_once (board_of t)) (goers_at_once (board_of t)) ++ (taken_in t).goings)
    (right_of g (map (going_at_once (board_of t)) (goers_at_once (board_of t))) (taken_in t).goings on)

pub went_in_goings : (t : State) (starts : List ℕ) (c : ℕ) → went t c ≡ true → among (channels_in (goings_on (board_of t) starts)) c ≡ true
went_in_goings t starts c on =
    let g = in_channels (taken_in t).goings c on in
    ap (λ (d : ℕ). among (channels_in (goings_on (board_of t) starts)) d) (sym g.1.1) ∙ channels_of (goings_on (board_of t) starts) g.0 (taken_in_goings t starts g.0 g.1.0)

-- where what goes on is clean, all that is ready is in it
pub all_in : (t : State) (starts : List ℕ) (c : ℕ) → GoesClean t → Orderly t → next_taker (after_goings (board_of t)) ≡ None → ((d : ℕ) → among starts d ≡ is_called (t.own d).seat) → ready t c ≡ true
    → among (channels_in (goings_on (board_of t) starts)) c ≡ true
all_in t starts c clean zs over called r = elim (ready_kinds (t.own c).seat (ready_holds t c (t.own c).seat r)) [
  | inl quick ↦ quick_in_goings t starts c r quick
  | inr other ↦ elim other [
    | inl get ↦ went_in_goings t starts c (ready_went t c clean zs over r get)
    | inr call ↦ started_in t starts c called call
  ]
]

-- a step, as its own part and what goes on after it
pub record Part (t : State) (p : ℕ) (step : Step) : Type 0 where
  pub board : after_own_part (board_of t) p step ≡ board_of (with_effect t p (effect t p step))
  pub orderly : Orderly (with_effect t p (effect t p step))
  pub over : next_taker (after_goings (board_of (with_effect t p (effect t p step)))) ≡ None
  pub called : (c : ℕ) → among (channels_started (alarm_of (board_of t) p step.action) step.action) c ≡ is_called (put_own t p (effect t p step) c).seat

pub part_of : (t : State) (p : ℕ) (step : Step) → is_running (t.own p).seat ≡ true → ((d r : ℕ) → asks (t.own d).seat (Call r) ≡ false) → Orderly t → Part t p step
part_of t p step run uncalled zs =
    let e = put_board t p step run uncalled zs.zones in
    record {
      board = e;
      orderly = record {
        zones = subst (λ (b : Board). Zones b) e (zones_part (board_of t) p step zs.zones);
        none = subst (λ (b : Board). NobodyRobs b) e (own_part_robs_nobody (board_of t) p step zs.none);
      };
      over = ap (λ (b : Board). next_taker (after_goings b)) (sym e) ∙ (settled (board_of t) p step).no_taker;
      called = λ c. starts_called t p step c run uncalled;
    }

-- a clean step of the machine is the board's
pub turn_board : (t : State) (p : ℕ) (step : Step) → is_running (t.own p).seat ≡ true → ((d r : ℕ) → asks (t.own d).seat (Call r) ≡ false) → Orderly t → GoesClean (with_effect t p (effect t p step))
    → after_step (board_of t) p step ≡ board_of (turn_by t p step)
turn_board t p step run uncalled zs clean =
    let w = part_of t p step run uncalled zs in
    ap after_goings w.board ∙ settled_board (with_effect t p (effect t p step)) clean w.orderly w.over

-- who does not go on does what it did, and who goes on runs
pub kept_state : (t : State) (starts : List ℕ) (c : ℕ) → Orderly t → among (channels_in (goings_on (board_of t) starts)) c ≡ false → (after_goings (board_of t)).state c ≡ doing_of t c (t.own c).seat
kept_state t starts c zs out =
    let not_went : went t c ≡ false = elim (cases_Bool (went t c)) [ inl on ↦ no (went_in_goings t starts c on) out | inr off ↦ off ] in
    let not_quick : among (goers_at_once (board_of t)) c ≡ false = elim (cases_Bool (among (goers_at_once (board_of t)) c)) [
      | inr off ↦ off
      | inl on ↦ let q = and_parts (ready t c) (is_quick (t.own c).seat) (sym (quick_goes t c) ∙ on) in no (quick_in_goings t starts c q.0 q.1) out
    ] in
    (takings_of t zs).kept c not_went ∙ stays_state t c not_quick

pub gone_runs : (t : State) (starts : List ℕ) (g : Going) → Orderly t → ((c : ℕ) → among starts c ≡ is_called (t.own c).seat) → IsOf g (goings_on (board_of t) starts)
    → boards.is_running ((after_goings (board_of t)).state g.channel) ≡ true
gone_runs t starts g zs called on = elim (of_append g (map (going_of_start (board_of t)) starts) (map (going_at_once (board_of t)) (goers_at_once (board_of t)) ++ (taken_in t).goings) on) [
  | inl start ↦
      let w = of_map (going_of_start (board_of t)) g starts start in
      let call : is_called (t.own w.0).seat ≡ true = sym (called w.0) ∙ w.1.0 in
      let i = called_in (t.own w.0).seat call in
      ap (λ (h : Going). boards.is_running ((after_goings (board_of t)).state h.channel)) w.1.1
      ∙ ap boards.is_running ((takings_of t zs).kept w.0 (not_went w.0 i.1) ∙ stays_state t w.0 (not_quick w.0 (called_quick (t.own w.0).seat call))) ∙ called_runs w.0 (t.own w.0).seat call
  | inr rest ↦ elim (of_append g (map (going_at_once (board_of t)) (goers_at_once (board_of t))) (taken_in t).goings rest) [
    | inl once ↦
        let w = of_map (going_at_once (board_of t)) g (goers_at_once (board_of t)) once in
        let q = and_parts (ready t w.0) (is_quick (t.own w.0).seat) (sym (quick_goes t w.0) ∙ w.1.0) in
        let i = quick_in t w.0 (t.own w.0).seat q.1 in
        ap (λ (h : Going). boards.is_running ((after_goings (board_of t)).state h.channel)) w.1.1
        ∙ ap boards.is_running ((takings_of t zs).kept w.0 (not_went w.0 i.1) ∙ goes_state t w.0 w.1.0)
    | inr took ↦ ap boards.is_running ((takings_of t zs).each g took).runs
  ]
]
  where
    not_went : (c : ℕ) → is_getting (t.own c).seat ≡ false → went t c ≡ false
    not_went c off = elim (cases_Bool (went t c)) [ inl yes_it ↦ no (went_ready t c zs yes_it).1 off | inr out ↦ out ]

    not_quick : (c : ℕ) → is_quick (t.own c).seat ≡ false → among (goers_at_once (board_of t)) c ≡ false
    not_quick c off = quick_goes t c ∙ ap (λ (b : Bool). ready t c && b) off ∙ flat (ready t c)
      where
        flat : (b : Bool) → (b && false) ≡ false
        flat true = refl
        flat false = refl

    called_quick : (s : Seat) → is_called s ≡ true → is_quick s ≡ false
    called_quick (Called p) yes_it = refl
    called_quick (In state) yes_it = absurd (true≢false (sym yes_it))

    called_runs : (c : ℕ) (s : Seat) → is_called s ≡ true → boards.is_running (doing_of t c s) ≡ true
    called_runs c (Called p) yes_it = refl
    called_runs c (In state) yes_it = absurd (true≢false (sym yes_it))

second_off : (a b : Bool) → a ≡ true → (a && b) ≡ false → b ≡ false
second_off true b on h = h
second_off false b on h = no on refl

-- marks after all that goes on: lowered are those of who went from them
pub marks_kept : (t : State) (c m : ℕ) → Orderly t → (ready t c && is_at (t.own c).seat m) ≡ false → (after_goings (board_of t)).marks c m ≡ (t.own c).marks m
marks_kept t c m zs off = ap (λ (f : ℕ → ℕ → Bool). f c m) (takings_of t zs).marks ∙ marks_after t c m ∙ go
  where
    go : (settle_own t c).marks m ≡ (t.own c).marks m
    go = elim (cases_Bool (ready t c)) [
      | inr s ↦ ap (λ (o : Own). o.marks m) (settle_stays t c s)
      | inl r ↦ ap (λ (o : Own). o.marks m) (settle_goes t c r) ∙ gone_marks_off t c m (second_off (ready t c) (is_at (t.own c).seat m) r off)
    ]
