-- The machine after a clean step, field by field.
use Rattle.std.proofs.Math.Path.{fun_ext}
use Rattle.std.proofs.Common.{◌≡◌, ℕ, ℤ, suc, ◌==◌, ◌||◌, not, Bool, true, false, List, [], ◌∷◌, ◌++◌, Option, inl, inr, refl, sym, ap, ap₂, ◌∙◌, if◌then◌else◌}
use Rattle.std.proofs.lemmas.Bool.{cases_Bool, or_left, or_right, true≢false}
use Rattle.sync_types.specs.Boards.{State as Doing, IsIdle, IsRunning, IsHolding, HasEnded, HasAlarmed, OwnedBy, FreeAt, Ownership, Board, among, channel_numbers, grant_in, owner_of, ownership_of}
use Rattle.sync_types.specs.Boards as boards
use Rattle.sync_types.specs.Events.{names_at}
use Rattle.sync_types.specs.GoingOn.{Going}
use Rattle.sync_types.specs.Runs.{as_list, gets_a_grant}
use Rattle.sync_types.specs.Turns.{Move}
use Rattle.sync_types.specs.declared.Grant.{Grant}
use Rattle.order_clocks.specs.CourseOf.{course_of}
use Rattle.order_clocks.specs.Happenings.{Raised, board_at, happening_at, going_of, of_going}
use Rattle.order_clocks.specs.TracedRaces.{Trace, Lowered, Needed, Took, Touched, going_leaves}
use Rattle.order_clocks.proofs.CounterLaws.{closed_last}
use Rattle.board_laws.specs.Machine.{Need, Mark, Axis, Call, Seat, In, Called, Own, Cell, State, Effect, Clock, Span, Tenure, Place, asks, is_at, is_free, mine, ready, ready_at, axes_taken, takes, taker, grant_at_go, own_after_go, with_value_at, span_of, tenures_handed_on, span_now, next_event, cell_after_taking, settle_own, settle_axis, settle, own_after_call, cell_after_release, with_effect, put_own, put_axis, put_on, doing_of, board_of, touches, act_clock, own_after_act, places_told, effect, turn_by, go_clock}
use Rattle.board_laws.specs.Machine as machine
use Rattle.board_laws.proofs.Basics.{no, running_ready}
use Rattle.board_laws.proofs.Parts.{settle_goes, settle_stays, gone_seat, gone_count, gone_past, gone_raised, gone_started, touched_seat, touched_awake}
use Rattle.board_laws.proofs.Shown.{is_called}
use Rattle.schedule_laws.specs.Tracked.{rows_at, rows_in, actor, goes_in, last_place, grants_at, clocks_in, clocks_at, spans_in, spans_at, own_at, tracked}
use Rattle.schedule_laws.proofs.Steps.{Here, mid, seat_at, going_none}
use Rattle.schedule_laws.proofs.Opened.{raised_in}
use Rattle.schedule_laws.proofs.Mates.{names_told}
use Rattle.schedule_laws.proofs.GoRows.{goer}
use Rattle.schedule_laws.proofs.Told.{going_lowers}
use Rattle.schedule_laws.proofs.NextTurn.{Tidy, goes_all, seat_next, past_goes, past_stays, count_goes, count_stays, at_actor, other_own, if_true, if_false, acts_here, clocks_mid, grants_mid, grants_other, spans_mid, picked, lowered_mid, needs_mid, took_mid, started_mid, part_marks, part_state, place_mid}

-- who does not go on leaves nothing by it, and who goes on
pub leaves_none : (b : Board) (moves : List Move) (i c : ℕ) (t : Trace) → goes_in b moves i c ≡ false → last_place b moves (suc i) c t ≡ place_mid b moves i c t
leaves_none b moves i c t off = ap (λ (o : Option Going). if of_going o (λ g. going_leaves g t) then (rows_at b moves (suc i)).past c c else place_mid b moves i c t) (going_none (happening_at b moves i).goings c off)

pub leaves_some : (b : Board) (moves : List Move) (i : ℕ) (q : Tidy b moves i) (c : ℕ) (t : Trace) (test : Bool) (old : ℕ) → goes_in b moves i c ≡ true → of_going (going_of (happening_at b moves i).goings c) (λ g. going_leaves g t) ≡ test → place_mid b moves i c t ≡ old
    → last_place b moves (suc i) c t ≡ (if test then suc ((mid q.here).own c).count else old)
leaves_some b moves i q c t test old on e m =
    ap (λ (z : Bool). if z then (rows_at b moves (suc i)).past c c else place_mid b moves i c t) e
    ∙ picked test ((rows_at b moves (suc i)).past c c) (place_mid b moves i c t) (suc ((mid q.here).own c).count) old (count_goes b moves i q c on) m

-- fields of one that goes on
pub gone_fields : (o : Own) (clock : Clock) (taken : ℕ → Bool) (grant : Grant) → ((machine.gone_of o clock taken grant).log ≡ with_value_at (suc o.count) clock o.log) × ((machine.gone_of o clock taken grant).grants ≡ o.grants ++ grant ∷ [])
    × ((machine.gone_of o clock taken grant).spans ≡ with_value_at (suc o.count) (span_of (IsRunning grant) (o.grants ++ grant ∷ [])) o.spans)
unfolding machine.gone_of
gone_fields o clock taken grant = (refl, refl, refl)

pub gone_places : (o : Own) (clock : Clock) (taken : ℕ → Bool) (grant : Grant) (k d x : ℕ) → ((machine.gone_of o clock taken grant).lowered k ≡ (if is_at o.seat k then suc o.count else o.lowered k))
    × ((machine.gone_of o clock taken grant).needs d k ≡ (if asks o.seat (Mark d k) then suc o.count else o.needs d k)) × ((machine.gone_of o clock taken grant).took x ≡ (if taken x then suc o.count else o.took x))
unfolding machine.gone_of
gone_places o clock taken grant k d x = (refl, refl, refl)

pub lowered_next : (b : Board) (moves : List Move) (i : ℕ) (q : Tidy b moves i) (c k : ℕ) → last_place b moves (suc i) c (Lowered c k) ≡ (settle_own (mid q.here) c).lowered k
lowered_next b moves i q c k = elim (cases_Bool (ready (mid q.here) c)) [
  | inl r ↦
      let on = goes_all b moves i q c ∙ r in
      leaves_some b moves i q c (Lowered c k) (is_at ((mid q.here).own c).seat k) (((mid q.here).own c).lowered k) on (going_lowers b moves i q.here c k (goer b moves i q.here c on)) (lowered_mid b moves i q.here c k)
      ∙ sym (ap (λ (o : Own). o.lowered k) (settle_goes (mid q.here) c r) ∙ (gone_places ((mid q.here).own c) (go_clock (mid q.here) c) (axes_taken (mid q.here) c ((mid q.here).own c).seat) (grant_at_go (mid q.here) c ((mid q.here).own c)) k 0 0).0)
  | inr s ↦ leaves_none b moves i c (Lowered c k) (goes_all b moves i q c ∙ s) ∙ lowered_mid b moves i q.here c k ∙ sym (ap (λ (o : Own). o.lowered k) (settle_stays (mid q.here) c s))
]

pub needs_next : (b : Board) (moves : List Move) (i : ℕ) (q : Tidy b moves i) (c d k : ℕ) → last_place b moves (suc i) c (Needed d k) ≡ (settle_own (mid q.here) c).needs d k
needs_next b moves i q c d k = elim (cases_Bool (ready (mid q.here) c)) [
  | inl r ↦
      let on = goes_all b moves i q c ∙ r in
      let g = goer b moves i q.here c on in
      let leaves : of_going (going_of (happening_at b moves i).goings c) (λ g. going_leaves g (Needed d k)) ≡ asks ((mid q.here).own c).seat (Mark d k) =
      ap (λ (o : Option Going). of_going o (λ g. going_leaves g (Needed d k))) g.found ∙ ap (λ (s : Doing). names_at s k d) g.from ∙ names_told ((mid q.here).own c).seat k d in
      leaves_some b moves i q c (Needed d k) (asks ((mid q.here).own c).seat (Mark d k)) (((mid q.here).own c).needs d k) on leaves (needs_mid b moves i q.here c d k)
      ∙ sym (ap (λ (o : Own). o.needs d k) (settle_goes (mid q.here) c r) ∙ (gone_places ((mid q.here).own c) (go_clock (mid q.here) c) (axes_taken (mid q.here) c ((mid q.here).own c).seat) (grant_at_go (mid q.here) c ((mid q.here).own c)) k d 0).1)
  | inr s ↦ leaves_none b moves i c (Needed d k) (goes_all b moves i q c ∙ s) ∙ needs_mid b moves i q.here c d k ∙ sym (ap (λ (o : Own). o.needs d k) (settle_stays (mid q.here) c s))
]

pub took_next : (b : Board) (moves : List Move) (i : ℕ) (q : Tidy b moves i) (c x : ℕ) → last_place b moves (suc i) c (Took x) ≡ (settle_own (mid q.here) c).took x
took_next b moves i q c x = elim (cases_Bool (ready (mid q.here) c)) [
  | inl r ↦
      let on = goes_all b moves i q c ∙ r in
      let g = goer b moves i q.here c on in
      let leaves : of_going (going_of (happening_at b moves i).goings c) (λ g. going_leaves g (Took x)) ≡ axes_taken (mid q.here) c ((mid q.here).own c).seat x =
      ap (λ (o : Option Going). of_going o (λ g. going_leaves g (Took x))) g.found ∙ g.took x in
      leaves_some b moves i q c (Took x) (axes_taken (mid q.here) c ((mid q.here).own c).seat x) (((mid q.here).own c).took x) on leaves (took_mid b moves i q.here c x)
      ∙ sym (ap (λ (o : Own). o.took x) (settle_goes (mid q.here) c r) ∙ (gone_places ((mid q.here).own c) (go_clock (mid q.here) c) (axes_taken (mid q.here) c ((mid q.here).own c).seat) (grant_at_go (mid q.here) c ((mid q.here).own c)) 0 0 x).2)
  | inr s ↦ leaves_none b moves i c (Took x) (goes_all b moves i q c ∙ s) ∙ took_mid b moves i q.here c x ∙ sym (ap (λ (o : Own). o.took x) (settle_stays (mid q.here) c s))
]

pub started_next : (b : Board) (moves : List Move) (i : ℕ) (q : Tidy b moves i) (c y : ℕ) → last_place b moves (suc i) c (Touched y) ≡ (settle_own (mid q.here) c).started y
started_next b moves i q c y = elim (cases_Bool (ready (mid q.here) c)) [
  | inl r ↦
      let on = goes_all b moves i q c ∙ r in
      let g = goer b moves i q.here c on in
      leaves_some b moves i q c (Touched y) false (((mid q.here).own c).started y) on (ap (λ (o : Option Going). of_going o (λ g. going_leaves g (Touched y))) g.found) (started_mid b moves i q.here c y)
      ∙ sym (ap (λ (o : Own). o.started y) (settle_goes (mid q.here) c r) ∙ ap (λ (f : ℕ → ℕ). f y) (gone_started (mid q.here) c))
  | inr s ↦ leaves_none b moves i c (Touched y) (goes_all b moves i q c ∙ s) ∙ started_mid b moves i q.here c y ∙ sym (ap (λ (o : Own). o.started y) (settle_stays (mid q.here) c s))
]

pub past_next : (b : Board) (moves : List Move) (i : ℕ) (q : Tidy b moves i) (c x : ℕ) → (rows_at b moves (suc i)).past c x ≡ (settle_own (mid q.here) c).past x
past_next b moves i q c x = elim (cases_Bool (ready (mid q.here) c)) [
  | inl r ↦ past_goes b moves i q c x (goes_all b moves i q c ∙ r) ∙ sym (ap (λ (o : Own). o.past x) (settle_goes (mid q.here) c r) ∙ ap (λ (f : Clock). f x) (gone_past (mid q.here) c))
  | inr s ↦ past_stays b moves i q c x (goes_all b moves i q c ∙ s) ∙ sym (ap (λ (o : Own). o.past x) (settle_stays (mid q.here) c s))
]

pub count_next : (b : Board) (moves : List Move) (i : ℕ) (q : Tidy b moves i) (c : ℕ) → (rows_at b moves (suc i)).past c c ≡ (settle_own (mid q.here) c).count
count_next b moves i q c = elim (cases_Bool (ready (mid q.here) c)) [
  | inl r ↦ count_goes b moves i q c (goes_all b moves i q c ∙ r) ∙ sym (ap (λ (o : Own). o.count) (settle_goes (mid q.here) c r) ∙ gone_count (mid q.here) c)
  | inr s ↦ count_stays b moves i q c (goes_all b moves i q c ∙ s) ∙ sym (ap (λ (o : Own). o.count) (settle_stays (mid q.here) c s))
]

pub raised_next : (b : Board) (moves : List Move) (i : ℕ) (q : Tidy b moves i) (c k x : ℕ) → (rows_at b moves (suc i)).last (Raised c k) x ≡ (settle_own (mid q.here) c).raised k x
raised_next b moves i q c k x =
    closed_last (course_of b moves) i (rows_in b moves i) (Raised c k) x ∙ sym (raised_in b moves i q.here c k x) ∙ elim (cases_Bool (ready (mid q.here) c)) [
      | inl r ↦ sym (ap (λ (o : Own). o.raised k x) (settle_goes (mid q.here) c r) ∙ ap (λ (f : ℕ → Clock). f k x) (gone_raised (mid q.here) c))
      | inr s ↦ sym (ap (λ (o : Own). o.raised k x) (settle_stays (mid q.here) c s))
    ]

pub log_next : (b : Board) (moves : List Move) (i : ℕ) (q : Tidy b moves i) (c : ℕ) → clocks_at b moves (suc i) c ≡ (settle_own (mid q.here) c).log
log_next b moves i q c = elim (cases_Bool (ready (mid q.here) c)) [
  | inl r ↦
      let on = goes_all b moves i q c ∙ r in
      if_true (goes_in b moves i c) (with_value_at ((rows_at b moves (suc i)).past c c) ((rows_at b moves (suc i)).past c) (clocks_in b moves i (clocks_at b moves i c) c)) (clocks_in b moves i (clocks_at b moves i c) c) on
      ∙ ap (λ (n : ℕ). with_value_at n ((rows_at b moves (suc i)).past c) (clocks_in b moves i (clocks_at b moves i c) c)) (count_goes b moves i q c on)
      ∙ ap (λ (f : Clock). with_value_at (suc ((mid q.here).own c).count) f (clocks_in b moves i (clocks_at b moves i c) c)) (fun_ext λ x. past_goes b moves i q c x on)
      ∙ ap (λ (old : ℕ → Clock). with_value_at (suc ((mid q.here).own c).count) (go_clock (mid q.here) c) old) (clocks_mid b moves i q.here c)
      ∙ sym (ap (λ (o : Own). o.log) (settle_goes (mid q.here) c r) ∙ (gone_fields ((mid q.here).own c) (go_clock (mid q.here) c) (axes_taken (mid q.here) c ((mid q.here).own c).seat) (grant_at_go (mid q.here) c ((mid q.here).own c))).0)
  | inr s ↦
      if_false (goes_in b moves i c) (with_value_at ((rows_at b moves (suc i)).past c c) ((rows_at b moves (suc i)).past c) (clocks_in b moves i (clocks_at b moves i c) c)) (clocks_in b moves i (clocks_at b moves i c) c) (goes_all b moves i q c ∙ s)
      ∙ clocks_mid b moves i q.here c ∙ sym (ap (λ (o : Own). o.log) (settle_stays (mid q.here) c s))
]

-- grants
pub append_none : (gs : List Grant) → gs ++ [] ≡ gs
append_none [] = refl
append_none (g ∷ gs) = ap (λ (hs : List Grant). g ∷ hs) (append_none gs)

pub holds_grant : (t : State) (c : ℕ) (s : Doing) → ready_at t c (In s) ≡ true → as_list (grant_in s) ≡ []
holds_grant t c (IsHolding hold line) on = refl
holds_grant t c IsIdle on = refl
holds_grant t c (HasEnded line) on = refl
holds_grant t c (HasAlarmed code line) on = refl
holds_grant t c (IsRunning grant) on = no on (running_ready t c (In (IsRunning grant)) refl)

pub runs_grant : (s : Doing) → boards.is_running s ≡ false → as_list (grant_in s) ≡ []
runs_grant (IsHolding hold line) on = refl
runs_grant IsIdle on = refl
runs_grant (HasEnded line) on = refl
runs_grant (HasAlarmed code line) on = refl
runs_grant (IsRunning grant) on = no refl on

pub in_one : {s r : Doing} → In s ≡ In r → s ≡ r
in_one {s} {r} e = ap (λ (z : Seat). out_of z) e
  where
    out_of : Seat → Doing
    out_of (In state) = state
    out_of (Called p) = s

pub acted_seat : (p : ℕ) (o : Own) (marks : ℕ → Bool) (state : Doing) (names : ℕ → Bool) (place : ℕ → ℤ) → (own_after_act p o marks state names place).seat ≡ In state
unfolding own_after_act
acted_seat p o marks state names place = refl

pub state_goes : (b : Board) (moves : List Move) (i : ℕ) (q : Tidy b moves i) (c : ℕ) → ready (mid q.here) c ≡ true → (board_at b moves (suc i)).state c ≡ IsRunning (grant_at_go (mid q.here) c ((mid q.here).own c))
state_goes b moves i q c r = in_one (seat_next b moves i q c ∙ ap (λ (o : Own). o.seat) (settle_goes (mid q.here) c r) ∙ gone_seat (mid q.here) c)

pub state_stays : (b : Board) (moves : List Move) (i : ℕ) (q : Tidy b moves i) (c : ℕ) → ready (mid q.here) c ≡ false → In ((board_at b moves (suc i)).state c) ≡ ((mid q.here).own c).seat
state_stays b moves i q c s = seat_next b moves i q c ∙ ap (λ (o : Own). o.seat) (settle_stays (mid q.here) c s)

pub seat_actor : (b : Board) (moves : List Move) (i : ℕ) (w : Here b moves i) (c : ℕ) → (c == w.p) ≡ true → ((mid w).own c).seat ≡ In (part_state w c)
seat_actor b moves i w c y = ap (λ (o : Own). o.seat) (at_actor b moves i w c y) ∙ acted_seat c (own_at b moves i c) (part_marks w c) (part_state w c) (touches w.step.action) (places_told w.step)

pub running_kept : (b : Board) (moves : List Move) (i : ℕ) (w : Here b moves i) (c : ℕ) → (c == w.p) ≡ false → boards.is_running ((board_at b moves i).state c) ≡ true → (mid w).own c ≡ own_at b moves i c
running_kept b moves i w c n on = other_own b moves i w c n ∙ touched_awake (effect (tracked b moves i) w.p w.step) w.p c (own_at b moves i c) (ap (λ (s : Seat). machine.is_idle s) (seat_at b moves i c) ∙ awake ((board_at b moves i).state c) on)
  where
    awake : (s : Doing) → boards.is_running s ≡ true → machine.is_idle (In s) ≡ false
    awake (IsRunning g) on = refl
    awake s on = absurd (true≢false (sym on))

pub not_running : (b : Board) (moves : List Move) (i : ℕ) (w : Here b moves i) (c : ℕ) (s : Doing) → (c == w.p) ≡ false → boards.is_running ((board_at b moves i).state c) ≡ false → ((mid w).own c).seat ≡ In s → boards.is_running s ≡ false
not_running b moves i w c s n off seat = elim (touched_seat (effect (tracked b moves i) w.p w.step) w.p c (own_at b moves i c)) [
  | inl same ↦ ap boards.is_running (in_one (sym seat ∙ ap (λ (o : Own). o.seat) (other_own b moves i w c n) ∙ same ∙ seat_at b moves i c)) ∙ off
  | inr called ↦ let bad : In s ≡ Called w.p = sym seat ∙ ap (λ (o : Own). o.seat) (other_own b moves i w c n) ∙ called.1 in absurd (true≢false (ap (λ (z : Seat). is_called z) (sym bad)))
]

pub grants_next : (b : Board) (moves : List Move) (i : ℕ) (q : Tidy b moves i) (c : ℕ) → grants_at b moves (suc i) c ≡ (settle_own (mid q.here) c).grants
grants_next b moves i q c = elim (cases_Bool (c == q.here.p)) [
  | inl y ↦
      let gets : gets_a_grant (board_at b moves i) (actor b moves i) c ≡ true = or_left (c == actor b moves i) (not (boards.is_running ((board_at b moves i).state c))) (acts_here b moves i q.here c ∙ y) in
      got gets ∙ elim (cases_Bool (ready (mid q.here) c)) [
        | inl r ↦
            let none : as_list (grant_in (part_state q.here c)) ≡ [] = holds_grant (mid q.here) c (part_state q.here c) (ap (λ (s : Seat). ready_at (mid q.here) c s) (sym (seat_actor b moves i q.here c y)) ∙ r) in
            ap₂ (λ (gs : List Grant) (s : Doing). gs ++ as_list (grant_in s)) (sym (append_none (grants_at b moves i c)) ∙ ap (λ (hs : List Grant). grants_at b moves i c ++ hs) (sym none) ∙ grants_mid b moves i q.here c y) (state_goes b moves i q c r)
            ∙ sym (ap (λ (o : Own). o.grants) (settle_goes (mid q.here) c r) ∙ (gone_fields ((mid q.here).own c) (go_clock (mid q.here) c) (axes_taken (mid q.here) c ((mid q.here).own c).seat) (grant_at_go (mid q.here) c ((mid q.here).own c))).1)
        | inr s ↦
            ap (λ (z : Doing). grants_at b moves i c ++ as_list (grant_in z)) (in_one (state_stays b moves i q c s ∙ seat_actor b moves i q.here c y)) ∙ grants_mid b moves i q.here c y ∙ sym (ap (λ (o : Own). o.grants) (settle_stays (mid q.here) c s))
      ]
  | inr n ↦ elim (cases_Bool (boards.is_running ((board_at b moves i).state c))) [
    | inl on ↦
        let same = running_kept b moves i q.here c n on in
        let off : gets_a_grant (board_at b moves i) (actor b moves i) c ≡ false = or_off (c == actor b moves i) (boards.is_running ((board_at b moves i).state c)) (acts_here b moves i q.here c ∙ n) on in
        let stays : ready (mid q.here) c ≡ false = running_ready (mid q.here) c ((mid q.here).own c).seat (ap (λ (o : Own). machine.is_running o.seat) same ∙ ap (λ (s : Seat). machine.is_running s) (seat_at b moves i c) ∙ runs ((board_at b moves i).state c) on) in
        if_false (gets_a_grant (board_at b moves i) (actor b moves i) c) (grants_at b moves i c ++ as_list (grant_in ((board_at b moves (suc i)).state c))) (grants_at b moves i c) off
        ∙ sym (grants_other b moves i q.here c n) ∙ sym (ap (λ (o : Own). o.grants) (settle_stays (mid q.here) c stays))
    | inr off ↦
        let gets : gets_a_grant (board_at b moves i) (actor b moves i) c ≡ true = or_right (c == actor b moves i) (not (boards.is_running ((board_at b moves i).state c))) (ap not off) in
        got gets ∙ elim (cases_Bool (ready (mid q.here) c)) [
          | inl r ↦
              ap₂ (λ (gs : List Grant) (s : Doing). gs ++ as_list (grant_in s)) (sym (grants_other b moves i q.here c n)) (state_goes b moves i q c r)
              ∙ sym (ap (λ (o : Own). o.grants) (settle_goes (mid q.here) c r) ∙ (gone_fields ((mid q.here).own c) (go_clock (mid q.here) c) (axes_taken (mid q.here) c ((mid q.here).own c).seat) (grant_at_go (mid q.here) c ((mid q.here).own c))).1)
          | inr s ↦
              let quiet = not_running b moves i q.here c ((board_at b moves (suc i)).state c) n off (sym (state_stays b moves i q c s)) in
              ap (λ (hs : List Grant). grants_at b moves i c ++ hs) (runs_grant ((board_at b moves (suc i)).state c) quiet) ∙ append_none (grants_at b moves i c)
              ∙ sym (grants_other b moves i q.here c n) ∙ sym (ap (λ (o : Own). o.grants) (settle_stays (mid q.here) c s))
        ]
  ]
]
  where
    got : gets_a_grant (board_at b moves i) (actor b moves i) c ≡ true → grants_at b moves (suc i) c ≡ grants_at b moves i c ++ as_list (grant_in ((board_at b moves (suc i)).state c))
    got on = if_true (gets_a_grant (board_at b moves i) (actor b moves i) c) (grants_at b moves i c ++ as_list (grant_in ((board_at b moves (suc i)).state c))) (grants_at b moves i c) on

    or_off : (a z : Bool) → a ≡ false → z ≡ true → (a || not z) ≡ false
    or_off true z off on = no refl off
    or_off false true off on = refl
    or_off false false off on = no refl (sym on)

    runs : (s : Doing) → boards.is_running s ≡ true → machine.is_running (In s) ≡ true
    runs (IsRunning g) on = refl
    runs s on = absurd (true≢false (sym on))

pub spans_next : (b : Board) (moves : List Move) (i : ℕ) (q : Tidy b moves i) (c : ℕ) → spans_at b moves (suc i) c ≡ (settle_own (mid q.here) c).spans
spans_next b moves i q c = elim (cases_Bool (ready (mid q.here) c)) [
  | inl r ↦
      let on = goes_all b moves i q c ∙ r in
      let grants : grants_at b moves (suc i) c ≡ ((mid q.here).own c).grants ++ grant_at_go (mid q.here) c ((mid q.here).own c) ∷ [] =
      grants_next b moves i q c ∙ ap (λ (o : Own). o.grants) (settle_goes (mid q.here) c r) ∙ (gone_fields ((mid q.here).own c) (go_clock (mid q.here) c) (axes_taken (mid q.here) c ((mid q.here).own c).seat) (grant_at_go (mid q.here) c ((mid q.here).own c))).1 in
      if_true (goes_in b moves i c) (with_value_at ((rows_at b moves (suc i)).past c c) (span_of ((board_at b moves (suc i)).state c) (grants_at b moves (suc i) c)) (spans_in b moves i (spans_at b moves i c) c)) (spans_in b moves i (spans_at b moves i c) c) on
      ∙ ap (λ (n : ℕ). with_value_at n (span_of ((board_at b moves (suc i)).state c) (grants_at b moves (suc i) c)) (spans_in b moves i (spans_at b moves i c) c)) (count_goes b moves i q c on)
      ∙ ap₂ (λ (s : Doing) (gs : List Grant). with_value_at (suc ((mid q.here).own c).count) (span_of s gs) (spans_in b moves i (spans_at b moves i c) c)) (state_goes b moves i q c r) grants
      ∙ ap (λ (old : ℕ → Span). with_value_at (suc ((mid q.here).own c).count) (span_of (IsRunning (grant_at_go (mid q.here) c ((mid q.here).own c))) (((mid q.here).own c).grants ++ grant_at_go (mid q.here) c ((mid q.here).own c) ∷ [])) old) (spans_mid b moves i q.here c)
      ∙ sym (ap (λ (o : Own). o.spans) (settle_goes (mid q.here) c r) ∙ (gone_fields ((mid q.here).own c) (go_clock (mid q.here) c) (axes_taken (mid q.here) c ((mid q.here).own c).seat) (grant_at_go (mid q.here) c ((mid q.here).own c))).2)
  | inr s ↦
      if_false (goes_in b moves i c) (with_value_at ((rows_at b moves (suc i)).past c c) (span_of ((board_at b moves (suc i)).state c) (grants_at b moves (suc i) c)) (spans_in b moves i (spans_at b moves i c) c)) (spans_in b moves i (spans_at b moves i c) c) (goes_all b moves i q c ∙ s)
      ∙ spans_mid b moves i q.here c ∙ sym (ap (λ (o : Own). o.spans) (settle_stays (mid q.here) c s))
]
