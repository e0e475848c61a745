-- Where a step is clean, the run after it is the machine's turn.
use Rattle.std.proofs.Math.Path.{fun_ext}
use Rattle.std.proofs.Common.{◌≡◌, ℕ, ℤ, suc, ◌==◌, ◌&&◌, not, Bool, true, false, List, ◌++◌, inl, inr, refl, sym, ap, ◌∙◌, if◌then◌else◌}
use Rattle.std.proofs.lemmas.Bool.{cases_Bool, eqb-true}
use Rattle.sync_types.specs.BoardActions.{after_own_part}
use Rattle.sync_types.specs.Boards.{State as Doing, Board, among, grant_in}
use Rattle.sync_types.specs.Events.{channels_in}
use Rattle.sync_types.specs.GoingOn.{Going}
use Rattle.sync_types.specs.Runs.{as_list}
use Rattle.sync_types.specs.Turns.{Move}
use Rattle.sync_types.specs.declared.Grant.{Grant}
use Rattle.sync_types.specs.declared.Step.{Step}
use Rattle.order_clocks.specs.CourseOf.{course_of}
use Rattle.order_clocks.specs.Happenings.{Happening, board_at, happening_of, happening_at}
use Rattle.order_clocks.specs.TracedRaces.{Trace, Lowered, Needed, Took, Touched, act_leaves}
use Rattle.order_clocks.proofs.CounterLaws.{closed_goer, closed_other}
use Rattle.board_laws.specs.Machine.{Need, Mark, Axis, Call, Seat, In, Called, Own, Cell, State, Effect, Clock, Span, Tenure, Place, asks, is_at, is_free, mine, ready, axes_taken, takes, taker, grant_at_go, own_after_go, with_value_at, span_of, tenures_handed_on, span_now, next_event, cell_after_taking, settle_own, settle_axis, settle, own_after_call, cell_after_release, with_effect, put_own, put_axis, put_on, doing_of, board_of, touches, act_clock, own_after_act, places_told, effect, turn_by, go_clock}
use Rattle.board_laws.specs.Machine as machine
use Rattle.board_laws.specs.Clean.{GoesClean, Inv}
use Rattle.board_laws.proofs.Basics.{no, called_self, clock_own}
use Rattle.board_laws.proofs.Parts.{put_same, put_other, touched_kept}
use Rattle.board_laws.proofs.Invariants.{settle_rests}
use Rattle.board_laws.proofs.SettledBoards.{settled_board}
use Rattle.board_laws.proofs.Goings.{all_in}
use Rattle.schedule_laws.specs.Tracked.{rows_at, rows_in, part_at, actor, goes_in, last_place, grants_at, clocks_in, clocks_at, spans_in, spans_at, own_at, tracked}
use Rattle.schedule_laws.proofs.Steps.{Here, mid, starts, goings_told, actor_told, after_told}
use Rattle.schedule_laws.proofs.Opened.{past_in, count_in}
use Rattle.schedule_laws.proofs.Held.{HeldIn}
use Rattle.schedule_laws.proofs.Mates.{meets_from}
use Rattle.schedule_laws.proofs.GoRows.{goer, go_told}
use Rattle.schedule_laws.proofs.Told.{touched_told}

-- a step whose goings are clean
pub record Tidy (b : Board) (moves : List Move) (i : ℕ) : Type 0 where
  pub here : Here b moves i
  pub held : HeldIn here
  pub inv : Inv (mid here)
  pub clean : GoesClean (mid here)

pub goes_all : (b : Board) (moves : List Move) (i : ℕ) (q : Tidy b moves i) (c : ℕ) → goes_in b moves i c ≡ ready (mid q.here) c
goes_all b moves i q c = elim (cases_Bool (ready (mid q.here) c)) [
  | inl r ↦ ap (λ (gs : List Going). among (channels_in gs) c) (goings_told b moves i q.here) ∙ all_in (mid q.here) (starts q.here) c q.clean q.here.parts.orderly q.here.parts.over q.here.parts.called r ∙ sym r
  | inr s ↦ elim (cases_Bool (goes_in b moves i c)) [ inl on ↦ no (goer b moves i q.here c on).goes s | inr off ↦ off ∙ sym s ]
]

-- the board after the step
pub board_next : (b : Board) (moves : List Move) (i : ℕ) (q : Tidy b moves i) → board_at b moves (suc i) ≡ board_of (settle (mid q.here))
board_next b moves i q = after_told b moves i q.here ∙ settled_board (mid q.here) q.clean q.here.parts.orderly q.here.parts.over

pub shown_in : (t : State) (c : ℕ) (s : Seat) → ((r : ℕ) → asks s (Call r) ≡ false) → In (doing_of t c s) ≡ s
shown_in t c (In state) off = refl
shown_in t c (Called p) off = no (called_self p) (off p)

pub seat_next : (b : Board) (moves : List Move) (i : ℕ) (q : Tidy b moves i) (c : ℕ) → In ((board_at b moves (suc i)).state c) ≡ (settle_own (mid q.here) c).seat
seat_next b moves i q c = ap (λ (a : Board). In (a.state c)) (board_next b moves i q) ∙ shown_in (settle (mid q.here)) c (settle_own (mid q.here) c).seat (λ r. (settle_rests (mid q.here) q.inv q.here.parts.orderly.none).uncalled c r)

-- counters
pub past_goes : (b : Board) (moves : List Move) (i : ℕ) (q : Tidy b moves i) (c x : ℕ) → goes_in b moves i c ≡ true → (rows_at b moves (suc i)).past c x ≡ go_clock (mid q.here) c x
past_goes b moves i q c x on = closed_goer (course_of b moves) i (rows_in b moves i) c x on ∙ go_told b moves i q.here q.held c x (meets_from (mid q.here) q.clean) q.inv on

pub past_stays : (b : Board) (moves : List Move) (i : ℕ) (q : Tidy b moves i) (c x : ℕ) → goes_in b moves i c ≡ false → (rows_at b moves (suc i)).past c x ≡ ((mid q.here).own c).past x
past_stays b moves i q c x off = closed_other (course_of b moves) i (rows_in b moves i) c x off ∙ sym (past_in b moves i q.here c x)

pub count_goes : (b : Board) (moves : List Move) (i : ℕ) (q : Tidy b moves i) (c : ℕ) → goes_in b moves i c ≡ true → (rows_at b moves (suc i)).past c c ≡ suc ((mid q.here).own c).count
count_goes b moves i q c on = past_goes b moves i q c c on ∙ clock_own (mid q.here) c ((mid q.here).own c)

pub count_stays : (b : Board) (moves : List Move) (i : ℕ) (q : Tidy b moves i) (c : ℕ) → goes_in b moves i c ≡ false → (rows_at b moves (suc i)).past c c ≡ ((mid q.here).own c).count
count_stays b moves i q c off = closed_other (course_of b moves) i (rows_in b moves i) c c off ∙ sym (count_in b moves i q.here c)

-- of the actor and of others within the step
pub acted_is : (t : State) (p : ℕ) (step : Step) → (effect t p step).own ≡ own_after_act p (t.own p) ((after_own_part (board_of t) p step).marks p) ((after_own_part (board_of t) p step).state p) (touches step.action) (places_told step)
unfolding effect
acted_is t p step = refl

pub at_actor : (b : Board) (moves : List Move) (i : ℕ) (w : Here b moves i) (c : ℕ) → (c == w.p) ≡ true
    → (mid w).own c ≡ own_after_act c (own_at b moves i c) ((after_own_part (board_of (tracked b moves i)) w.p w.step).marks c) ((after_own_part (board_of (tracked b moves i)) w.p w.step).state c) (touches w.step.action) (places_told w.step)
at_actor b moves i w c y =
    let s : c ≡ w.p = eqb-true c w.p y in
    ap (λ (z : ℕ). (mid w).own z) s ∙ put_same (tracked b moves i) w.p (effect (tracked b moves i) w.p w.step) ∙ acted_is (tracked b moves i) w.p w.step
    ∙ ap (λ (z : ℕ). own_after_act z (own_at b moves i z) ((after_own_part (board_of (tracked b moves i)) w.p w.step).marks z) ((after_own_part (board_of (tracked b moves i)) w.p w.step).state z) (touches w.step.action) (places_told w.step)) (sym s)

-- a field that INIT and START leave alone
pub touched_grants : (e : Effect) (p c : ℕ) (o : Own) → (own_after_call e p c o).grants ≡ o.grants
unfolding own_after_call
touched_grants e p c o = elim (cases_Bool (e.calls c && machine.is_idle o.seat)) [ inl y ↦ rw y refl | inr n ↦ elim (cases_Bool (e.selects c && machine.is_idle o.seat)) [ inl z ↦ rw (n, z) refl | inr m ↦ rw (n, m) refl ] ]

pub touched_log : (e : Effect) (p c : ℕ) (o : Own) → (own_after_call e p c o).log ≡ o.log
unfolding own_after_call
touched_log e p c o = elim (cases_Bool (e.calls c && machine.is_idle o.seat)) [ inl y ↦ rw y refl | inr n ↦ elim (cases_Bool (e.selects c && machine.is_idle o.seat)) [ inl z ↦ rw (n, z) refl | inr m ↦ rw (n, m) refl ] ]

pub touched_spans : (e : Effect) (p c : ℕ) (o : Own) → (own_after_call e p c o).spans ≡ o.spans
unfolding own_after_call
touched_spans e p c o = elim (cases_Bool (e.calls c && machine.is_idle o.seat)) [ inl y ↦ rw y refl | inr n ↦ elim (cases_Bool (e.selects c && machine.is_idle o.seat)) [ inl z ↦ rw (n, z) refl | inr m ↦ rw (n, m) refl ] ]

pub other_own : (b : Board) (moves : List Move) (i : ℕ) (w : Here b moves i) (c : ℕ) → (c == w.p) ≡ false → (mid w).own c ≡ own_after_call (effect (tracked b moves i) w.p w.step) w.p c (own_at b moves i c)
other_own b moves i w c n = put_other (tracked b moves i) w.p (effect (tracked b moves i) w.p w.step) c n

-- fields by their definitions
pub acted_grants : (p : ℕ) (o : Own) (marks : ℕ → Bool) (state : Doing) (names : ℕ → Bool) (place : ℕ → ℤ) → (own_after_act p o marks state names place).grants ≡ o.grants ++ as_list (grant_in state)
unfolding own_after_act
acted_grants p o marks state names place = refl

pub acted_log : (p : ℕ) (o : Own) (marks : ℕ → Bool) (state : Doing) (names : ℕ → Bool) (place : ℕ → ℤ) → (own_after_act p o marks state names place).log ≡ with_value_at (suc o.count) (act_clock p o) o.log
unfolding own_after_act
acted_log p o marks state names place = refl

pub acted_spans : (p : ℕ) (o : Own) (marks : ℕ → Bool) (state : Doing) (names : ℕ → Bool) (place : ℕ → ℤ) → (own_after_act p o marks state names place).spans ≡ with_value_at (suc o.count) (span_of state (o.grants ++ as_list (grant_in state))) o.spans
unfolding own_after_act
acted_spans p o marks state names place = refl

pub acted_count : (p : ℕ) (o : Own) (marks : ℕ → Bool) (state : Doing) (names : ℕ → Bool) (place : ℕ → ℤ) → (own_after_act p o marks state names place).count ≡ suc o.count
unfolding own_after_act
acted_count p o marks state names place = refl

pub acted_past : (p : ℕ) (o : Own) (marks : ℕ → Bool) (state : Doing) (names : ℕ → Bool) (place : ℕ → ℤ) → (own_after_act p o marks state names place).past ≡ act_clock p o
unfolding own_after_act
acted_past p o marks state names place = refl

pub acted_lowered : (p : ℕ) (o : Own) (marks : ℕ → Bool) (state : Doing) (names : ℕ → Bool) (place : ℕ → ℤ) (k : ℕ) → (own_after_act p o marks state names place).lowered k ≡ (if o.marks k && not (marks k) then suc o.count else o.lowered k)
unfolding own_after_act
acted_lowered p o marks state names place k = refl

pub acted_started : (p : ℕ) (o : Own) (marks : ℕ → Bool) (state : Doing) (names : ℕ → Bool) (place : ℕ → ℤ) (y : ℕ) → (own_after_act p o marks state names place).started y ≡ (if names y then suc o.count else o.started y)
unfolding own_after_act
acted_started p o marks state names place y = refl

pub acted_needs : (p : ℕ) (o : Own) (marks : ℕ → Bool) (state : Doing) (names : ℕ → Bool) (place : ℕ → ℤ) → ((own_after_act p o marks state names place).needs ≡ o.needs) × ((own_after_act p o marks state names place).took ≡ o.took)
unfolding own_after_act
acted_needs p o marks state names place = (refl, refl)

pub log_at : (b : Board) (moves : List Move) (i c : ℕ) → (own_at b moves i c).log ≡ clocks_at b moves i c
unfolding own_at
log_at b moves i c = refl

pub spans_own : (b : Board) (moves : List Move) (i c : ℕ) → (own_at b moves i c).spans ≡ spans_at b moves i c
unfolding own_at
spans_own b moves i c = refl

pub grants_own : (b : Board) (moves : List Move) (i c : ℕ) → (own_at b moves i c).grants ≡ grants_at b moves i c
unfolding own_at
grants_own b moves i c = refl

pub if_true : {A : Type 0} (t : Bool) (x y : A) → t ≡ true → (if t then x else y) ≡ x
if_true t x y on = rw on refl

pub if_false : {A : Type 0} (t : Bool) (x y : A) → t ≡ false → (if t then x else y) ≡ y
if_false t x y off = rw off refl

pub acts_here : (b : Board) (moves : List Move) (i : ℕ) (w : Here b moves i) (c : ℕ) → (c == actor b moves i) ≡ (c == w.p)
acts_here b moves i w c = ap (λ (z : ℕ). c == z) (actor_told b moves i w)

abbrev pub part_marks : {b : Board} {moves : List Move} {i : ℕ} → Here b moves i → ℕ → ℕ → Bool
part_marks {b} {moves} {i} w = (after_own_part (board_of (tracked b moves i)) w.p w.step).marks

abbrev pub part_state : {b : Board} {moves : List Move} {i : ℕ} → Here b moves i → ℕ → Doing
part_state {b} {moves} {i} w = (after_own_part (board_of (tracked b moves i)) w.p w.step).state

abbrev pub actor_own : {b : Board} {moves : List Move} {i : ℕ} → Here b moves i → ℕ → Own
actor_own {b} {moves} {i} w c = own_after_act c (own_at b moves i c) (part_marks w c) (part_state w c) (touches w.step.action) (places_told w.step)

pub count_actor : (b : Board) (moves : List Move) (i : ℕ) (w : Here b moves i) (c : ℕ) → (c == w.p) ≡ true → suc (own_at b moves i c).count ≡ (rows_in b moves i).past c c
count_actor b moves i w c y = sym (ap (λ (o : Own). o.count) (at_actor b moves i w c y) ∙ acted_count c (own_at b moves i c) (part_marks w c) (part_state w c) (touches w.step.action) (places_told w.step)) ∙ count_in b moves i w c

pub past_actor : (b : Board) (moves : List Move) (i : ℕ) (w : Here b moves i) (c : ℕ) → (c == w.p) ≡ true → act_clock c (own_at b moves i c) ≡ (rows_in b moves i).past c
past_actor b moves i w c y = sym (ap (λ (o : Own). o.past) (at_actor b moves i w c y) ∙ acted_past c (own_at b moves i c) (part_marks w c) (part_state w c) (touches w.step.action) (places_told w.step)) ∙ fun_ext (λ x. past_in b moves i w c x)

-- the clocks by places, within the step and after it
pub clocks_mid : (b : Board) (moves : List Move) (i : ℕ) (w : Here b moves i) (c : ℕ) → clocks_in b moves i (clocks_at b moves i c) c ≡ ((mid w).own c).log
clocks_mid b moves i w c = elim (cases_Bool (c == w.p)) [
  | inl y ↦
      if_true (c == actor b moves i) (with_value_at ((rows_in b moves i).past c c) ((rows_in b moves i).past c) (clocks_at b moves i c)) (clocks_at b moves i c) (acts_here b moves i w c ∙ y)
      ∙ ap (λ (n : ℕ). with_value_at n ((rows_in b moves i).past c) (clocks_at b moves i c)) (sym (count_actor b moves i w c y)) ∙ ap (λ (f : Clock). with_value_at (suc (own_at b moves i c).count) f (clocks_at b moves i c)) (sym (past_actor b moves i w c y))
      ∙ ap (λ (old : ℕ → Clock). with_value_at (suc (own_at b moves i c).count) (act_clock c (own_at b moves i c)) old) (sym (log_at b moves i c))
      ∙ sym (ap (λ (o : Own). o.log) (at_actor b moves i w c y) ∙ acted_log c (own_at b moves i c) (part_marks w c) (part_state w c) (touches w.step.action) (places_told w.step))
  | inr n ↦
      if_false (c == actor b moves i) (with_value_at ((rows_in b moves i).past c c) ((rows_in b moves i).past c) (clocks_at b moves i c)) (clocks_at b moves i c) (acts_here b moves i w c ∙ n)
      ∙ sym (ap (λ (o : Own). o.log) (other_own b moves i w c n) ∙ touched_log (effect (tracked b moves i) w.p w.step) w.p c (own_at b moves i c) ∙ log_at b moves i c)
]

-- grants within the step
pub grants_mid : (b : Board) (moves : List Move) (i : ℕ) (w : Here b moves i) (c : ℕ) → (c == w.p) ≡ true → grants_at b moves i c ++ as_list (grant_in (part_state w c)) ≡ ((mid w).own c).grants
grants_mid b moves i w c y =
    ap (λ (gs : List Grant). gs ++ as_list (grant_in (part_state w c))) (sym (grants_own b moves i c))
    ∙ sym (ap (λ (o : Own). o.grants) (at_actor b moves i w c y) ∙ acted_grants c (own_at b moves i c) (part_marks w c) (part_state w c) (touches w.step.action) (places_told w.step))

pub grants_other : (b : Board) (moves : List Move) (i : ℕ) (w : Here b moves i) (c : ℕ) → (c == w.p) ≡ false → ((mid w).own c).grants ≡ grants_at b moves i c
grants_other b moves i w c n = ap (λ (o : Own). o.grants) (other_own b moves i w c n) ∙ touched_grants (effect (tracked b moves i) w.p w.step) w.p c (own_at b moves i c) ∙ grants_own b moves i c

pub spans_mid : (b : Board) (moves : List Move) (i : ℕ) (w : Here b moves i) (c : ℕ) → spans_in b moves i (spans_at b moves i c) c ≡ ((mid w).own c).spans
spans_mid b moves i w c = elim (cases_Bool (c == w.p)) [
  | inl y ↦
      let part : (part_at b moves i).state c ≡ part_state w c = ap (λ (a : Board). a.state c) w.part in
      if_true (c == actor b moves i) (with_value_at ((rows_in b moves i).past c c) (span_of ((part_at b moves i).state c) (grants_at b moves i c ++ as_list (grant_in ((part_at b moves i).state c)))) (spans_at b moves i c)) (spans_at b moves i c) (acts_here b moves i w c ∙ y)
      ∙ ap (λ (n : ℕ). with_value_at n (span_of ((part_at b moves i).state c) (grants_at b moves i c ++ as_list (grant_in ((part_at b moves i).state c)))) (spans_at b moves i c)) (sym (count_actor b moves i w c y))
      ∙ ap (λ (s : Doing). with_value_at (suc (own_at b moves i c).count) (span_of s (grants_at b moves i c ++ as_list (grant_in s))) (spans_at b moves i c)) part
      ∙ ap (λ (gs : List Grant). with_value_at (suc (own_at b moves i c).count) (span_of (part_state w c) (gs ++ as_list (grant_in (part_state w c)))) (spans_at b moves i c)) (sym (grants_own b moves i c))
      ∙ ap (λ (old : ℕ → Span). with_value_at (suc (own_at b moves i c).count) (span_of (part_state w c) ((own_at b moves i c).grants ++ as_list (grant_in (part_state w c)))) old) (sym (spans_own b moves i c))
      ∙ sym (ap (λ (o : Own). o.spans) (at_actor b moves i w c y) ∙ acted_spans c (own_at b moves i c) (part_marks w c) (part_state w c) (touches w.step.action) (places_told w.step))
  | inr n ↦
      if_false (c == actor b moves i) (with_value_at ((rows_in b moves i).past c c) (span_of ((part_at b moves i).state c) (grants_at b moves i c ++ as_list (grant_in ((part_at b moves i).state c)))) (spans_at b moves i c)) (spans_at b moves i c) (acts_here b moves i w c ∙ n)
      ∙ sym (ap (λ (o : Own). o.spans) (other_own b moves i w c n) ∙ touched_spans (effect (tracked b moves i) w.p w.step) w.p c (own_at b moves i c) ∙ spans_own b moves i c)
]

-- the last places within the step
abbrev pub place_mid : Board → List Move → ℕ → ℕ → Trace → ℕ
place_mid b moves i c t = if (c == actor b moves i) && act_leaves (happening_at b moves i) t then (rows_in b moves i).past c c else last_place b moves i c t

pub leaves_told : (b : Board) (moves : List Move) (i : ℕ) (w : Here b moves i) (t : Trace) → act_leaves (happening_at b moves i) t ≡ act_leaves (happening_of (board_of (tracked b moves i)) w.p w.step) t
leaves_told b moves i w t = ap (λ (h : Happening). act_leaves h t) w.happens

pub lowered_own : (b : Board) (moves : List Move) (i c k : ℕ) → (own_at b moves i c).lowered k ≡ last_place b moves i c (Lowered c k)
unfolding own_at
lowered_own b moves i c k = refl

pub needs_own : (b : Board) (moves : List Move) (i c d k : ℕ) → (own_at b moves i c).needs d k ≡ last_place b moves i c (Needed d k)
unfolding own_at
needs_own b moves i c d k = refl

pub took_own : (b : Board) (moves : List Move) (i c x : ℕ) → (own_at b moves i c).took x ≡ last_place b moves i c (Took x)
unfolding own_at
took_own b moves i c x = refl

pub started_own : (b : Board) (moves : List Move) (i c y : ℕ) → (own_at b moves i c).started y ≡ last_place b moves i c (Touched y)
unfolding own_at
started_own b moves i c y = refl

pub picked : (t : Bool) (x y u v : ℕ) → x ≡ u → y ≡ v → (if t then x else y) ≡ (if t then u else v)
picked true x y u v e f = e
picked false x y u v e f = f

-- not the actor: nothing is left by the act
pub mid_other : (b : Board) (moves : List Move) (i : ℕ) (w : Here b moves i) (c : ℕ) (t : Trace) → (c == w.p) ≡ false → place_mid b moves i c t ≡ last_place b moves i c t
mid_other b moves i w c t n = ap (λ (z : Bool). if z && act_leaves (happening_at b moves i) t then (rows_in b moves i).past c c else last_place b moves i c t) (acts_here b moves i w c ∙ n)

pub mid_actor : (b : Board) (moves : List Move) (i : ℕ) (w : Here b moves i) (c : ℕ) (t : Trace) (test : Bool) → (c == w.p) ≡ true → act_leaves (happening_of (board_of (tracked b moves i)) w.p w.step) t ≡ test
    → place_mid b moves i c t ≡ (if test then suc (own_at b moves i c).count else last_place b moves i c t)
mid_actor b moves i w c t test y e =
    ap (λ (z : Bool). if z && act_leaves (happening_at b moves i) t then (rows_in b moves i).past c c else last_place b moves i c t) (acts_here b moves i w c ∙ y)
    ∙ ap (λ (z : Bool). if z then (rows_in b moves i).past c c else last_place b moves i c t) (leaves_told b moves i w t ∙ e)
    ∙ picked test ((rows_in b moves i).past c c) (last_place b moves i c t) (suc (own_at b moves i c).count) (last_place b moves i c t) (sym (count_actor b moves i w c y)) refl

pub lowered_mid : (b : Board) (moves : List Move) (i : ℕ) (w : Here b moves i) (c k : ℕ) → place_mid b moves i c (Lowered c k) ≡ ((mid w).own c).lowered k
lowered_mid b moves i w c k = elim (cases_Bool (c == w.p)) [
  | inl y ↦
      let s : c ≡ w.p = eqb-true c w.p y in
      let test : Bool = (own_at b moves i c).marks k && not (part_marks w c k) in
      let leaves : act_leaves (happening_of (board_of (tracked b moves i)) w.p w.step) (Lowered c k) ≡ test =
      ap (λ (z : Bool). z && ((own_at b moves i w.p).marks k && not (part_marks w w.p k))) y ∙ ap (λ (z : ℕ). (own_at b moves i z).marks k && not (part_marks w z k)) (sym s) in
      mid_actor b moves i w c (Lowered c k) test y leaves
      ∙ picked test (suc (own_at b moves i c).count) (last_place b moves i c (Lowered c k)) (suc (own_at b moves i c).count) ((own_at b moves i c).lowered k) refl (sym (lowered_own b moves i c k))
      ∙ sym (ap (λ (o : Own). o.lowered k) (at_actor b moves i w c y) ∙ acted_lowered c (own_at b moves i c) (part_marks w c) (part_state w c) (touches w.step.action) (places_told w.step) k)
  | inr n ↦
      mid_other b moves i w c (Lowered c k) n
      ∙ sym (ap (λ (o : Own). o.lowered k) (other_own b moves i w c n) ∙ ap (λ (f : ℕ → ℕ). f k) (touched_kept (effect (tracked b moves i) w.p w.step) w.p c (own_at b moves i c)).lowered ∙ lowered_own b moves i c k)
]

pub needs_mid : (b : Board) (moves : List Move) (i : ℕ) (w : Here b moves i) (c d k : ℕ) → place_mid b moves i c (Needed d k) ≡ ((mid w).own c).needs d k
needs_mid b moves i w c d k = elim (cases_Bool (c == w.p)) [
  | inl y ↦
      mid_actor b moves i w c (Needed d k) false y refl ∙ sym (needs_own b moves i c d k)
      ∙ sym (ap (λ (o : Own). o.needs d k) (at_actor b moves i w c y) ∙ ap (λ (f : ℕ → ℕ → ℕ). f d k) (acted_needs c (own_at b moves i c) (part_marks w c) (part_state w c) (touches w.step.action) (places_told w.step)).0)
  | inr n ↦
      mid_other b moves i w c (Needed d k) n
      ∙ sym (ap (λ (o : Own). o.needs d k) (other_own b moves i w c n) ∙ ap (λ (f : ℕ → ℕ → ℕ). f d k) (touched_kept (effect (tracked b moves i) w.p w.step) w.p c (own_at b moves i c)).needs ∙ needs_own b moves i c d k)
]

pub took_mid : (b : Board) (moves : List Move) (i : ℕ) (w : Here b moves i) (c x : ℕ) → place_mid b moves i c (Took x) ≡ ((mid w).own c).took x
took_mid b moves i w c x = elim (cases_Bool (c == w.p)) [
  | inl y ↦
      mid_actor b moves i w c (Took x) false y refl ∙ sym (took_own b moves i c x)
      ∙ sym (ap (λ (o : Own). o.took x) (at_actor b moves i w c y) ∙ ap (λ (f : ℕ → ℕ). f x) (acted_needs c (own_at b moves i c) (part_marks w c) (part_state w c) (touches w.step.action) (places_told w.step)).1)
  | inr n ↦
      mid_other b moves i w c (Took x) n
      ∙ sym (ap (λ (o : Own). o.took x) (other_own b moves i w c n) ∙ ap (λ (f : ℕ → ℕ). f x) (touched_kept (effect (tracked b moves i) w.p w.step) w.p c (own_at b moves i c)).took ∙ took_own b moves i c x)
]

pub started_mid : (b : Board) (moves : List Move) (i : ℕ) (w : Here b moves i) (c y : ℕ) → place_mid b moves i c (Touched y) ≡ ((mid w).own c).started y
started_mid b moves i w c z = elim (cases_Bool (c == w.p)) [
  | inl y ↦
      mid_actor b moves i w c (Touched z) (touches w.step.action z) y (touched_told w.step.action z)
      ∙ picked (touches w.step.action z) (suc (own_at b moves i c).count) (last_place b moves i c (Touched z)) (suc (own_at b moves i c).count) ((own_at b moves i c).started z) refl (sym (started_own b moves i c z))
      ∙ sym (ap (λ (o : Own). o.started z) (at_actor b moves i w c y) ∙ acted_started c (own_at b moves i c) (part_marks w c) (part_state w c) (touches w.step.action) (places_told w.step) z)
  | inr n ↦
      mid_other b moves i w c (Touched z) n
      ∙ sym (ap (λ (o : Own). o.started z) (other_own b moves i w c n) ∙ ap (λ (f : ℕ → ℕ). f z) (touched_kept (effect (tracked b moves i) w.p w.step) w.p c (own_at b moves i c)).started ∙ started_own b moves i c z)
]
