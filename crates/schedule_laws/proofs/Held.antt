-- What is so of waits and ends, and that the machine of a run rests between its steps.
use Rattle.axis_sets.specs.declared.limits.TheConstants.{CHANNEL_LIMIT}
use Rattle.std.proofs.Common.{◌≡◌, ℕ, zero, suc, ◌≤◌, ◌==◌, ◌&&◌, ◌||◌, Bool, true, false, List, length, inl, inr, refl, sym, ap, subst, ◌∙◌, arith, if◌then◌else◌}
use Rattle.std.proofs.lemmas.Bool.{cases_Bool, eqb-true, true≢false}
use Rattle.sync_types.proofs.FreeTakings.{NobodyRobs, goes_rob_nobody, takings_rob_nobody}
use Rattle.sync_types.specs.Boards.{State as Doing, IsIdle, IsRunning, IsHolding, HasEnded, AtMarks, Board, among, has_ended}
use Rattle.sync_types.specs.Boards as boards
use Rattle.sync_types.specs.Events.{channels_in}
use Rattle.sync_types.specs.GoingOn.{Going, after_goes, goings_on, after_goings, takes_from_standing}
use Rattle.sync_types.specs.BoardActions.{after_own_part}
use Rattle.sync_types.specs.declared.Step.{Step}
use Rattle.sync_types.specs.Turns.{Move, AreOfRunning}
use Rattle.order_clocks.specs.Happenings.{Happening, Raised, Freed, Ended, board_at, happening_at, gives, going_of, of_going}
use Rattle.order_clocks.specs.TracedRaces.{Trace, Lowered, Needed, Took, Touched, act_leaves, going_leaves}
use Rattle.order_clocks.specs.CourseOf.{course_of}
use Rattle.order_clocks.proofs.CounterLaws.{opened_actor, opened_other, opened_given, opened_kept, closed_other, closed_last}
use Rattle.order_clocks.proofs.WholeLaws.{board_zero}
use Rattle.board_laws.specs.Machine.{Call, Seat, In, Called, Own, State, Effect, Clock, asks, is_at, is_ended, ready, doing_of, board_of, touches, own_after_act, effect}
use Rattle.board_laws.specs.Clean.{IsAct, MarkChange, Stays, Raises, Lowers, Inv, Rests}
use Rattle.board_laws.proofs.Basics.{no, in_no_call}
use Rattle.board_laws.proofs.Parts.{put_same, put_other, touched_kept, touched_at, touched_ended}
use Rattle.board_laws.proofs.Invariants.{put_inv}
use Rattle.board_laws.proofs.Actions.{act_is}
use Rattle.board_laws.proofs.Takings.{in_channels}
use Rattle.board_laws.proofs.Shown.{at_quick}
use Rattle.board_laws.proofs.Goings.{kept_state, gone_runs, quick_in_goings, marks_kept}
use Rattle.schedule_laws.specs.Tracked.{rows_at, rows_in, actor, goes_in, last_place, own_at, cell_at, tracked}
use Rattle.schedule_laws.proofs.Within.{rows_within, act_up, close_up}
use Rattle.schedule_laws.proofs.Steps.{Fresh, Here, none_fresh, here, mid, starts, seat_at, goings_told, actor_told, after_told}
use Rattle.schedule_laws.proofs.Opened.{past_in, raised_in}

-- between steps
pub record Held (b : Board) (moves : List Move) (i : ℕ) : Type 0 where
  pub stands : (c k : ℕ) → is_at (own_at b moves i c).seat k ≡ true → (own_at b moves i c).marks k ≡ true
  pub raised : (c k x : ℕ) → is_at (own_at b moves i c).seat k ≡ true → (own_at b moves i c).raised k x ≡ (own_at b moves i c).past x
  pub ended : (c x : ℕ) → is_ended (own_at b moves i c).seat ≡ true → (rows_at b moves i).last (Ended c) x ≡ (rows_at b moves i).past c x
  pub none : NobodyRobs (board_at b moves i)

-- and within one
pub record HeldIn {b : Board} {moves : List Move} {i : ℕ} (w : Here b moves i) : Type 0 where
  pub stands : (c k : ℕ) → is_at ((mid w).own c).seat k ≡ true → ((mid w).own c).marks k ≡ true
  pub raised : (c k x : ℕ) → is_at ((mid w).own c).seat k ≡ true → ((mid w).own c).raised k x ≡ ((mid w).own c).past x
  pub ended : (c x : ℕ) → is_ended ((mid w).own c).seat ≡ true → (rows_in b moves i).last (Ended c) x ≡ ((mid w).own c).past x

-- places never exceed counts
place_of_going : (b : Board) (moves : List Move) (i c : ℕ) (x y : ℕ) (t u : Bool) → x ≤ (rows_at b moves (suc i)).past c c → y ≤ (rows_at b moves (suc i)).past c c
    → (if t then (rows_at b moves (suc i)).past c c else if u then x else y) ≤ (rows_at b moves (suc i)).past c c
place_of_going b moves i c x y true u l m = omega arith
place_of_going b moves i c x y false true l m = l
place_of_going b moves i c x y false false l m = m

pub rows_up : (b : Board) (moves : List Move) (i c : ℕ) → (rows_at b moves i).past c c ≤ (rows_in b moves i).past c c
rows_up b moves i c = act_up (course_of b moves) i (rows_at b moves i) c

pub rows_next : (b : Board) (moves : List Move) (i c : ℕ) → (rows_in b moves i).past c c ≤ (rows_at b moves (suc i)).past c c
rows_next b moves i c = close_up (course_of b moves) i (rows_in b moves i) c

pub place_within : (b : Board) (moves : List Move) (i c : ℕ) (t : Trace) → last_place b moves i c t ≤ (rows_at b moves i).past c c
place_within b moves zero c t = omega arith
place_within b moves (suc i) c t =
    let l = rows_up b moves i c in
    let m = rows_next b moves i c in
    let u = place_within b moves i c t in
    place_of_going b moves i c ((rows_in b moves i).past c c) (last_place b moves i c t) (of_going (going_of (happening_at b moves i).goings c) (λ g. going_leaves g t))
    ((c == actor b moves i) && act_leaves (happening_at b moves i) t) m (omega (arith, l, m, u))

pub inv_at : (b : Board) (moves : List Move) (i : ℕ) → Held b moves i → Inv (tracked b moves i)
unfolding own_at cell_at
inv_at b moves i held =
    let w = rows_within (course_of b moves) i in
    record {
      past = w.past;
      raised = λ c k x. w.last (Raised c k) x;
      freed = λ a x. w.last (Freed a) x;
      lowered = λ c k. place_within b moves i c (Lowered c k);
      needs = λ c d k. place_within b moves i c (Needed d k);
      took = λ c a. place_within b moves i c (Took a);
      started = λ c y. place_within b moves i c (Touched y);
      stands = held.stands;
    }

pub rests_at : (b : Board) (moves : List Move) (i : ℕ) → Held b moves i → Rests (tracked b moves i)
rests_at b moves i held = record {
  inv = inv_at b moves i held;
  uncalled = λ c r. ap (λ (s : Seat). asks s (Call r)) (seat_at b moves i c) ∙ in_no_call ((board_at b moves i).state c) r;
  takes_free = λ c. ap (λ (s : Seat). takes_from_standing (doing_of (tracked b moves i) c s)) (seat_at b moves i c) ∙ held.none c;
}

raised_now : (p k : ℕ) (old : Own) (names : ℕ → Bool) (e : Effect) → IsAct p old names e → is_at e.own.seat k ≡ true → e.own.raised k ≡ e.own.past
raised_now p k old names e act on = go (act.mark k)
  where
    go : MarkChange old e.own k → e.own.raised k ≡ e.own.past
    go (Stays m r l) = no (act.leaves_up k on) (m ∙ act.found_down k on)
    go (Raises d u r l) = r
    go (Lowers u d r l) = no (act.leaves_up k on) d

ended_in : (s : Doing) → is_ended (In s) ≡ true → has_ended s ≡ true
ended_in (HasEnded line) on = refl
ended_in s on = absurd (true≢false (sym on))

abbrev after_part_state : {b : Board} {moves : List Move} {i : ℕ} → Here b moves i → Doing
after_part_state {b} {moves} {i} w = (after_own_part (board_of (tracked b moves i)) w.p w.step).state w.p

abbrev goings_of : {b : Board} {moves : List Move} {i : ℕ} → Here b moves i → List Going
goings_of {b} {moves} {i} w = goings_on (board_of (mid w)) (starts w)

effect_seat : (t : State) (p : ℕ) (step : Step) → (effect t p step).own.seat ≡ In ((after_own_part (board_of t) p step).state p)
unfolding effect own_after_act
effect_seat t p step = refl

own_seat_in : {b : Board} {moves : List Move} {i : ℕ} (w : Here b moves i) → ((mid w).own w.p).seat ≡ In (after_part_state w)
own_seat_in {b} {moves} {i} w = ap (λ (o : Own). o.seat) (put_same (tracked b moves i) w.p (effect (tracked b moves i) w.p w.step)) ∙ effect_seat (tracked b moves i) w.p w.step

pub held_in : (b : Board) (moves : List Move) (i : ℕ) (w : Here b moves i) → Held b moves i → HeldIn w
held_in b moves i w held =
    let e : Effect = effect (tracked b moves i) w.p w.step in
    let act : IsAct w.p (own_at b moves i w.p) (touches w.step.action) e = act_is (tracked b moves i) w.p w.step in
    record {
      stands = (put_inv (tracked b moves i) w.p (touches w.step.action) e (inv_at b moves i held) act).stands;
      raised = λ c k x on. elim (cases_Bool (c == w.p)) [
        | inl y ↦
            let s : (mid w).own c ≡ e.own = ap (λ (z : ℕ). (mid w).own z) (eqb-true c w.p y) ∙ put_same (tracked b moves i) w.p e in
            ap (λ (o : Own). o.raised k x) s ∙ ap (λ (f : Clock). f x) (raised_now w.p k (own_at b moves i w.p) (touches w.step.action) e act (ap (λ (o : Own). is_at o.seat k) (sym s) ∙ on)) ∙ sym (ap (λ (o : Own). o.past x) s)
        | inr n ↦
            let s = put_other (tracked b moves i) w.p e c n in
            let k' = touched_kept e w.p c (own_at b moves i c) in
            let on' : is_at (own_at b moves i c).seat k ≡ true = sym (ap (λ (o : Own). is_at o.seat k) s ∙ touched_at e w.p c (own_at b moves i c) k) ∙ on in
            ap (λ (o : Own). o.raised k x) s ∙ ap (λ (f : ℕ → Clock). f k x) k'.raised ∙ held.raised c k x on' ∙ sym (ap (λ (o : Own). o.past x) s ∙ ap (λ (f : Clock). f x) k'.past)
      ];
      ended = λ c x on. elim (cases_Bool (c == w.p)) [
        | inl y ↦
            let s : c ≡ w.p = eqb-true c w.p y in
            let end : has_ended ((after_part_state w)) ≡ true = ended_in (after_part_state w) (ap (λ (z : Seat). is_ended z) (sym (ap (λ (z : ℕ). ((mid w).own z).seat) s ∙ own_seat_in w)) ∙ on) in
            let g : (course_of b moves).gives i (Ended c) ≡ true = ap (λ (h : Happening). gives h (Ended c)) w.happens ∙ ap (λ (t : Bool). t && has_ended (after_part_state w)) y ∙ end in
            opened_given (course_of b moves) i (rows_at b moves i) (Ended c) x g ∙ sym (past_in b moves i w c x ∙ opened_actor (course_of b moves) i (rows_at b moves i) c x (actor_told b moves i w ∙ sym s))
        | inr n ↦
            let s = put_other (tracked b moves i) w.p e c n in
            let on' : is_ended (own_at b moves i c).seat ≡ true = sym (ap (λ (o : Own). is_ended o.seat) s ∙ touched_ended e w.p c (own_at b moves i c)) ∙ on in
            let g : (course_of b moves).gives i (Ended c) ≡ false = ap (λ (h : Happening). gives h (Ended c)) w.happens ∙ ap (λ (t : Bool). t && has_ended (after_part_state w)) n in
            opened_kept (course_of b moves) i (rows_at b moves i) (Ended c) x g ∙ held.ended c x on'
            ∙ sym (past_in b moves i w c x ∙ opened_other (course_of b moves) i (rows_at b moves i) c x (ap (λ (z : ℕ). c == z) (actor_told b moves i w) ∙ n))
      ];
    }

-- who does not go on does as within the step
pub kept_told : (b : Board) (moves : List Move) (i : ℕ) (w : Here b moves i) (c : ℕ) → goes_in b moves i c ≡ false → (board_at b moves (suc i)).state c ≡ doing_of (mid w) c ((mid w).own c).seat
kept_told b moves i w c out =
    ap (λ (a : Board). a.state c) (after_told b moves i w)
    ∙ kept_state (mid w) (starts w) c w.parts.orderly (ap (λ (gs : List Going). among (channels_in gs) c) (sym (goings_told b moves i w)) ∙ out)

-- and who goes on runs
pub runs_told : (b : Board) (moves : List Move) (i : ℕ) (w : Here b moves i) (c : ℕ) → goes_in b moves i c ≡ true → boards.is_running ((board_at b moves (suc i)).state c) ≡ true
runs_told b moves i w c on =
    let on' : among (channels_in (goings_of w)) c ≡ true = ap (λ (gs : List Going). among (channels_in gs) c) (sym (goings_told b moves i w)) ∙ on in
    let g = in_channels (goings_of w) c on' in
    ap (λ (a : Board). boards.is_running (a.state c)) (after_told b moves i w) ∙ ap (λ (d : ℕ). boards.is_running ((after_goings (board_of (mid w))).state d)) (sym g.1.1)
    ∙ gone_runs (mid w) (starts w) g.0 w.parts.orderly w.parts.called g.1.0

at_shown : (t : State) (c k : ℕ) (s : Seat) → is_at (In (doing_of t c s)) k ≡ is_at s k
at_shown t c k (In state) = refl
at_shown t c k (Called p) = refl

ended_shown : (t : State) (c : ℕ) (s : Seat) → is_ended (In (doing_of t c s)) ≡ is_ended s
ended_shown t c (In state) = refl
ended_shown t c (Called p) = refl

runs_not_at : (s : Doing) (k : ℕ) → boards.is_running s ≡ true → (is_at (In s) k ≡ false) × (is_ended (In s) ≡ false)
runs_not_at (IsRunning g) k on = (refl, refl)
runs_not_at s k on = absurd (true≢false (sym on))

pub held_next : (b : Board) (moves : List Move) (i : ℕ) (w : Here b moves i) → HeldIn w → Held b moves (suc i)
unfolding own_at
held_next b moves i w held = record {
  stands = λ c k on.
      let r = waits c k on in
      let quiet : (ready (mid w) c && is_at ((mid w).own c).seat k) ≡ false = elim (cases_Bool (ready (mid w) c)) [
        | inr s ↦ and_left_off (ready (mid w) c) (is_at ((mid w).own c).seat k) s
        | inl y ↦ no (ap (λ (gs : List Going). among (channels_in gs) c) (goings_told b moves i w) ∙ quick_in_goings (mid w) (starts w) c y (at_quick ((mid w).own c).seat k r.1)) r.0
      ] in
      ap (λ (a : Board). a.marks c k) (after_told b moves i w) ∙ marks_kept (mid w) c k w.parts.orderly quiet ∙ held.stands c k r.1;
  raised = λ c k x on.
      let r = waits c k on in
      closed_last (course_of b moves) i (rows_in b moves i) (Raised c k) x ∙ sym (raised_in b moves i w c k x) ∙ held.raised c k x r.1 ∙ past_in b moves i w c x
      ∙ sym (closed_other (course_of b moves) i (rows_in b moves i) c x r.0);
  ended = λ c x on.
      let r = stops c on in
      closed_last (course_of b moves) i (rows_in b moves i) (Ended c) x ∙ held.ended c x r.1 ∙ past_in b moves i w c x ∙ sym (closed_other (course_of b moves) i (rows_in b moves i) c x r.0);
  none = subst (λ (a : Board). NobodyRobs a) (sym (after_told b moves i w)) (takings_rob_nobody CHANNEL_LIMIT (after_goes (board_of (mid w))) (goes_rob_nobody (board_of (mid w)) w.parts.orderly.none));
}
  where
    and_left_off : (x y : Bool) → x ≡ false → (x && y) ≡ false
    and_left_off true y h = no refl h
    and_left_off false y h = refl

    waits : (c k : ℕ) → is_at (In ((board_at b moves (suc i)).state c)) k ≡ true → (goes_in b moves i c ≡ false) × (is_at ((mid w).own c).seat k ≡ true)
    waits c k on = elim (cases_Bool (goes_in b moves i c)) [
      | inl y ↦ no on (runs_not_at ((board_at b moves (suc i)).state c) k (runs_told b moves i w c y)).0
      | inr n ↦ (n, sym (at_shown (mid w) c k ((mid w).own c).seat) ∙ sym (ap (λ (s : Doing). is_at (In s) k) (kept_told b moves i w c n)) ∙ on)
    ]

    stops : (c : ℕ) → is_ended (In ((board_at b moves (suc i)).state c)) ≡ true → (goes_in b moves i c ≡ false) × (is_ended ((mid w).own c).seat ≡ true)
    stops c on = elim (cases_Bool (goes_in b moves i c)) [
      | inl y ↦ no on (runs_not_at ((board_at b moves (suc i)).state c) 0 (runs_told b moves i w c y)).1
      | inr n ↦ (n, sym (ended_shown (mid w) c ((mid w).own c).seat) ∙ sym (ap (λ (s : Doing). is_ended (In s)) (kept_told b moves i w c n)) ∙ on)
    ]

awake_not_at : (s : Doing) (k : ℕ) → (boards.is_idle s || boards.is_running s) ≡ true → is_at (In s) k ≡ false
awake_not_at IsIdle k on = refl
awake_not_at (IsRunning g) k on = refl
awake_not_at s k on = absurd (true≢false (sym on))

held_first : (b : Board) (moves : List Move) → Fresh b → Held b moves 0
unfolding own_at
held_first b moves fresh = record {
  stands = λ c k on. no on (quiet c k);
  raised = λ c k x on. refl;
  ended = λ c x on. refl;
  none = subst (λ (a : Board). NobodyRobs a) (sym (board_zero moves b)) (none_fresh b fresh);
}
  where
    quiet : (c k : ℕ) → is_at (In ((board_at b moves 0).state c)) k ≡ false
    quiet c k = ap (λ (a : Board). is_at (In (a.state c)) k) (board_zero moves b) ∙ awake_not_at (b.state c) k (fresh.awake c)

pub held_at : (b : Board) (moves : List Move) (i : ℕ) → Fresh b → AreOfRunning b moves → i ≤ length moves → Held b moves i
held_at b moves zero fresh run inside = held_first b moves fresh
held_at b moves (suc i) fresh run inside =
    let w = here b moves i fresh run (omega (arith, inside)) in
    held_next b moves i w (held_in b moves i w (held_at b moves i fresh run (omega (arith, inside))))
