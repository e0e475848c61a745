-- Within a step, after the act, the machine has the counters of the run.
use Rattle.std.proofs.Common.{◌≡◌, ℕ, suc, ◌==◌, ◌&&◌, not, Bool, true, false, List, Option, Some, None, inl, inr, refl, sym, ap, ◌∙◌, if◌then◌else◌}
use Rattle.std.proofs.lemmas.Bool.{cases_Bool, eqb-true, eq-eqb}
use Rattle.sync_types.specs.BoardActions.{after_own_part}
use Rattle.sync_types.specs.BoardAlarms.{alarm_of}
use Rattle.sync_types.specs.Boards.{Board, among}
use Rattle.sync_types.specs.Turns.{Move}
use Rattle.sync_types.specs.declared.Step.{Step}
use Rattle.order_clocks.specs.Happenings.{Happening, Key, Raised, Freed, Started, Ended, happening_at, gives}
use Rattle.order_clocks.specs.Happenings as happenings
use Rattle.order_clocks.specs.Counters.{act_row}
use Rattle.order_clocks.specs.CourseOf.{course_of}
use Rattle.order_clocks.proofs.CounterLaws.{opened_actor, opened_other, opened_given, opened_kept}
use Rattle.board_laws.specs.Machine.{Own, Cell, State, Effect, Clock, cell_after_release, board_of, act_clock, own_after_act, axes_freed, effect}
use Rattle.board_laws.proofs.Parts.{put_same, put_other, touched_kept, axis_kept, axis_freed}
use Rattle.board_laws.proofs.PutBoards.{frees_mine}
use Rattle.schedule_laws.specs.Tracked.{rows_at, rows_in, actor, own_at, cell_at, tracked}
use Rattle.schedule_laws.proofs.Steps.{Here, mid, starts, actor_told}

effect_past : (t : State) (p : ℕ) (step : Step) → (effect t p step).own.past ≡ act_clock p (t.own p)
unfolding effect own_after_act
effect_past t p step = refl

effect_raised : (t : State) (p : ℕ) (step : Step) (k : ℕ)
    → (effect t p step).own.raised k ≡ (if (after_own_part (board_of t) p step).marks p k && not ((t.own p).marks k) then act_clock p (t.own p) else (t.own p).raised k)
unfolding effect own_after_act
effect_raised t p step k = refl

effect_frees : (t : State) (p : ℕ) (step : Step) (x : ℕ) → (effect t p step).frees x ≡ among (axes_freed (alarm_of (board_of t) p step.action) step.action) x
unfolding effect
effect_frees t p step x = refl

past_at : (b : Board) (moves : List Move) (i c : ℕ) → (own_at b moves i c).past ≡ (rows_at b moves i).past c
unfolding own_at
past_at b moves i c = refl

count_at : (b : Board) (moves : List Move) (i c : ℕ) → (own_at b moves i c).count ≡ (rows_at b moves i).past c c
unfolding own_at
count_at b moves i c = refl

raised_at : (b : Board) (moves : List Move) (i c k : ℕ) → (own_at b moves i c).raised k ≡ (rows_at b moves i).last (Raised c k)
unfolding own_at
raised_at b moves i c k = refl

freed_at : (b : Board) (moves : List Move) (i x : ℕ) → (cell_at b moves i x).freed ≡ (rows_at b moves i).last (Freed x)
unfolding cell_at
freed_at b moves i x = refl

marks_at : (b : Board) (moves : List Move) (i c : ℕ) → (own_at b moves i c).marks ≡ (board_of (tracked b moves i)).marks c
marks_at b moves i c = refl

-- the counters of the act
pub act_told : (b : Board) (moves : List Move) (i : ℕ) (w : Here b moves i) (x : ℕ) → act_clock w.p (own_at b moves i w.p) x ≡ act_row (course_of b moves) i (rows_at b moves i) x
unfolding act_row
act_told b moves i w x =
    let e : actor b moves i ≡ w.p = actor_told b moves i w in
    elim (cases_Bool (x == w.p)) [
      | inl y ↦
          let s : x ≡ w.p = eqb-true x w.p y in
          rw (y) (ap (λ (n : ℕ). suc n) (count_at b moves i w.p ∙ ap (λ (z : ℕ). (rows_at b moves i).past w.p z) (sym s) ∙ ap (λ (z : ℕ). (rows_at b moves i).past z x) (sym e)) ∙ sym (chosen (x == actor b moves i) (rw (e) y)))
      | inr n ↦ rw (n) (ap (λ (f : Clock). f x) (past_at b moves i w.p) ∙ ap (λ (z : ℕ). (rows_at b moves i).past z x) (sym e) ∙ sym (other (x == actor b moves i) (rw (e) n)))
    ]
  where
    chosen : (t : Bool) → t ≡ true → (if t then suc ((rows_at b moves i).past (actor b moves i) x) else (rows_at b moves i).past (actor b moves i) x) ≡ suc ((rows_at b moves i).past (actor b moves i) x)
    chosen t on = rw on refl

    other : (t : Bool) → t ≡ false → (if t then suc ((rows_at b moves i).past (actor b moves i) x) else (rows_at b moves i).past (actor b moves i) x) ≡ (rows_at b moves i).past (actor b moves i) x
    other t off = rw off refl

pub past_in : (b : Board) (moves : List Move) (i : ℕ) (w : Here b moves i) (c x : ℕ) → ((mid w).own c).past x ≡ (rows_in b moves i).past c x
past_in b moves i w c x = elim (cases_Bool (c == w.p)) [
  | inl y ↦
      let s : c ≡ w.p = eqb-true c w.p y in
      ap (λ (z : ℕ). ((mid w).own z).past x) s ∙ ap (λ (o : Own). o.past x) (put_same (tracked b moves i) w.p (effect (tracked b moves i) w.p w.step))
      ∙ ap (λ (f : Clock). f x) (effect_past (tracked b moves i) w.p w.step) ∙ act_told b moves i w x
      ∙ sym (opened_actor (course_of b moves) i (rows_at b moves i) c x (actor_told b moves i w ∙ sym s))
  | inr n ↦
      ap (λ (o : Own). o.past x) (put_other (tracked b moves i) w.p (effect (tracked b moves i) w.p w.step) c n)
      ∙ ap (λ (f : Clock). f x) (touched_kept (effect (tracked b moves i) w.p w.step) w.p c (own_at b moves i c)).past ∙ ap (λ (f : Clock). f x) (past_at b moves i c)
      ∙ sym (opened_other (course_of b moves) i (rows_at b moves i) c x (ap (λ (z : ℕ). c == z) (actor_told b moves i w) ∙ n))
]

effect_count : (t : State) (p : ℕ) (step : Step) → (effect t p step).own.count ≡ suc (t.own p).count
unfolding effect own_after_act
effect_count t p step = refl

pub count_in : (b : Board) (moves : List Move) (i : ℕ) (w : Here b moves i) (c : ℕ) → ((mid w).own c).count ≡ (rows_in b moves i).past c c
count_in b moves i w c = elim (cases_Bool (c == w.p)) [
  | inl y ↦
      let s : c ≡ w.p = eqb-true c w.p y in
      ap (λ (z : ℕ). ((mid w).own z).count) s ∙ ap (λ (o : Own). o.count) (put_same (tracked b moves i) w.p (effect (tracked b moves i) w.p w.step)) ∙ effect_count (tracked b moves i) w.p w.step
      ∙ sym (self w.p (own_at b moves i w.p)) ∙ act_told b moves i w w.p ∙ ap (λ (z : ℕ). act_row (course_of b moves) i (rows_at b moves i) z) (sym s)
      ∙ sym (opened_actor (course_of b moves) i (rows_at b moves i) c c (actor_told b moves i w ∙ sym s))
  | inr n ↦
      ap (λ (o : Own). o.count) (put_other (tracked b moves i) w.p (effect (tracked b moves i) w.p w.step) c n)
      ∙ (touched_kept (effect (tracked b moves i) w.p w.step) w.p c (own_at b moves i c)).count ∙ count_at b moves i c
      ∙ sym (opened_other (course_of b moves) i (rows_at b moves i) c c (ap (λ (z : ℕ). c == z) (actor_told b moves i w) ∙ n))
]
  where
    self : (p : ℕ) (o : Own) → act_clock p o p ≡ suc o.count
    self p o = rw (eq-eqb p p refl) refl

-- what the act gives
gives_told : (b : Board) (moves : List Move) (i : ℕ) (w : Here b moves i) (k : Key) → (course_of b moves).gives i k ≡ gives (happenings.happening_of (board_of (tracked b moves i)) w.p w.step) k
gives_told b moves i w k = ap (λ (h : Happening). gives h k) w.happens

pub raised_in : (b : Board) (moves : List Move) (i : ℕ) (w : Here b moves i) (c k x : ℕ) → ((mid w).own c).raised k x ≡ (rows_in b moves i).last (Raised c k) x
raised_in b moves i w c k x = elim (cases_Bool (c == w.p)) [
  | inl y ↦
      let s : c ≡ w.p = eqb-true c w.p y in
      let new : Bool = (after_own_part (board_of (tracked b moves i)) w.p w.step).marks w.p k && not ((own_at b moves i w.p).marks k) in
      let g : (course_of b moves).gives i (Raised c k) ≡ new = gives_told b moves i w (Raised c k) ∙ ap (λ (t : Bool). t && new) y in
      ap (λ (z : ℕ). ((mid w).own z).raised k x) s ∙ ap (λ (o : Own). o.raised k x) (put_same (tracked b moves i) w.p (effect (tracked b moves i) w.p w.step)) ∙ ap (λ (f : Clock). f x) (effect_raised (tracked b moves i) w.p w.step k)
      ∙ elim (cases_Bool new) [
        | inl on ↦ picked new on ∙ act_told b moves i w x ∙ sym (opened_given (course_of b moves) i (rows_at b moves i) (Raised c k) x (g ∙ on))
        | inr off ↦ left new off ∙ ap (λ (f : Clock). f x) (raised_at b moves i w.p k) ∙ ap (λ (z : ℕ). (rows_at b moves i).last (Raised z k) x) (sym s) ∙ sym (opened_kept (course_of b moves) i (rows_at b moves i) (Raised c k) x (g ∙ off))
      ]
  | inr n ↦
      let g : (course_of b moves).gives i (Raised c k) ≡ false = gives_told b moves i w (Raised c k) ∙ ap (λ (t : Bool). t && (happenings.happening_of (board_of (tracked b moves i)) w.p w.step).raises k) n in
      ap (λ (o : Own). o.raised k x) (put_other (tracked b moves i) w.p (effect (tracked b moves i) w.p w.step) c n)
      ∙ ap (λ (f : ℕ → Clock). f k x) (touched_kept (effect (tracked b moves i) w.p w.step) w.p c (own_at b moves i c)).raised ∙ ap (λ (f : Clock). f x) (raised_at b moves i c k)
      ∙ sym (opened_kept (course_of b moves) i (rows_at b moves i) (Raised c k) x g)
]
  where
    picked : (t : Bool) → t ≡ true → (if t then act_clock w.p (own_at b moves i w.p) else (own_at b moves i w.p).raised k) x ≡ act_clock w.p (own_at b moves i w.p) x
    picked t on = ap (λ (z : Bool). (if z then act_clock w.p (own_at b moves i w.p) else (own_at b moves i w.p).raised k) x) on

    left : (t : Bool) → t ≡ false → (if t then act_clock w.p (own_at b moves i w.p) else (own_at b moves i w.p).raised k) x ≡ (own_at b moves i w.p).raised k x
    left t off = ap (λ (z : Bool). (if z then act_clock w.p (own_at b moves i w.p) else (own_at b moves i w.p).raised k) x) off

pub frees_told : (b : Board) (moves : List Move) (i : ℕ) (w : Here b moves i) (x : ℕ) → among (happening_at b moves i).frees x ≡ (effect (tracked b moves i) w.p w.step).frees x
frees_told b moves i w x = ap (λ (h : Happening). among h.frees x) w.happens ∙ go (alarm_of (board_of (tracked b moves i)) w.p w.step.action) ∙ sym (effect_frees (tracked b moves i) w.p w.step x)
  where
    go : (alarm : Option ℕ) → among (happenings.axes_freed alarm w.step.action) x ≡ among (axes_freed alarm w.step.action) x
    go (Some code) = refl
    go None = refl

released_freed : (t : State) (p : ℕ) (e : Effect) (x : ℕ) → (cell_after_release t p e x).freed ≡ e.own.past
unfolding cell_after_release
released_freed t p e x = refl

pub freed_in : (b : Board) (moves : List Move) (i : ℕ) (w : Here b moves i) (a x : ℕ) → ((mid w).axis a).freed x ≡ (rows_in b moves i).last (Freed a) x
freed_in b moves i w a x = elim (cases_Bool ((effect (tracked b moves i) w.p w.step).frees a)) [
  | inl on ↦
      ap (λ (z : Cell). z.freed x) (axis_freed (tracked b moves i) w.p (effect (tracked b moves i) w.p w.step) a on (frees_mine (tracked b moves i) w.p w.step a on))
      ∙ ap (λ (f : Clock). f x) (released_freed (tracked b moves i) w.p (effect (tracked b moves i) w.p w.step) a ∙ effect_past (tracked b moves i) w.p w.step) ∙ act_told b moves i w x
      ∙ sym (opened_given (course_of b moves) i (rows_at b moves i) (Freed a) x (frees_told b moves i w a ∙ on))
  | inr off ↦
      ap (λ (z : Cell). z.freed x) (axis_kept (tracked b moves i) w.p (effect (tracked b moves i) w.p w.step) a off) ∙ ap (λ (f : Clock). f x) (freed_at b moves i a)
      ∙ sym (opened_kept (course_of b moves) i (rows_at b moves i) (Freed a) x (frees_told b moves i w a ∙ off))
]

-- who is started hears the act
pub started_in : (b : Board) (moves : List Move) (i : ℕ) (w : Here b moves i) (c x : ℕ) → among (starts w) c ≡ true → ((mid w).own w.p).past x ≡ (rows_in b moves i).last (Started c) x
started_in b moves i w c x on =
    past_in b moves i w w.p x ∙ opened_actor (course_of b moves) i (rows_at b moves i) w.p x (actor_told b moves i w)
    ∙ sym (opened_given (course_of b moves) i (rows_at b moves i) (Started c) x (gives_told b moves i w (Started c) ∙ on))
