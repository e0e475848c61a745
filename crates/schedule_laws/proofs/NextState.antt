-- The machine after a clean step is its turn.
use Rattle.std.proofs.Math.Path.{fun_ext}
use Rattle.std.proofs.Common.{◌≡◌, ℕ, ℤ, suc, ◌&&◌, not, Bool, List, filter, Option, Some, None, inl, inr, refl, sym, ap, ap₂, subst, ◌∙◌}
use Rattle.std.specs.Option.{option_map_or}
use Rattle.std.proofs.lemmas.Bool.{cases_Bool}
use Rattle.sync_types.specs.Boards.{OwnedBy, FreeAt, Ownership, Board, among, channel_numbers, owner_of, ownership_of}
use Rattle.sync_types.specs.GoingOn.{Going, first_of}
use Rattle.sync_types.specs.Turns.{Move}
use Rattle.sync_types.specs.Views.{StartView}
use Rattle.sync_types.specs.declared.Grant.{Grant}
use Rattle.order_clocks.specs.CourseOf.{course_of}
use Rattle.order_clocks.specs.Happenings.{Freed, board_at, happening_at, of_going}
use Rattle.order_clocks.proofs.CounterLaws.{closed_last}
use Rattle.board_laws.specs.Machine.{Axis, Seat, Own, Cell, State, Effect, Clock, Span, Tenure, Place, asks, mine, ready, axes_taken, takes, taker, tenures_handed_on, span_now, next_event, cell_after_taking, settle_own, settle_axis, cell_after_release, effect, turn_by}
use Rattle.board_laws.proofs.Parts.{axis_kept, axis_freed, settle_axis_none, settle_axis_some, cases_first}
use Rattle.board_laws.proofs.Actions.{owner_is}
use Rattle.board_laws.proofs.PutBoards.{frees_mine}
use Rattle.schedule_laws.specs.Tracked.{rows_at, rows_in, part_at, actor, takes_in, tenures_in, owner_span, taken_by, tenures_at, own_at, free_position, cell_at, tracked}
use Rattle.schedule_laws.proofs.Steps.{Here, mid, going_none, actor_told}
use Rattle.schedule_laws.proofs.Opened.{count_in, freed_in, frees_told}
use Rattle.schedule_laws.proofs.GoRows.{goer}
use Rattle.schedule_laws.proofs.NextTurn.{Tidy, goes_all, board_next, seat_next, if_true, if_false}
use Rattle.schedule_laws.proofs.NextOwn.{lowered_next, needs_next, took_next, started_next, past_next, count_next, raised_next, log_next, grants_next, spans_next}

abbrev own_made : (ℕ → Bool) → Seat → Option ℕ → (ℕ → ℤ) → List Grant → ℕ → Clock → (ℕ → Clock) → (ℕ → Span) → (ℕ → Clock) → (ℕ → ℕ) → (ℕ → ℕ → ℕ) → (ℕ → ℕ) → (ℕ → ℕ) → Own
own_made marks seat program last_position grants count past log spans raised lowered needs took started = record {
  marks = marks;
  seat = seat;
  program = program;
  last_position = last_position;
  grants = grants;
  count = count;
  past = past;
  log = log;
  spans = spans;
  raised = raised;
  lowered = lowered;
  needs = needs;
  took = took;
  started = started;
}

own_eq : (o u : Own) → o.marks ≡ u.marks → o.seat ≡ u.seat → o.program ≡ u.program → o.last_position ≡ u.last_position → o.grants ≡ u.grants → o.count ≡ u.count → o.past ≡ u.past → o.log ≡ u.log → o.spans ≡ u.spans → o.raised ≡ u.raised
    → o.lowered ≡ u.lowered → o.needs ≡ u.needs → o.took ≡ u.took → o.started ≡ u.started → o ≡ u
own_eq o u e1 e2 e3 place e4 e5 e6 e7 e8 e9 e10 e11 e12 e13 =
    ap (λ (z : ℕ → Bool). own_made z o.seat o.program o.last_position o.grants o.count o.past o.log o.spans o.raised o.lowered o.needs o.took o.started) e1
    ∙ ap (λ (z : Seat). own_made u.marks z o.program o.last_position o.grants o.count o.past o.log o.spans o.raised o.lowered o.needs o.took o.started) e2
    ∙ ap (λ (z : Option ℕ). own_made u.marks u.seat z o.last_position o.grants o.count o.past o.log o.spans o.raised o.lowered o.needs o.took o.started) e3
    ∙ ap (λ (z : ℕ → ℤ). own_made u.marks u.seat u.program z o.grants o.count o.past o.log o.spans o.raised o.lowered o.needs o.took o.started) place
    ∙ ap (λ (z : List Grant). own_made u.marks u.seat u.program u.last_position z o.count o.past o.log o.spans o.raised o.lowered o.needs o.took o.started) e4
    ∙ ap (λ (z : ℕ). own_made u.marks u.seat u.program u.last_position u.grants z o.past o.log o.spans o.raised o.lowered o.needs o.took o.started) e5
    ∙ ap (λ (z : Clock). own_made u.marks u.seat u.program u.last_position u.grants u.count z o.log o.spans o.raised o.lowered o.needs o.took o.started) e6
    ∙ ap (λ (z : ℕ → Clock). own_made u.marks u.seat u.program u.last_position u.grants u.count u.past z o.spans o.raised o.lowered o.needs o.took o.started) e7
    ∙ ap (λ (z : ℕ → Span). own_made u.marks u.seat u.program u.last_position u.grants u.count u.past u.log z o.raised o.lowered o.needs o.took o.started) e8
    ∙ ap (λ (z : ℕ → Clock). own_made u.marks u.seat u.program u.last_position u.grants u.count u.past u.log u.spans z o.lowered o.needs o.took o.started) e9
    ∙ ap (λ (z : ℕ → ℕ). own_made u.marks u.seat u.program u.last_position u.grants u.count u.past u.log u.spans u.raised z o.needs o.took o.started) e10
    ∙ ap (λ (z : ℕ → ℕ → ℕ). own_made u.marks u.seat u.program u.last_position u.grants u.count u.past u.log u.spans u.raised u.lowered z o.took o.started) e11
    ∙ ap (λ (z : ℕ → ℕ). own_made u.marks u.seat u.program u.last_position u.grants u.count u.past u.log u.spans u.raised u.lowered u.needs z o.started) e12
    ∙ ap (λ (z : ℕ → ℕ). own_made u.marks u.seat u.program u.last_position u.grants u.count u.past u.log u.spans u.raised u.lowered u.needs u.took z) e13

own_next : (b : Board) (moves : List Move) (i : ℕ) (q : Tidy b moves i) (c : ℕ) → own_at b moves (suc i) c ≡ settle_own (mid q.here) c
unfolding own_at
own_next b moves i q c = own_eq (own_at b moves (suc i) c) (settle_own (mid q.here) c)
    (ap (λ (a : Board). a.marks c) (board_next b moves i q))
    (seat_next b moves i q c)
    (ap (λ (a : Board). a.program c) (board_next b moves i q))
    (ap (λ (a : Board). a.last_position c) (board_next b moves i q))
    (grants_next b moves i q c)
    (count_next b moves i q c)
    (fun_ext λ x. past_next b moves i q c x)
    (log_next b moves i q c)
    (spans_next b moves i q c)
    (fun_ext λ k. fun_ext λ x. raised_next b moves i q c k x)
    (fun_ext λ k. lowered_next b moves i q c k)
    (fun_ext λ d. fun_ext λ k. needs_next b moves i q c d k)
    (fun_ext λ x. took_next b moves i q c x)
    (fun_ext λ y. started_next b moves i q c y)

-- axes
abbrev cell_made : Option ℕ → ℤ → Clock → List Tenure → Cell
cell_made owner position freed tenures = record { owner = owner; position = position; freed = freed; tenures = tenures }

cell_eq : (a z : Cell) → a.owner ≡ z.owner → a.position ≡ z.position → a.freed ≡ z.freed → a.tenures ≡ z.tenures → a ≡ z
cell_eq a z e1 e2 e3 e4 =
    ap (λ (o : Option ℕ). cell_made o a.position a.freed a.tenures) e1
    ∙ ap (λ (p : ℤ). cell_made z.owner p a.freed a.tenures) e2
    ∙ ap (λ (f : Clock). cell_made z.owner z.position f a.tenures) e3
    ∙ ap (λ (ts : List Tenure). cell_made z.owner z.position z.freed ts) e4

abbrev IsPlain : Cell → Type 0
IsPlain z = free_position (ownership_of z.owner z.position) ≡ z.position

cell_plain : (b : Board) (moves : List Move) (i x : ℕ) → IsPlain (cell_at b moves i x)
unfolding cell_at
cell_plain b moves i x = go ((board_at b moves i).axis x)
  where
    go : (a : Ownership) → free_position (ownership_of (owner_of a) (free_position a)) ≡ free_position a
    go (OwnedBy c) = refl
    go (FreeAt p) = refl

released_plain : (t : State) (p : ℕ) (e : Effect) (x : ℕ) → IsPlain (cell_after_release t p e x)
unfolding cell_after_release
released_plain t p e x = refl

given_plain : (t : State) (c : ℕ) (z : Cell) → IsPlain (cell_after_taking t (Some c) z)
unfolding cell_after_taking
given_plain t c z = refl

mid_plain : (b : Board) (moves : List Move) (i : ℕ) (w : Here b moves i) (x : ℕ) → IsPlain ((mid w).axis x)
mid_plain b moves i w x = elim (cases_Bool ((effect (tracked b moves i) w.p w.step).frees x)) [
  | inl on ↦ subst (λ (z : Cell). IsPlain z) (sym (axis_freed (tracked b moves i) w.p (effect (tracked b moves i) w.p w.step) x on (frees_mine (tracked b moves i) w.p w.step x on))) (released_plain (tracked b moves i) w.p (effect (tracked b moves i) w.p w.step) x)
  | inr off ↦ subst (λ (z : Cell). IsPlain z) (sym (axis_kept (tracked b moves i) w.p (effect (tracked b moves i) w.p w.step) x off)) (cell_plain b moves i x)
]

settle_plain : (b : Board) (moves : List Move) (i : ℕ) (w : Here b moves i) (x : ℕ) → IsPlain (settle_axis (mid w) x)
settle_plain b moves i w x = elim (cases_first (taker (mid w) x)) [
  | inl none ↦ subst (λ (z : Cell). IsPlain z) (sym (settle_axis_none (mid w) x none)) (mid_plain b moves i w x)
  | inr c ↦ subst (λ (z : Cell). IsPlain z) (sym (settle_axis_some (mid w) x c.0 c.1)) (given_plain (mid w) c.0 ((mid w).axis x))
]

taking_is : (t : State) (c : ℕ) (s : Seat) (x : ℕ) → axes_taken t c s x ≡ (asks s (Axis x) && not (mine t c x))
unfolding axes_taken
taking_is t c s x = refl

-- who takes an axis
takes_told : (b : Board) (moves : List Move) (i : ℕ) (q : Tidy b moves i) (x c : ℕ) → takes_in b moves i x c ≡ takes (mid q.here) x c
unfolding takes
takes_told b moves i q x c = elim (cases_Bool (ready (mid q.here) c)) [
  | inl r ↦
      let g = goer b moves i q.here c (goes_all b moves i q c ∙ r) in
      ap (λ (o : Option Going). of_going o (λ g. among g.took x)) g.found ∙ g.took x ∙ taking_is (mid q.here) c ((mid q.here).own c).seat x ∙ sym (ap (λ (z : Bool). z && (asks ((mid q.here).own c).seat (Axis x) && not (mine (mid q.here) c x))) r)
  | inr s ↦
      ap (λ (o : Option Going). of_going o (λ g. among g.took x)) (going_none (happening_at b moves i).goings c (goes_all b moves i q c ∙ s))
      ∙ sym (ap (λ (z : Bool). z && (asks ((mid q.here).own c).seat (Axis x) && not (mine (mid q.here) c x))) s)
]

taker_told : (b : Board) (moves : List Move) (i : ℕ) (q : Tidy b moves i) (x : ℕ) → first_of (filter (takes_in b moves i x) channel_numbers) ≡ taker (mid q.here) x
taker_told b moves i q x = ap (λ (f : ℕ → Bool). first_of (filter f channel_numbers)) (fun_ext λ c. takes_told b moves i q x c)

given_tenures : (t : State) (c : ℕ) (z : Cell) → (cell_after_taking t (Some c) z).tenures ≡ tenures_handed_on (Some c) (span_now t z.owner) (next_event t c) z.tenures
unfolding cell_after_taking
given_tenures t c z = refl

given_clock : (t : State) (c : ℕ) (z : Cell) → (cell_after_taking t (Some c) z).freed ≡ z.freed
unfolding cell_after_taking
given_clock t c z = refl

released_tenures : (t : State) (p : ℕ) (e : Effect) (x : ℕ) → (cell_after_release t p e x).tenures ≡ tenures_handed_on None (t.own p).count (next_event t p) (t.axis x).tenures
unfolding cell_after_release
released_tenures t p e x = refl

tenures_own : (b : Board) (moves : List Move) (i x : ℕ) → (cell_at b moves i x).tenures ≡ tenures_at b moves i x
unfolding cell_at
tenures_own b moves i x = refl

count_own : (b : Board) (moves : List Move) (i c : ℕ) → (own_at b moves i c).count ≡ (rows_at b moves i).past c c
unfolding own_at
count_own b moves i c = refl

abbrev place_made : ℕ → ℕ → Place
place_made c n = record { channel = c; place = suc n }

tenures_mid : (b : Board) (moves : List Move) (i : ℕ) (w : Here b moves i) (x : ℕ) → tenures_in b moves i (tenures_at b moves i x) x ≡ ((mid w).axis x).tenures
tenures_mid b moves i w x = elim (cases_Bool ((effect (tracked b moves i) w.p w.step).frees x)) [
  | inl on ↦
      if_true (among (happening_at b moves i).frees x)
      (tenures_handed_on None ((rows_at b moves i).past (actor b moves i) (actor b moves i)) (place_made (actor b moves i) ((rows_at b moves i).past (actor b moves i) (actor b moves i))) (tenures_at b moves i x)) (tenures_at b moves i x)
      (frees_told b moves i w x ∙ on)
      ∙ ap (λ (p : ℕ). tenures_handed_on None ((rows_at b moves i).past p p) (place_made p ((rows_at b moves i).past p p)) (tenures_at b moves i x)) (actor_told b moves i w)
      ∙ ap₂ (λ (n : ℕ) (ts : List Tenure). tenures_handed_on None n (place_made w.p n) ts) (sym (count_own b moves i w.p)) (sym (tenures_own b moves i x))
      ∙ sym (ap (λ (z : Cell). z.tenures) (axis_freed (tracked b moves i) w.p (effect (tracked b moves i) w.p w.step) x on (frees_mine (tracked b moves i) w.p w.step x on))
      ∙ released_tenures (tracked b moves i) w.p (effect (tracked b moves i) w.p w.step) x)
  | inr off ↦
      if_false (among (happening_at b moves i).frees x)
      (tenures_handed_on None ((rows_at b moves i).past (actor b moves i) (actor b moves i)) (place_made (actor b moves i) ((rows_at b moves i).past (actor b moves i) (actor b moves i))) (tenures_at b moves i x)) (tenures_at b moves i x)
      (frees_told b moves i w x ∙ off)
      ∙ sym (ap (λ (z : Cell). z.tenures) (axis_kept (tracked b moves i) w.p (effect (tracked b moves i) w.p w.step) x off) ∙ tenures_own b moves i x)
]

-- who has an axis within the step, and in which of its spans it is
owner_mid : (b : Board) (moves : List Move) (i : ℕ) (w : Here b moves i) (x : ℕ) → owner_of ((part_at b moves i).axis x) ≡ ((mid w).axis x).owner
owner_mid b moves i w x = ap (λ (a : Board). owner_of (a.axis x)) (w.part ∙ w.parts.board) ∙ owner_is ((mid w).axis x).owner ((mid w).axis x).position

span_mid : (b : Board) (moves : List Move) (i : ℕ) (w : Here b moves i) (x : ℕ) → owner_span b moves i x ≡ span_now (mid w) ((mid w).axis x).owner
span_mid b moves i w x = ap (λ (o : Option ℕ). option_map_or (λ d. (rows_in b moves i).past d d) o 0) (owner_mid b moves i w x) ∙ by_owner ((mid w).axis x).owner
  where
    by_owner : (o : Option ℕ) → option_map_or (λ d. (rows_in b moves i).past d d) o 0 ≡ span_now (mid w) o
    by_owner None = refl
    by_owner (Some c) = sym (count_in b moves i w c)

tenures_next : (b : Board) (moves : List Move) (i : ℕ) (q : Tidy b moves i) (x : ℕ) → tenures_at b moves (suc i) x ≡ (settle_axis (mid q.here) x).tenures
tenures_next b moves i q x =
    ap₂ (λ (o : Option ℕ) (ts : List Tenure). taken_by b moves i x o ts) (taker_told b moves i q x) (tenures_mid b moves i q.here x) ∙ elim (cases_first (taker (mid q.here) x)) [
      | inl none ↦ ap (λ (o : Option ℕ). taken_by b moves i x o ((mid q.here).axis x).tenures) none ∙ sym (ap (λ (z : Cell). z.tenures) (settle_axis_none (mid q.here) x none))
      | inr c ↦
          ap (λ (o : Option ℕ). taken_by b moves i x o ((mid q.here).axis x).tenures) c.1
          ∙ ap₂ (λ (n : ℕ) (m : ℕ). tenures_handed_on (Some c.0) n (place_made c.0 m) ((mid q.here).axis x).tenures) (span_mid b moves i q.here x) (sym (count_in b moves i q.here c.0))
          ∙ sym (ap (λ (z : Cell). z.tenures) (settle_axis_some (mid q.here) x c.0 c.1) ∙ given_tenures (mid q.here) c.0 ((mid q.here).axis x))
    ]

freed_next : (b : Board) (moves : List Move) (i : ℕ) (q : Tidy b moves i) (a x : ℕ) → (rows_at b moves (suc i)).last (Freed a) x ≡ (settle_axis (mid q.here) a).freed x
freed_next b moves i q a x =
    closed_last (course_of b moves) i (rows_in b moves i) (Freed a) x ∙ sym (freed_in b moves i q.here a x) ∙ elim (cases_first (taker (mid q.here) a)) [
      | inl none ↦ sym (ap (λ (z : Cell). z.freed x) (settle_axis_none (mid q.here) a none))
      | inr c ↦ sym (ap (λ (z : Cell). z.freed x) (settle_axis_some (mid q.here) a c.0 c.1) ∙ ap (λ (f : Clock). f x) (given_clock (mid q.here) c.0 ((mid q.here).axis a)))
    ]

cell_next : (b : Board) (moves : List Move) (i : ℕ) (q : Tidy b moves i) (x : ℕ) → cell_at b moves (suc i) x ≡ settle_axis (mid q.here) x
unfolding cell_at
cell_next b moves i q x =
    let axis : (board_at b moves (suc i)).axis x ≡ ownership_of (settle_axis (mid q.here) x).owner (settle_axis (mid q.here) x).position = ap (λ (a : Board). a.axis x) (board_next b moves i q) in
    cell_eq (cell_at b moves (suc i) x) (settle_axis (mid q.here) x)
    (ap owner_of axis ∙ owner_is (settle_axis (mid q.here) x).owner (settle_axis (mid q.here) x).position)
    (ap free_position axis ∙ settle_plain b moves i q.here x)
    (fun_ext λ c. freed_next b moves i q x c)
    (tenures_next b moves i q x)

-- the run after the step is the machine's turn
pub tracked_next : (b : Board) (moves : List Move) (i : ℕ) (q : Tidy b moves i) → tracked b moves (suc i) ≡ turn_by (tracked b moves i) q.here.p q.here.step
tracked_next b moves i q =
    state_eq_all (board_at b moves (suc i)).start (mid q.here).start (own_at b moves (suc i)) (settle_own (mid q.here)) (cell_at b moves (suc i)) (settle_axis (mid q.here)) (board_at b moves (suc i)).is_on (mid q.here).on
    (ap (λ (a : Board). a.start) (board_next b moves i q)) (fun_ext λ c. own_next b moves i q c) (fun_ext λ x. cell_next b moves i q x) (ap (λ (a : Board). a.is_on) (board_next b moves i q))
  where
    state_made : StartView → (ℕ → Own) → (ℕ → Cell) → (ℕ → Bool) → State
    state_made s o a f = record { start = s; own = o; axis = a; on = f }

    state_eq_all : (s s' : StartView) (o o' : ℕ → Own) (a a' : ℕ → Cell) (f f' : ℕ → Bool) → s ≡ s' → o ≡ o' → a ≡ a' → f ≡ f' → state_made s o a f ≡ state_made s' o' a' f'
    state_eq_all s s' o o' a a' f f' e1 e2 e3 e4 =
        ap (λ (z : StartView). state_made z o a f) e1 ∙ ap (λ (z : ℕ → Own). state_made s' z a f) e2 ∙ ap (λ (z : ℕ → Cell). state_made s' o' z f) e3 ∙ ap (λ (z : ℕ → Bool). state_made s' o' a' z) e4
