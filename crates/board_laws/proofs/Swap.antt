-- The own parts in the other order.
use Rattle.std.proofs.Math.Path.{fun_ext}
use Rattle.std.proofs.Common.{◌≡◌, ℕ, suc, ◌≤◌, ◌==◌, Bool, true, false, Option, is_some, inl, inr, refl, sym, ap, subst, ◌∙◌, arith}
use Rattle.std.proofs.lemmas.Bool.{cases_Bool, eqb-true, true≢false}
use Rattle.sync_types.specs.Boards.{IsRunning, is_this}
use Rattle.sync_types.specs.declared.Step.{Step}
use Rattle.board_laws.specs.Machine.{Mark, Call, Seat, In, Called, Own, Cell, State, Effect, asks, is_idle, is_running, mine, ready, holds_zone, settle_own, settle, own_after_call, put_own, put_axis, put_on, with_effect, touches, effect}
use Rattle.board_laws.specs.Clean.{ActClean, MarkChange, Stays, Raises, Lowers, IsAct, Inv, Rests}
use Rattle.board_laws.proofs.Basics.{no, running_ready, running_asks, ready_awake}
use Rattle.board_laws.proofs.Parts.{settle_goes, settle_stays, gone_seat, gone_program, put_same, put_other, touched_awake, touched_off, touched_seat, axis_off, axis_kept, axis_freed, released_free, of_other}
use Rattle.board_laws.proofs.Absorb.{other_kept, put_axis_agree, called_only, mine_other, mine_settle, zone_apart, state_eq}
use Rattle.board_laws.proofs.Bounds.{q_stays, started_same, joint_asks}
use Rattle.board_laws.proofs.Forward.{Between, needs_kept}
use Rattle.board_laws.proofs.Invariants.{put_inv}
use Rattle.board_laws.proofs.Actions.{effect_agree}

pub running_awake : (s : Seat) → is_running s ≡ true → is_idle s ≡ false
running_awake (In (IsRunning g)) r = refl
running_awake s r = absurd (true≢false (sym r))

pub runner_put : (b : State) (p q : ℕ) (e : Effect) → (q == p) ≡ false → is_running (b.own q).seat ≡ true → put_own b p e q ≡ b.own q
runner_put b p q e other run = put_other b p e q other ∙ touched_awake e p q (b.own q) (running_awake (b.own q).seat run)

-- the goings change nothing that a step reads
pub effect_settle : (t : State) (q : ℕ) (step : Step) → is_running (t.own q).seat ≡ true → effect (settle t) q step ≡ effect t q step
effect_settle t q step run = effect_agree (settle t) t q step (record {
  start = refl;
  own = q_stays t q run;
  mine = λ a. mine_settle t q a (running_ready t q (t.own q).seat run);
  idle = λ c on. elim (cases_Bool (ready t c)) [
    | inl g ↦ ap (λ (o : Own). is_idle o.seat) (settle_goes t c g) ∙ ap (λ (s : Seat). is_idle s) (gone_seat t c) ∙ sym (ready_awake t c (t.own c).seat g)
    | inr s ↦ ap (λ (o : Own). is_idle o.seat) (settle_stays t c s)
  ];
  chosen = λ c on. elim (cases_Bool (ready t c)) [
    | inl g ↦ ap (λ (o : Own). is_some o.program) (settle_goes t c g) ∙ ap (λ (s : Option ℕ). is_some s) (gone_program t c)
    | inr s ↦ ap (λ (o : Own). is_some o.program) (settle_stays t c s)
  ];
})

-- nor does another's own part, where the two name no one channel
pub effect_put : (b : State) (p q : ℕ) (names : ℕ → Bool) (e : Effect) (step : Step) → IsAct p (b.own p) names e → is_running (b.own p).seat ≡ true → (q == p) ≡ false
    → is_running (b.own q).seat ≡ true → ((y : ℕ) → touches step.action y ≡ true → names y ≡ false) → effect (with_effect b p e) q step ≡ effect b q step
effect_put b p q names e step act run other run_q disjoint = effect_agree (with_effect b p e) b q step (record {
  start = refl;
  own = runner_put b p q e other run_q;
  mine = λ a. mine_other b p e q a other;
  idle = λ y on. elim (cases_Bool (y == p)) [
    | inl i ↦
        let s : y ≡ p = eqb-true y p i in
        ap (λ (z : ℕ). is_idle (put_own b p e z).seat) s ∙ ap (λ (o : Own). is_idle o.seat) (put_same b p e) ∙ act.awake
        ∙ sym (ap (λ (z : ℕ). is_idle (b.own z).seat) s ∙ running_awake (b.own p).seat run)
    | inr n ↦ ap (λ (o : Own). is_idle o.seat) (put_other b p e y n ∙ touched_off e p y (b.own y) (act.calls y (disjoint y on)) (act.selects y (disjoint y on)))
  ];
  chosen = λ y on. elim (cases_Bool (y == p)) [
    | inl i ↦
        let s : y ≡ p = eqb-true y p i in
        ap (λ (z : ℕ). is_some (put_own b p e z).program) s ∙ ap (λ (o : Own). is_some o.program) (put_same b p e) ∙ ap (λ (o : Option ℕ). is_some o) act.program
        ∙ sym (ap (λ (z : ℕ). is_some (b.own z).program) s)
    | inr n ↦ ap (λ (o : Own). is_some o.program) (put_other b p e y n ∙ touched_off e p y (b.own y) (act.calls y (disjoint y on)) (act.selects y (disjoint y on)))
  ];
})

of_after : (b : State) (p q : ℕ) (h : Effect) (a : ℕ) → mine b p a ≡ false → is_this (put_axis b q h a).owner p ≡ false
of_after b p q h a off = elim (cases_Bool (mine b q a)) [
  | inl held ↦ elim (cases_Bool (h.frees a)) [
    | inl y ↦ ap (λ (z : Cell). is_this z.owner p) (axis_freed b q h a y held) ∙ released_free b q h a p
    | inr n ↦ ap (λ (z : Cell). is_this z.owner p) (axis_kept b q h a n) ∙ off
  ]
  | inr n ↦ ap (λ (z : Cell). is_this z.owner p) (axis_off b q h a n) ∙ off
]

axis_swap : (b : State) (p q : ℕ) (e h : Effect) (a : ℕ) → (p == q) ≡ false → (put_own b p e q).count ≡ (b.own q).count → (put_own b q h p).count ≡ (b.own p).count
    → put_axis (with_effect b p e) q h a ≡ put_axis (with_effect b q h) p e a
axis_swap b p q e h a other count_q count_p = elim (cases_Bool (mine b p a)) [
  | inl held ↦
      let off : mine b q a ≡ false = of_other (b.axis a).owner p q other held in
      axis_off (with_effect b p e) q h a (of_after b q p e a off) ∙ sym (put_axis_agree (with_effect b q h) b p e a count_p (axis_off b q h a off))
  | inr off ↦
      put_axis_agree (with_effect b p e) b q h a count_q (axis_off b p e a off) ∙ sym (axis_off (with_effect b q h) p e a (of_after b p q h a off))
]

-- zones of the one are not of the other
on_swap : (b : State) (p q : ℕ) (e h : Effect) (z : ℕ) → (p == q) ≡ false → (q == p) ≡ false → put_on (with_effect b p e) q h z ≡ put_on (with_effect b q h) p e z
unfolding put_on
on_swap b p q e h z pq qp =
    let mq : holds_zone b.start (mine (with_effect b p e) q) q z ≡ holds_zone b.start (mine b q) q z = ap (λ (f : ℕ → Bool). holds_zone b.start f q z) (fun_ext λ a. mine_other b p e q a qp) in
    let mp : holds_zone b.start (mine (with_effect b q h) p) p z ≡ holds_zone b.start (mine b p) p z = ap (λ (f : ℕ → Bool). holds_zone b.start f p z) (fun_ext λ a. mine_other b q h p a pq) in
    elim (cases_Bool (holds_zone b.start (mine b p) p z)) [
      | inl y ↦ elim (cases_Bool (holds_zone b.start (mine b q) q z)) [
        | inl x ↦ zone_apart b.start (mine b p) (mine b q) p q z pq (λ a u v. no v (of_other (b.axis a).owner p q pq u)) y x
        | inr x ↦ rw (mq, mp, y, x) refl
      ]
      | inr y ↦ rw (mq, mp, y) refl
    ]

own_swap : (b : State) (p q : ℕ) (np nq : ℕ → Bool) (e h : Effect) (c : ℕ) → IsAct p (b.own p) np e → IsAct q (b.own q) nq h → (p == q) ≡ false → (q == p) ≡ false
    → ((y : ℕ) → np y ≡ true → nq y ≡ false) → put_own (with_effect b p e) q h c ≡ put_own (with_effect b q h) p e c
own_swap b p q np nq e h c act_p act_q pq qp disjoint = elim (cases_Bool (c == p)) [
  | inl i ↦
      let s : c ≡ p = eqb-true c p i in
      let left : put_own (with_effect b p e) q h p ≡ e.own =
      put_other (with_effect b p e) q h p pq ∙ ap (λ (o : Own). own_after_call h q p o) (put_same b p e) ∙ touched_awake h q p e.own act_p.awake in
      ap (λ (z : ℕ). put_own (with_effect b p e) q h z) s ∙ left ∙ sym (ap (λ (z : ℕ). put_own (with_effect b q h) p e z) s ∙ put_same (with_effect b q h) p e)
  | inr n ↦ elim (cases_Bool (c == q)) [
    | inl i ↦
        let s : c ≡ q = eqb-true c q i in
        let right : put_own (with_effect b q h) p e q ≡ h.own =
        put_other (with_effect b q h) p e q qp ∙ ap (λ (o : Own). own_after_call e p q o) (put_same b q h) ∙ touched_awake e p q h.own act_q.awake in
        ap (λ (z : ℕ). put_own (with_effect b p e) q h z) s ∙ put_same (with_effect b p e) q h ∙ sym (ap (λ (z : ℕ). put_own (with_effect b q h) p e z) s ∙ right)
    | inr m ↦
        put_other (with_effect b p e) q h c m ∙ ap (λ (o : Own). own_after_call h q c o) (put_other b p e c n)
        ∙ touches
        ∙ sym (put_other (with_effect b q h) p e c n ∙ ap (λ (o : Own). own_after_call e p c o) (put_other b q h c m))
  ]
]
  where
    touches : own_after_call h q c (own_after_call e p c (b.own c)) ≡ own_after_call e p c (own_after_call h q c (b.own c))
    touches = elim (cases_Bool (np c)) [
      | inl y ↦
          let off = disjoint c y in
          touched_off h q c (own_after_call e p c (b.own c)) (act_q.calls c off) (act_q.selects c off)
          ∙ sym (ap (λ (o : Own). own_after_call e p c o) (touched_off h q c (b.own c) (act_q.calls c off) (act_q.selects c off)))
      | inr off ↦
          ap (λ (o : Own). own_after_call h q c o) (touched_off e p c (b.own c) (act_p.calls c off) (act_p.selects c off))
          ∙ sym (touched_off e p c (own_after_call h q c (b.own c)) (act_p.calls c off) (act_p.selects c off))
    ]

pub put_swap : (b : State) (p q : ℕ) (np nq : ℕ → Bool) (e h : Effect) → IsAct p (b.own p) np e → IsAct q (b.own q) nq h → (p == q) ≡ false → (q == p) ≡ false
    → ((y : ℕ) → np y ≡ true → nq y ≡ false) → with_effect (with_effect b p e) q h ≡ with_effect (with_effect b q h) p e
put_swap b p q np nq e h act_p act_q pq qp disjoint =
    state_eq b.start (put_own (with_effect b p e) q h) (put_own (with_effect b q h) p e) (put_axis (with_effect b p e) q h) (put_axis (with_effect b q h) p e) (put_on (with_effect b p e) q h) (put_on (with_effect b q h) p e)
    (fun_ext λ c. own_swap b p q np nq e h c act_p act_q pq qp disjoint)
    (fun_ext λ a. axis_swap b p q e h a pq (other_kept b p q e qp).count (other_kept b q p h pq).count)
    (fun_ext λ z. on_swap b p q e h z pq qp)

-- after the first own part
pub between : (b : State) (p q : ℕ) (np nq : ℕ → Bool) (e h : Effect) → Rests b → IsAct p (b.own p) np e → IsAct q (b.own q) nq h → (p == q) ≡ false → (q == p) ≡ false
    → is_running (b.own q).seat ≡ true → Between (with_effect b p e) q nq h
between b p q np nq e h rests act_p act_q pq qp run_q =
    let here : put_own b p e q ≡ b.own q = runner_put b p q e qp run_q in
    record {
      runs = ap (λ (o : Own). is_running o.seat) here ∙ run_q;
      act = subst (λ (o : Own). IsAct q o nq h) (sym here) act_q;
      called = λ c r y. elim (cases_Bool (c == p)) [
        | inl i ↦
            let same : put_own b p e c ≡ e.own = ap (λ (z : ℕ). put_own b p e z) (eqb-true c p i) ∙ put_same b p e in
            no (ap (λ (o : Own). asks o.seat (Call r)) (sym same) ∙ y) (act_p.uncalled r)
        | inr n ↦
            let y' : asks (own_after_call e p c (b.own c)).seat (Call r) ≡ true = ap (λ (o : Own). asks o.seat (Call r)) (sym (put_other b p e c n)) ∙ y in
            elim (touched_seat e p c (b.own c)) [
              | inl s ↦ no (ap (λ (x : Seat). asks x (Call r)) (sym s) ∙ y') (rests.uncalled c r)
              | inr w ↦
                  let z : asks (Called p) (Call r) ≡ true = ap (λ (x : Seat). asks x (Call r)) (sym w.1) ∙ y' in
                  ap (λ (x : ℕ). x == q) (called_only p r z) ∙ pq
            ]
      ];
      inv = put_inv b p np e rests.inv act_p;
    }

-- the two name no one channel
pub disjoint_names : (b : State) (p q : ℕ) (np nq : ℕ → Bool) (e h : Effect) → Rests b → IsAct p (b.own p) np e → (p == q) ≡ false → (q == p) ≡ false
    → is_running (b.own q).seat ≡ true → ActClean (settle (with_effect b p e)) q nq h → (y : ℕ) → np y ≡ true → nq y ≡ false
disjoint_names b p q np nq e h rests act_p pq qp run_q act y on = elim (cases_Bool (nq y)) [
  | inr off ↦ off
  | inl also ↦
      let l = act.starting p y also pq in
      let here : put_own b p e q ≡ b.own q = runner_put b p q e qp run_q in
      let run : is_running (put_own b p e q).seat ≡ true = ap (λ (o : Own). is_running o.seat) here ∙ run_q in
      let left : (settle_own (with_effect b p e) p).started y ≡ suc (b.own p).count =
      started_same (with_effect b p e) p y ∙ ap (λ (o : Own). o.started y) (put_same b p e) ∙ act_p.named y on in
      let right : (settle_own (with_effect b p e) q).past p ≡ (b.own q).past p = ap (λ (o : Own). o.past p) (q_stays (with_effect b p e) q run ∙ here) in
      let bound = rests.inv.past q p in
      absurd (omega (arith, l, left, right, bound))
]

lowered_put : (b : State) (p : ℕ) (np : ℕ → Bool) (e : Effect) (d k : ℕ) → Inv b → IsAct p (b.own p) np e → (b.own d).lowered k ≤ (put_own b p e d).lowered k
lowered_put b p np e d k inv act = elim (cases_Bool (d == p)) [
  | inl i ↦
      let s : d ≡ p = eqb-true d p i in
      let same : (put_own b p e d).lowered k ≡ e.own.lowered k = ap (λ (o : Own). o.lowered k) (ap (λ (z : ℕ). put_own b p e z) s ∙ put_same b p e) in
      let old : (b.own d).lowered k ≡ (b.own p).lowered k = ap (λ (z : ℕ). (b.own z).lowered k) s in
      let up : (b.own p).lowered k ≤ e.own.lowered k = go (act.mark k) (inv.lowered p k) in
      omega (arith, same, old, up)
  | inr n ↦ let l : (put_own b p e d).lowered k ≡ (b.own d).lowered k = ap (λ (f : ℕ → ℕ). f k) (other_kept b p d e n).lowered in omega (arith, l)
]
  where
    go : MarkChange (b.own p) e.own k → (b.own p).lowered k ≤ (b.own p).count → (b.own p).lowered k ≤ e.own.lowered k
    go (Stays m r i) l = rw i (omega arith)
    go (Raises u v r i) l = rw i (omega arith)
    go (Lowers u v r i) l = rw i (omega (arith, l))

started_put : (b : State) (p : ℕ) (np : ℕ → Bool) (e : Effect) (d y : ℕ) → Inv b → IsAct p (b.own p) np e → (b.own d).started y ≤ (put_own b p e d).started y
started_put b p np e d y inv act = elim (cases_Bool (d == p)) [
  | inl i ↦
      let s : d ≡ p = eqb-true d p i in
      let same : (put_own b p e d).started y ≡ e.own.started y = ap (λ (o : Own). o.started y) (ap (λ (z : ℕ). put_own b p e z) s ∙ put_same b p e) in
      let old : (b.own d).started y ≡ (b.own p).started y = ap (λ (z : ℕ). (b.own z).started y) s in
      let bound = inv.started p y in
      elim (cases_Bool (np y)) [
        | inl on ↦ let n = act.named y on in omega (arith, same, old, bound, n)
        | inr off ↦ let n = act.unnamed y off in omega (arith, same, old, n)
      ]
  | inr n ↦ let l : (put_own b p e d).started y ≡ (b.own d).started y = ap (λ (f : ℕ → ℕ). f y) (other_kept b p d e n).started in omega (arith, l)
]

took_put : (b : State) (p : ℕ) (np : ℕ → Bool) (e : Effect) (d a : ℕ) → IsAct p (b.own p) np e → (put_own b p e d).took a ≡ (b.own d).took a
took_put b p np e d a act = elim (cases_Bool (d == p)) [
  | inl i ↦
      let s : d ≡ p = eqb-true d p i in
      ap (λ (o : Own). o.took a) (ap (λ (z : ℕ). put_own b p e z) s ∙ put_same b p e) ∙ act.took a ∙ ap (λ (z : ℕ). (b.own z).took a) (sym s)
  | inr n ↦ ap (λ (f : ℕ → ℕ). f a) (other_kept b p d e n).took
]

-- q's Act is clean before p's, if it is after
pub act_first : (b : State) (p q : ℕ) (np nq : ℕ → Bool) (e h : Effect) → Rests b → IsAct p (b.own p) np e → (q == p) ≡ false → is_running (b.own p).seat ≡ true → is_running (b.own q).seat ≡ true
    → ActClean (with_effect b p e) q nq h → ActClean b q nq h
act_first b p q np nq e h rests act_p qp run_p run_q act =
    let here : put_own b p e q ≡ b.own q = runner_put b p q e qp run_q in
    record {
      waiting = λ d k y n.
          let l = act.waiting d k y n in
          let r : (put_own b p e q).past d ≡ (b.own q).past d = ap (λ (o : Own). o.past d) here in
          let u = lowered_put b p np e d k rests.inv act_p in
          omega (arith, l, r, u);
      lowering = λ c k on off n.
          let l = act.lowering c k (ap (λ (o : Own). o.marks k) here ∙ on) off n in
          let r : (put_own b p e q).past c ≡ (b.own q).past c = ap (λ (o : Own). o.past c) here in
          let u = needs_kept b p np e c q k act_p in
          omega (arith, l, r, u);
      unasked = λ c k on off n.
          let l = act.unasked c k (ap (λ (o : Own). o.marks k) here ∙ on) off n in
          elim (cases_Bool (c == p)) [
            | inl i ↦ ap (λ (z : ℕ). asks (b.own z).seat (Mark q k)) (eqb-true c p i) ∙ running_asks (b.own p).seat (Mark q k) run_p
            | inr m ↦ sym (joint_asks b p e c (Mark q k) m refl) ∙ l
          ];
      asking = λ d a y n.
          let l = act.asking d a y n in
          let r : (put_own b p e q).past d ≡ (b.own q).past d = ap (λ (o : Own). o.past d) here in
          let u = took_put b p np e d a act_p in
          omega (arith, l, r, u);
      starting = λ d y m n.
          let l = act.starting d y m n in
          let r : (put_own b p e q).past d ≡ (b.own q).past d = ap (λ (o : Own). o.past d) here in
          let u = started_put b p np e d y rests.inv act_p in
          omega (arith, l, r, u);
    }

-- p's Act is clean after q's, if it is before and q's is clean after it
pub act_later : (b : State) (p q : ℕ) (np nq : ℕ → Bool) (e h : Effect) → Rests b → IsAct p (b.own p) np e → IsAct q (b.own q) nq h → (p == q) ≡ false → (q == p) ≡ false
    → is_running (b.own p).seat ≡ true → is_running (b.own q).seat ≡ true → ((y : ℕ) → np y ≡ true → nq y ≡ false)
    → ActClean b p np e → ActClean (with_effect b p e) q nq h → ActClean (with_effect b q h) p np e
act_later b p q np nq e h rests act_p act_q pq qp run_p run_q disjoint first later =
    let here_p : put_own b q h p ≡ b.own p = runner_put b q p h pq run_p in
    let here_q : put_own b p e q ≡ b.own q = runner_put b p q e qp run_q in
    record {
      waiting = λ d k y n.
          let l = first.waiting d k y n in
          let r : (put_own b q h p).past d ≡ (b.own p).past d = ap (λ (o : Own). o.past d) here_p in
          elim (cases_Bool (d == q)) [
            | inl i ↦
                let s : d ≡ q = eqb-true d q i in
                let u : (put_own b q h d).lowered k ≡ (b.own d).lowered k = ap (λ (z : ℕ). (put_own b q h z).lowered k) s ∙ ap (λ (o : Own). o.lowered k) (put_same b q h)
                ∙ go (act_q.mark k) (rw s at y) ∙ ap (λ (z : ℕ). (b.own z).lowered k) (sym s) in
                omega (arith, l, r, u)
            | inr m ↦ let u : (put_own b q h d).lowered k ≡ (b.own d).lowered k = ap (λ (f : ℕ → ℕ). f k) (other_kept b q d h m).lowered in omega (arith, l, r, u)
          ];
      lowering = λ c k on off n.
          let l = first.lowering c k (ap (λ (o : Own). o.marks k) (sym here_p) ∙ on) off n in
          let r : (put_own b q h p).past c ≡ (b.own p).past c = ap (λ (o : Own). o.past c) here_p in
          let u = needs_kept b q nq h c p k act_q in
          omega (arith, l, r, u);
      unasked = λ c k on off n.
          let on' : (b.own p).marks k ≡ true = ap (λ (o : Own). o.marks k) (sym here_p) ∙ on in
          elim (cases_Bool (c == q)) [
            | inl i ↦
                let s : c ≡ q = eqb-true c q i in
                let same : asks (put_own b q h c).seat (Mark p k) ≡ asks h.own.seat (Mark p k) = ap (λ (o : Own). asks o.seat (Mark p k)) (ap (λ (z : ℕ). put_own b q h z) s ∙ put_same b q h) in
                same ∙ elim (cases_Bool (asks h.own.seat (Mark p k))) [
                  | inr z ↦ z
                  | inl z ↦
                      let l = later.waiting p k z pq in
                      let low : (put_own b p e p).lowered k ≡ suc (b.own p).count = ap (λ (o : Own). o.lowered k) (put_same b p e) ∙ fresh (act_p.mark k) on' off in
                      let r : (put_own b p e q).past p ≡ (b.own q).past p = ap (λ (o : Own). o.past p) here_q in
                      let bound = rests.inv.past q p in
                      absurd (omega (arith, l, low, r, bound))
                ]
            | inr m ↦ joint_asks b q h c (Mark p k) m refl ∙ first.unasked c k on' off n
          ];
      asking = λ d a y n.
          let l = first.asking d a y n in
          let r : (put_own b q h p).past d ≡ (b.own p).past d = ap (λ (o : Own). o.past d) here_p in
          let u = took_put b q nq h d a act_q in
          omega (arith, l, r, u);
      starting = λ d y m n.
          let l = first.starting d y m n in
          let r : (put_own b q h p).past d ≡ (b.own p).past d = ap (λ (o : Own). o.past d) here_p in
          elim (cases_Bool (d == q)) [
            | inl i ↦
                let s : d ≡ q = eqb-true d q i in
                let u : (put_own b q h d).started y ≡ (b.own d).started y = ap (λ (z : ℕ). (put_own b q h z).started y) s ∙ ap (λ (o : Own). o.started y) (put_same b q h)
                ∙ act_q.unnamed y (disjoint y m) ∙ ap (λ (z : ℕ). (b.own z).started y) (sym s) in
                omega (arith, l, r, u)
            | inr z ↦ let u : (put_own b q h d).started y ≡ (b.own d).started y = ap (λ (f : ℕ → ℕ). f y) (other_kept b q d h z).started in omega (arith, l, r, u)
          ];
    }
  where
    go : {k : ℕ} → MarkChange (b.own q) h.own k → asks e.own.seat (Mark q k) ≡ true → h.own.lowered k ≡ (b.own q).lowered k
    go (Stays m r i) y = i
    go (Raises u v r i) y = i
    go {k = k} (Lowers u v r i) y =
        let here_q : put_own b p e q ≡ b.own q = runner_put b p q e qp run_q in
        let z = later.unasked p k (ap (λ (o : Own). o.marks k) here_q ∙ u) v pq in
        no y (ap (λ (o : Own). asks o.seat (Mark q k)) (sym (put_same b p e)) ∙ z)

    fresh : {k : ℕ} → MarkChange (b.own p) e.own k → (b.own p).marks k ≡ true → e.own.marks k ≡ false → e.own.lowered k ≡ suc (b.own p).count
    fresh (Stays m r i) on off = no (m ∙ on) off
    fresh (Raises u v r i) on off = no on u
    fresh (Lowers u v r i) on off = i
