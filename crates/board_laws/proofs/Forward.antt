-- The half law forward: two clean steps are a clean joint step.
use Rattle.std.proofs.Common.{◌≡◌, ℕ, suc, ◌≤◌, ◌==◌, Bool, true, false, inl, inr, refl, sym, ap, ◌∙◌, arith}
use Rattle.std.proofs.lemmas.Bool.{cases_Bool, eqb-true, ne_eqb}
use Rattle.board_laws.specs.Machine.{Mark, Axis, Call, Own, Cell, State, Effect, Clock, asks, is_at, is_running, is_free, mine, ready, clock_of, go_clock, own_after_go, settle_own, settle, put_own, put_axis, with_effect}
use Rattle.board_laws.specs.Clean.{MarkClean, GoesClean, ActClean, IsAct, Inv}
use Rattle.board_laws.proofs.Basics.{no, ready_met}
use Rattle.board_laws.proofs.Parts.{settle_goes, settle_stays, gone_needs_on, put_same, of_free}
use Rattle.board_laws.proofs.Absorb.{Joint, not_q, goer_at, same_at, gone_at, other_kept, goer_cell, goes_too, same_ready, stood, clock_goes, clock_same, mine_other, mine_same, took_free}
use Rattle.board_laws.proofs.Bounds.{q_stays, lowered_up, needs_up, took_up, started_same, fresh_lowered, fresh_needs, fresh_took, joint_asks, clock_of_later}

-- a state after the first step's own part, and q's effect there
pub record Between (t : State) (q : ℕ) (names : ℕ → Bool) (h : Effect) : Type 0 where
  pub runs : is_running (t.own q).seat ≡ true
  pub act : IsAct q (t.own q) names h
  pub called : (c r : ℕ) → asks (t.own c).seat (Call r) ≡ true → (r == q) ≡ false
  pub inv : Inv t

pub differ : (t : State) (c d : ℕ) → ready t c ≡ true → ready t d ≡ false → (c == d) ≡ false
differ t c d r s = ne_eqb c d (λ e. no r (rw (sym e) at s))

pub differ_back : (t : State) (c d : ℕ) → ready t c ≡ true → ready t d ≡ false → (d == c) ≡ false
differ_back t c d r s = ne_eqb d c (λ e. no r (rw e at s))

pub joint_forward : (t : State) (q : ℕ) (names : ℕ → Bool) (h : Effect) → Between t q names h → GoesClean t → ActClean (settle t) q names h → Joint t q names h
joint_forward t q names h w goes act = record {
  runs = w.runs;
  act = w.act;
  called = w.called;
  kept = λ c k r y. elim (cases_Bool (h.own.marks k)) [
    | inl on ↦ on
    | inr off ↦
        let up : (t.own q).marks k ≡ true = stood t c q k (ready_met t c (t.own c).seat (Mark q k) r y) in
        let up' : (settle_own t q).marks k ≡ true = ap (λ (o : Own). o.marks k) (q_stays t q w.runs) ∙ up in
        absurd (fresh_needs t q c q k w.inv w.runs r y (act.lowering c k up' off (not_q t q c w.runs r)))
  ];
  apart_marks = λ c d k g at_k s. elim (cases_Bool (asks (put_own t q h c).seat (Mark d k))) [
    | inr off ↦ off
    | inl y ↦ elim (cases_Bool (c == q)) [
      | inl e ↦
          let y' : asks h.own.seat (Mark d k) ≡ true = ap (λ (o : Own). asks o.seat (Mark d k)) (sym (put_same t q h)) ∙ ap (λ (x : ℕ). asks (put_own t q h x).seat (Mark d k)) (sym (eqb-true c q e)) ∙ y in
          absurd (fresh_lowered t q d k w.inv w.runs g at_k (act.waiting d k y' (not_q t q d w.runs g)))
      | inr n ↦
          let y' : asks (t.own c).seat (Mark d k) ≡ true = sym (joint_asks t q h c (Mark d k) n refl) ∙ y in
          no ((goes.marks d c k g at_k (differ_back t d c g s)).goes y') s
    ]
  ];
  apart_axes = λ c d a r y f n. elim (cases_Bool (asks (put_own t q h d).seat (Axis a))) [
    | inr off ↦ off
    | inl z ↦ elim (cases_Bool (d == q)) [
      | inl e ↦
          let z' : asks h.own.seat (Axis a) ≡ true = ap (λ (o : Own). asks o.seat (Axis a)) (sym (put_same t q h)) ∙ ap (λ (x : ℕ). asks (put_own t q h x).seat (Axis a)) (sym (eqb-true d q e)) ∙ z in
          absurd (fresh_took t q c a w.inv w.runs r y f (act.asking c a z' (not_q t q c w.runs r)))
      | inr m ↦
          let z' : asks (t.own d).seat (Axis a) ≡ true = sym (joint_asks t q h d (Axis a) m refl) ∙ z in
          no z' (goes.axes c d a r y f n)
    ]
  ];
}

pub act_forward : (t : State) (q : ℕ) (names : ℕ → Bool) (h : Effect) → Between t q names h → ActClean (settle t) q names h → ActClean t q names h
act_forward t q names h w act =
    let sq : settle_own t q ≡ t.own q = q_stays t q w.runs in
    record {
      waiting = λ d k y n.
          let l : (settle_own t d).lowered k ≤ (t.own q).past d = rw sq at (act.waiting d k y n) in
          let u = lowered_up t d k w.inv in
          omega (arith, l, u);
      lowering = λ c k on off n.
          let on' : (settle_own t q).marks k ≡ true = ap (λ (o : Own). o.marks k) sq ∙ on in
          let l : (settle_own t c).needs q k ≤ (t.own q).past c = rw sq at (act.lowering c k on' off n) in
          let u = needs_up t c q k w.inv in
          omega (arith, l, u);
      unasked = λ c k on off n.
          let on' : (settle_own t q).marks k ≡ true = ap (λ (o : Own). o.marks k) sq ∙ on in
          elim (cases_Bool (ready t c)) [
            | inl g ↦ elim (cases_Bool (asks (t.own c).seat (Mark q k))) [
              | inl y ↦ absurd (fresh_needs t q c q k w.inv w.runs g y (act.lowering c k on' off n))
              | inr z ↦ z
            ]
            | inr s ↦ ap (λ (o : Own). asks o.seat (Mark q k)) (sym (settle_stays t c s)) ∙ act.unasked c k on' off n
          ];
      asking = λ d a y n.
          let l : (settle_own t d).took a ≤ (t.own q).past d = rw sq at (act.asking d a y n) in
          let u = took_up t d a w.inv in
          omega (arith, l, u);
      starting = λ d y m n.
          let l : (settle_own t d).started y ≤ (t.own q).past d = rw sq at (act.starting d y m n) in
          rw (started_same t d y) at l;
    }

pub needs_kept : (t : State) (q : ℕ) (names : ℕ → Bool) (h : Effect) (c d k : ℕ) → IsAct q (t.own q) names h → (put_own t q h c).needs d k ≡ (t.own c).needs d k
needs_kept t q names h c d k act = elim (cases_Bool (c == q)) [
  | inl e ↦ let s : c ≡ q = eqb-true c q e in rw (s, put_same t q h) (act.needs d k)
  | inr n ↦ ap (λ (f : ℕ → ℕ → ℕ). f d k) (other_kept t q c h n).needs
]

-- the needs in the joint state are at most those after the first step
needs_later : (t : State) (q : ℕ) (names : ℕ → Bool) (h : Effect) (c d k : ℕ) → Joint t q names h → Inv t
    → (put_own t q h c).needs d k ≤ (put_own (settle t) q h c).needs d k
needs_later t q names h c d k w inv = elim (cases_Bool (ready t c)) [
  | inl g ↦
      let u = needs_up t c d k inv in
      let v : (t.own c).needs d k ≤ (own_after_go t c).needs d k = rw (settle_goes t c g) at u in
      rw (gone_at t q c h w.runs g, goer_at t q c h w.runs g) v
  | inr s ↦ rw (same_at t q c h s) (omega arith)
]

-- the clock after the first step is the joint one
pub clock_later : (t : State) (q : ℕ) (names : ℕ → Bool) (h : Effect) (d : ℕ) → Joint t q names h → ready t d ≡ false → ready (with_effect t q h) d ≡ true
    → go_clock (with_effect (settle t) q h) d ≡ go_clock (with_effect t q h) d
clock_later t q names h d w s g =
    ap (λ (o : Own). clock_of (with_effect (settle t) q h) d o) (same_at t q d h s) ∙ clock_same t q names h w d s g

pub clock_first : (t : State) (q : ℕ) (names : ℕ → Bool) (h : Effect) (d : ℕ) → Joint t q names h → ready t d ≡ true → go_clock (with_effect t q h) d ≡ go_clock t d
clock_first t q names h d w g = ap (λ (o : Own). clock_of (with_effect t q h) d o) (goer_at t q d h w.runs g) ∙ clock_goes t q names h w d g

marks_first : (t : State) (q : ℕ) (names : ℕ → Bool) (h : Effect) (d c k : ℕ) → Joint t q names h → GoesClean t
    → ready t d ≡ true → is_at (put_own t q h d).seat k ≡ true → (c == d) ≡ false → MarkClean (with_effect t q h) d c k
marks_first t q names h d c k w goes g at_k n =
    let at_t : is_at (t.own d).seat k ≡ true = ap (λ (o : Own). is_at o.seat k) (sym (goer_at t q d h w.runs g)) ∙ at_k in
    let m = goes.marks d c k g at_t n in
    record {
      goes = λ y. elim (cases_Bool (ready t c)) [
        | inl r ↦ goes_too t q names h w c r
        | inr s ↦ no y (w.apart_marks c d k g at_t s)
      ];
      set = λ y. elim (cases_Bool (ready t c)) [
        | inl r ↦ rw (goer_at t q c h w.runs r, goer_at t q d h w.runs g) (m.set (rw (goer_at t q c h w.runs r) at y))
        | inr s ↦ no y (w.apart_marks c d k g at_t s)
      ];
      needed = rw (needs_kept t q names h c d k w.act, clock_first t q names h d w g) m.needed;
    }

marks_later : (t : State) (q : ℕ) (names : ℕ → Bool) (h : Effect) (d c k : ℕ) → Joint t q names h → Inv t → GoesClean (with_effect (settle t) q h)
    → ready t d ≡ false → ready (with_effect t q h) d ≡ true → is_at (put_own t q h d).seat k ≡ true → (c == d) ≡ false → MarkClean (with_effect t q h) d c k
marks_later t q names h d c k w inv later s g at_k n =
    let rS : ready (with_effect (settle t) q h) d ≡ true = same_ready t q names h w d s ∙ g in
    let atS : is_at (put_own (settle t) q h d).seat k ≡ true = ap (λ (o : Own). is_at o.seat k) (same_at t q d h s) ∙ at_k in
    let m = later.marks d c k rS atS n in
    let clock : go_clock (with_effect (settle t) q h) d c ≡ go_clock (with_effect t q h) d c = ap (λ (f : Clock). f c) (clock_later t q names h d w s g) in
    let needed' : (put_own (settle t) q h c).needs d k ≤ go_clock (with_effect t q h) d c = rw clock at m.needed in
    record {
      goes = λ y. elim (cases_Bool (ready t c)) [
        | inl r ↦ goes_too t q names h w c r
        | inr z ↦ sym (same_ready t q names h w c z) ∙ m.goes (ap (λ (o : Own). asks o.seat (Mark d k)) (same_at t q c h z) ∙ y)
      ];
      set = λ y. elim (cases_Bool (ready t c)) [
        | inl r ↦
            let y' : asks (t.own c).seat (Mark d k) ≡ true = rw (goer_at t q c h w.runs r) at y in
            let fresh : suc (t.own c).count ≤ go_clock (with_effect t q h) d c = rw (gone_at t q c h w.runs r, gone_needs_on t c d k y') at needed' in
            let bound = clock_of_later t q names h d c w inv n r s in
            absurd (omega (arith, fresh, bound))
        | inr z ↦ rw (same_at t q c h z, same_at t q d h s) at (m.set (ap (λ (o : Own). asks o.seat (Mark d k)) (same_at t q c h z) ∙ y))
      ];
      needed = let u = needs_later t q names h c d k w inv in omega (arith, u, needed');
    }

axes_later : (t : State) (q : ℕ) (names : ℕ → Bool) (h : Effect) (c d a : ℕ) → Joint t q names h → GoesClean (with_effect (settle t) q h)
    → ready t c ≡ false → ready (with_effect t q h) c ≡ true → asks (put_own t q h c).seat (Axis a) ≡ true → mine (with_effect t q h) c a ≡ false → (d == c) ≡ false
    → asks (put_own t q h d).seat (Axis a) ≡ false
axes_later t q names h c d a w later s g y f n =
    let rS : ready (with_effect (settle t) q h) c ≡ true = same_ready t q names h w c s ∙ g in
    let yS : asks (put_own (settle t) q h c).seat (Axis a) ≡ true = ap (λ (o : Own). asks o.seat (Axis a)) (same_at t q c h s) ∙ y in
    let fS : mine (with_effect (settle t) q h) c a ≡ false = mine_same t q h c a w.runs s ∙ f in
    elim (cases_Bool (ready t d)) [
      | inr z ↦ ap (λ (o : Own). asks o.seat (Axis a)) (sym (same_at t q d h z)) ∙ later.axes c d a rS yS fS n
      | inl r ↦ elim (cases_Bool (asks (t.own d).seat (Axis a))) [
        | inr off ↦ ap (λ (o : Own). asks o.seat (Axis a)) (goer_at t q d h w.runs r) ∙ off
        | inl on ↦ elim (cases_Bool (mine t d a)) [
          | inr off ↦ no y (w.apart_axes d c a r on off (differ_back t d c r s))
          | inl own ↦
              let here : put_axis t q h a ≡ t.axis a = goer_cell t q d h a w.runs r on in
              let free : is_free (t.axis a).owner ≡ true = ap (λ (z : Cell). is_free z.owner) (sym here) ∙ took_free (with_effect t q h) c a g y f in
              no free (of_free (t.axis a).owner d own)
        ]
      ]
    ]

axes_first : (t : State) (q : ℕ) (names : ℕ → Bool) (h : Effect) (c d a : ℕ) → Joint t q names h
    → ready t c ≡ true → asks (put_own t q h c).seat (Axis a) ≡ true → mine (with_effect t q h) c a ≡ false → (d == c) ≡ false
    → asks (put_own t q h d).seat (Axis a) ≡ false
axes_first t q names h c d a w r y f n =
    let y' : asks (t.own c).seat (Axis a) ≡ true = rw (goer_at t q c h w.runs r) at y in
    w.apart_axes c d a r y' (sym (mine_other t q h c a (not_q t q c w.runs r)) ∙ f) n

pub goes_forward : (t : State) (q : ℕ) (names : ℕ → Bool) (h : Effect) → Joint t q names h → Inv t → GoesClean t → GoesClean (with_effect (settle t) q h) → GoesClean (with_effect t q h)
goes_forward t q names h w inv goes later = record {
  marks = λ d c k r at_k n. elim (cases_Bool (ready t d)) [
    | inl g ↦ marks_first t q names h d c k w goes g at_k n
    | inr s ↦ marks_later t q names h d c k w inv later s r at_k n
  ];
  axes = λ c d a r y f n. elim (cases_Bool (ready t c)) [
    | inl g ↦ axes_first t q names h c d a w g y f n
    | inr s ↦ axes_later t q names h c d a w later s r y f n
  ];
}
