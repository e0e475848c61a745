-- The half law backward: a clean joint step is two clean steps.
use Rattle.std.proofs.Common.{◌≡◌, ℕ, ◌≤◌, ◌==◌, ◌&&◌, ◌||◌, not, Bool, true, false, inl, inr, refl, sym, ap, subst, ◌∙◌}
use Rattle.std.proofs.lemmas.Bool.{cases_Bool, eqb-true, eq-eqb, ne_eqb, and_parts, or_cases, or_left, or_right}
use Rattle.board_laws.specs.Machine.{Need, Mark, Axis, Seat, Own, State, Effect, Clock, is_listed, asks, is_at, is_running, mine, is_met, ready_at, ready, go_clock, own_after_go, settle_own, settle, put_own, with_effect}
use Rattle.board_laws.specs.Clean.{SameSet, MarkClean, GoesClean, ActClean, Inv}
use Rattle.board_laws.proofs.Basics.{no, off_from, ready_met, ready_listed, ready_from, mark_at, at_needs, at_holds, asks_holds, running_ready, running_asks}
use Rattle.board_laws.proofs.Parts.{settle_goes, settle_stays, gone_runs, gone_asks, gone_lowered_off, gone_needs_off, gone_took_off, put_same, put_other, touched_at}
use Rattle.board_laws.proofs.Absorb.{Joint, not_q, goer_at, same_at, gone_at, still_ready, goes_too, same_ready, stood, mine_other, mine_same}
use Rattle.board_laws.proofs.Bounds.{q_stays, started_same, joint_asks, holder_at}
use Rattle.board_laws.proofs.Forward.{Between, differ_back, needs_kept, clock_later, clock_first}

-- one set of own and named channels: if the one is ready, so is the other
set_ready : (t : State) (c d k : ℕ) → Inv t → ready t c ≡ true → is_at (t.own c).seat k ≡ true → is_at (t.own d).seat k ≡ true → is_listed d (t.own d).seat ≡ true
    → SameSet d (t.own d).seat c (t.own c).seat k → ready t d ≡ true
unfolding is_met
set_ready t c d k inv r at_c at_d listed set = ready_from t d (t.own d).seat (at_holds (t.own d).seat k at_d) listed (λ n y.
    let m = at_needs (t.own d).seat k n at_d y in
    let y' : asks (t.own d).seat (Mark m.0 k) ≡ true = rw m.1 at y in
    let in_c : ((m.0 == c) || asks (t.own c).seat (Mark m.0 k)) ≡ true = sym (set m.0) ∙ or_right (m.0 == d) (asks (t.own d).seat (Mark m.0 k)) y' in
    let up : (t.own m.0).marks k ≡ true = elim (or_cases (m.0 == c) (asks (t.own c).seat (Mark m.0 k)) in_c) [
      | inl e ↦ rw (eqb-true m.0 c e) (inv.stands c k at_c)
      | inr z ↦ stood t c m.0 k (ready_met t c (t.own c).seat (Mark m.0 k) r z)
    ] in
    rw m.1 up)

same_back : (c d k : ℕ) (s r : Seat) → SameSet c s d r k → SameSet d r c s k
same_back c d k s r set = λ x. sym (set x)

kept_back : (t : State) (q : ℕ) (names : ℕ → Bool) (h : Effect) → Between t q names h → ActClean t q names h
    → (c k : ℕ) → ready t c ≡ true → asks (t.own c).seat (Mark q k) ≡ true → h.own.marks k ≡ true
kept_back t q names h w act c k r y = elim (cases_Bool (h.own.marks k)) [
  | inl on ↦ on
  | inr off ↦
      let up : (t.own q).marks k ≡ true = stood t c q k (ready_met t c (t.own c).seat (Mark q k) r y) in
      no y (act.unasked c k up off (not_q t q c w.runs r))
]

-- a WAITM of q does not meet a mark of a channel that goes: its own mark would have stood
own_down : (t : State) (q : ℕ) (names : ℕ → Bool) (h : Effect) (d k : ℕ) → Between t q names h → ready t d ≡ true → is_at h.own.seat k ≡ true → (q == d) ≡ false
    → ((q == d) || asks (t.own d).seat (Mark q k)) ≡ true → ⊥
own_down t q names h d k w g at_q other set = elim (or_cases (q == d) (asks (t.own d).seat (Mark q k)) set) [
  | inl e ↦ no e other
  | inr y ↦ no (stood t d q k (ready_met t d (t.own d).seat (Mark q k) g y)) (w.act.found_down k at_q)
]

pub turned : (x y : ℕ) → (x == y) ≡ false → (y == x) ≡ false
turned x y n = ne_eqb y x (λ e. no (eq-eqb x y (sym e)) n)

apart_back : (t : State) (q : ℕ) (names : ℕ → Bool) (h : Effect) → Between t q names h → ActClean t q names h → GoesClean (with_effect t q h)
    → (c d k : ℕ) → ready t d ≡ true → is_at (t.own d).seat k ≡ true → ready t c ≡ false → asks (put_own t q h c).seat (Mark d k) ≡ false
apart_back t q names h w act goes c d k g at_k s = elim (cases_Bool (asks (put_own t q h c).seat (Mark d k))) [
  | inr off ↦ off
  | inl y ↦
      let rd : ready (with_effect t q h) d ≡ true = still_ready t q h d w.runs (λ j z. kept_back t q names h w act d j g z) g in
      let there : put_own t q h d ≡ t.own d = goer_at t q d h w.runs g in
      let at_j : is_at (put_own t q h d).seat k ≡ true = ap (λ (o : Own). is_at o.seat k) there ∙ at_k in
      let n = differ_back t d c g s in
      let m = goes.marks d c k rd at_j n in
      let set : SameSet c (put_own t q h c).seat d (t.own d).seat k = subst (λ (o : Own). SameSet c (put_own t q h c).seat d o.seat k) there (m.set y) in
      elim (cases_Bool (c == q)) [
        | inl e ↦
            let x : c ≡ q = eqb-true c q e in
            let y' : asks h.own.seat (Mark d k) ≡ true = ap (λ (o : Own). asks o.seat (Mark d k)) (sym (put_same t q h)) ∙ ap (λ (x : ℕ). asks (put_own t q h x).seat (Mark d k)) (sym x) ∙ y in
            let own_in : ((q == c) || asks (put_own t q h c).seat (Mark q k)) ≡ true = or_left (q == c) (asks (put_own t q h c).seat (Mark q k)) (eq-eqb q c (sym x)) in
            absurd (own_down t q names h d k w g (mark_at h.own.seat d k y') (turned d q (not_q t q d w.runs g)) (sym (set q) ∙ own_in))
        | inr other ↦
            let y' : asks (t.own c).seat (Mark d k) ≡ true = sym (joint_asks t q h c (Mark d k) other refl) ∙ y in
            let held : put_own t q h c ≡ t.own c = holder_at t q h c other (asks_holds (t.own c).seat (Mark d k) y') in
            let set' : SameSet c (t.own c).seat d (t.own d).seat k = subst (λ (o : Own). SameSet c o.seat d (t.own d).seat k) held set in
            no (set_ready t d c k w.inv g at_k (mark_at (t.own c).seat d k y') (ap (λ (o : Own). is_listed c o.seat) (sym held) ∙ ready_listed (with_effect t q h) c (put_own t q h c).seat (m.goes y)) set') s
      ]
]

pub joint_back : (t : State) (q : ℕ) (names : ℕ → Bool) (h : Effect) → Between t q names h → ActClean t q names h → GoesClean (with_effect t q h) → Joint t q names h
joint_back t q names h w act goes = record {
  runs = w.runs;
  act = w.act;
  called = w.called;
  kept = kept_back t q names h w act;
  apart_marks = apart_back t q names h w act goes;
  apart_axes = λ c d a r y f n.
      let rc : ready (with_effect t q h) c ≡ true = still_ready t q h c w.runs (λ j z. kept_back t q names h w act c j r z) r in
      let yj : asks (put_own t q h c).seat (Axis a) ≡ true = ap (λ (o : Own). asks o.seat (Axis a)) (goer_at t q c h w.runs r) ∙ y in
      let fj : mine (with_effect t q h) c a ≡ false = mine_other t q h c a (not_q t q c w.runs r) ∙ f in
      goes.axes c d a rc yj fj n;
}

-- the first step's goings are clean
pub first_back : (t : State) (q : ℕ) (names : ℕ → Bool) (h : Effect) → Joint t q names h → GoesClean (with_effect t q h) → GoesClean t
first_back t q names h w joint = record {
  marks = λ d c k g at_k n.
      let at_j : is_at (put_own t q h d).seat k ≡ true = ap (λ (o : Own). is_at o.seat k) (goer_at t q d h w.runs g) ∙ at_k in
      let m = joint.marks d c k (goes_too t q names h w d g) at_j n in
      record {
        goes = λ y. elim (cases_Bool (ready t c)) [
          | inl r ↦ r
          | inr s ↦ no (still_asks t q h c d k w.runs y) (w.apart_marks c d k g at_k s)
        ];
        set = λ y. elim (cases_Bool (ready t c)) [
          | inl r ↦
              let y' : asks (put_own t q h c).seat (Mark d k) ≡ true = ap (λ (o : Own). asks o.seat (Mark d k)) (goer_at t q c h w.runs r) ∙ y in
              rw (goer_at t q c h w.runs r, goer_at t q d h w.runs g) at (m.set y')
          | inr s ↦ no (still_asks t q h c d k w.runs y) (w.apart_marks c d k g at_k s)
        ];
        needed = rw (needs_kept t q names h c d k w.act, clock_first t q names h d w g) at m.needed;
      };
  axes = λ c d a r y f n. elim (cases_Bool (d == q)) [
    | inl e ↦ rw (eqb-true d q e) (running_asks (t.own q).seat (Axis a) w.runs)
    | inr other ↦ sym (joint_asks t q h d (Axis a) other refl) ∙ w.apart_axes c d a r y f n
  ];
}
  where
    still_asks : (t : State) (q : ℕ) (h : Effect) (c d k : ℕ) → is_running (t.own q).seat ≡ true → asks (t.own c).seat (Mark d k) ≡ true → asks (put_own t q h c).seat (Mark d k) ≡ true
    still_asks t q h c d k run y = elim (cases_Bool (c == q)) [
      | inl e ↦ no y (rw (eqb-true c q e) (running_asks (t.own q).seat (Mark d k) run))
      | inr other ↦ joint_asks t q h c (Mark d k) other refl ∙ y
    ]

pub act_back : (t : State) (q : ℕ) (names : ℕ → Bool) (h : Effect) → Joint t q names h → ActClean t q names h → ActClean (settle t) q names h
act_back t q names h w act =
    let sq : settle_own t q ≡ t.own q = q_stays t q w.runs in
    let here : put_own t q h q ≡ h.own = put_same t q h in
    let rests : ready t q ≡ false = running_ready t q (t.own q).seat w.runs in
    record {
      waiting = λ d k y n.
          let l = act.waiting d k y n in
          elim (cases_Bool (ready t d)) [
            | inl g ↦ elim (cases_Bool (is_at (t.own d).seat k)) [
              | inl at_k ↦ no (ap (λ (o : Own). asks o.seat (Mark d k)) here ∙ y) (w.apart_marks q d k g at_k rests)
              | inr off ↦ rw (sq, settle_goes t d g, gone_lowered_off t d k off) l
            ]
            | inr s ↦ rw (sq, settle_stays t d s) l
          ];
      lowering = λ c k on off n.
          let on' : (t.own q).marks k ≡ true = ap (λ (o : Own). o.marks k) (sym sq) ∙ on in
          let l = act.lowering c k on' off n in
          elim (cases_Bool (ready t c)) [
            | inl g ↦ rw (sq, settle_goes t c g, gone_needs_off t c q k (act.unasked c k on' off n)) l
            | inr s ↦ rw (sq, settle_stays t c s) l
          ];
      unasked = λ c k on off n.
          let on' : (t.own q).marks k ≡ true = ap (λ (o : Own). o.marks k) (sym sq) ∙ on in
          elim (cases_Bool (ready t c)) [
            | inl g ↦ ap (λ (o : Own). asks o.seat (Mark q k)) (settle_goes t c g) ∙ gone_asks t c (Mark q k)
            | inr s ↦ ap (λ (o : Own). asks o.seat (Mark q k)) (settle_stays t c s) ∙ act.unasked c k on' off n
          ];
      asking = λ d a y n.
          let l = act.asking d a y n in
          elim (cases_Bool (ready t d)) [
            | inl g ↦ elim (cases_Bool (asks (t.own d).seat (Axis a) && not (mine t d a))) [
              | inl on ↦
                  let p = and_parts (asks (t.own d).seat (Axis a)) (not (mine t d a)) on in
                  no (ap (λ (o : Own). asks o.seat (Axis a)) here ∙ y) (w.apart_axes d q a g p.0 (off_from (mine t d a) p.1) (turned d q n))
              | inr off ↦ rw (sq, settle_goes t d g, gone_took_off t d a off) l
            ]
            | inr s ↦ rw (sq, settle_stays t d s) l
          ];
      starting = λ d y m n. let l = act.starting d y m n in rw (sq, started_same t d y) l;
    }

-- who went is running, and asks nothing
spent : (t : State) (q : ℕ) (h : Effect) (c : ℕ) (n : Need) → is_running (t.own q).seat ≡ true → ready t c ≡ true → asks (put_own (settle t) q h c).seat n ≡ false
spent t q h c n run r = ap (λ (o : Own). asks o.seat n) (gone_at t q c h run r) ∙ gone_asks t c n

spent_ready : (t : State) (q : ℕ) (h : Effect) (c : ℕ) → is_running (t.own q).seat ≡ true → ready (with_effect (settle t) q h) c ≡ true → ready t c ≡ false
spent_ready t q h c run r = elim (cases_Bool (ready t c)) [
  | inr s ↦ s
  | inl g ↦ no r (ap (λ (o : Own). ready_at (with_effect (settle t) q h) c o.seat) (gone_at t q c h run g)
      ∙ running_ready (with_effect (settle t) q h) c (own_after_go t c).seat (gone_runs t c))
]

marks_back : (t : State) (q : ℕ) (names : ℕ → Bool) (h : Effect) (d c k : ℕ) → Between t q names h → Joint t q names h → GoesClean (with_effect t q h)
    → ready t d ≡ false → ready (with_effect t q h) d ≡ true → is_at (put_own t q h d).seat k ≡ true → (c == d) ≡ false → MarkClean (with_effect (settle t) q h) d c k
marks_back t q names h d c k b w joint s g at_k n =
    let m = joint.marks d c k g at_k n in
    let clock : go_clock (with_effect (settle t) q h) d c ≡ go_clock (with_effect t q h) d c = ap (λ (f : Clock). f c) (clock_later t q names h d w s g) in
    record {
      goes = λ y. elim (cases_Bool (ready t c)) [
        | inl r ↦ no y (spent t q h c (Mark d k) w.runs r)
        | inr z ↦ same_ready t q names h w c z ∙ m.goes (ap (λ (o : Own). asks o.seat (Mark d k)) (sym (same_at t q c h z)) ∙ y)
      ];
      set = λ y. elim (cases_Bool (ready t c)) [
        | inl r ↦ no y (spent t q h c (Mark d k) w.runs r)
        | inr z ↦ rw (same_at t q c h z, same_at t q d h s) (m.set (ap (λ (o : Own). asks o.seat (Mark d k)) (sym (same_at t q c h z)) ∙ y))
      ];
      needed = elim (cases_Bool (ready t c)) [
        | inr z ↦ rw (same_at t q c h z, clock) m.needed
        | inl r ↦ elim (cases_Bool (asks (t.own c).seat (Mark d k))) [
          | inr off ↦
              let l : (t.own c).needs d k ≤ go_clock (with_effect t q h) d c = rw (goer_at t q c h w.runs r) at m.needed in
              rw (gone_at t q c h w.runs r, gone_needs_off t c d k off, clock) l
          | inl on ↦
              let on' : asks (put_own t q h c).seat (Mark d k) ≡ true = ap (λ (o : Own). asks o.seat (Mark d k)) (goer_at t q c h w.runs r) ∙ on in
              let set : SameSet c (t.own c).seat d (put_own t q h d).seat k = subst (λ (o : Own). SameSet c o.seat d (put_own t q h d).seat k) (goer_at t q c h w.runs r) (m.set on') in
              absurd (elim (cases_Bool (d == q)) [
                | inl e ↦
                    let x : d ≡ q = eqb-true d q e in
                    let at_q : is_at h.own.seat k ≡ true = ap (λ (o : Own). is_at o.seat k) (sym (put_same t q h)) ∙ ap (λ (x : ℕ). is_at (put_own t q h x).seat k) (sym x) ∙ at_k in
                    let yq : asks (t.own c).seat (Mark q k) ≡ true = rw x at on in
                    no (stood t c q k (ready_met t c (t.own c).seat (Mark q k) r yq)) (w.act.found_down k at_q)
                | inr other ↦
                    let at_t : is_at (t.own d).seat k ≡ true = sym (ap (λ (o : Own). is_at o.seat k) (put_other t q h d other) ∙ touched_at h q d (t.own d) k) ∙ at_k in
                    let held : put_own t q h d ≡ t.own d = holder_at t q h d other (at_holds (t.own d).seat k at_t) in
                    let set' : SameSet c (t.own c).seat d (t.own d).seat k = subst (λ (o : Own). SameSet c (t.own c).seat d o.seat k) held set in
                    no (set_ready t c d k b.inv r (mark_at (t.own c).seat d k on) at_t (ap (λ (o : Own). is_listed d o.seat) (sym held) ∙ ready_listed (with_effect t q h) d (put_own t q h d).seat g) (same_back c d k (t.own c).seat (t.own d).seat set')) s
              ])
        ]
      ];
    }

axes_back : (t : State) (q : ℕ) (names : ℕ → Bool) (h : Effect) (c d a : ℕ) → Joint t q names h → GoesClean (with_effect t q h)
    → ready t c ≡ false → ready (with_effect t q h) c ≡ true → asks (put_own (settle t) q h c).seat (Axis a) ≡ true → mine (with_effect (settle t) q h) c a ≡ false → (d == c) ≡ false
    → asks (put_own (settle t) q h d).seat (Axis a) ≡ false
axes_back t q names h c d a w joint s g y f n =
    let yj : asks (put_own t q h c).seat (Axis a) ≡ true = ap (λ (o : Own). asks o.seat (Axis a)) (sym (same_at t q c h s)) ∙ y in
    let fj : mine (with_effect t q h) c a ≡ false = sym (mine_same t q h c a w.runs s) ∙ f in
    elim (cases_Bool (ready t d)) [
      | inl r ↦ spent t q h d (Axis a) w.runs r
      | inr z ↦ ap (λ (o : Own). asks o.seat (Axis a)) (same_at t q d h z) ∙ joint.axes c d a g yj fj n
    ]

pub goes_back : (t : State) (q : ℕ) (names : ℕ → Bool) (h : Effect) → Between t q names h → Joint t q names h → GoesClean (with_effect t q h) → GoesClean (with_effect (settle t) q h)
goes_back t q names h b w joint = record {
  marks = λ d c k r at_k n.
      let s = spent_ready t q h d w.runs r in
      marks_back t q names h d c k b w joint s (sym (same_ready t q names h w d s) ∙ r) (ap (λ (o : Own). is_at o.seat k) (sym (same_at t q d h s)) ∙ at_k) n;
  axes = λ c d a r y f n.
      let s = spent_ready t q h c w.runs r in
      axes_back t q names h c d a w joint s (sym (same_ready t q names h w c s) ∙ r) y f n;
}
