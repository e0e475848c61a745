-- Fresh places, and what clocks cannot exceed.
use Rattle.std.proofs.Common.{◌≡◌, ℕ, zero, suc, ◌≤◌, ◌==◌, ◌&&◌, not, Bool, true, false, inl, inr, refl, ap, ◌∙◌, arith, if◌then◌else◌}
use Rattle.std.proofs.lemmas.Bool.{cases_Bool, eqb-true, and_parts}
use Rattle.board_laws.specs.Machine.{Need, Mark, End, Axis, Call, Seat, Own, State, Effect, Clock, same, holds, asks, is_at, is_idle, is_running, mine, ready, larger, heard, go_clock, settle_own, cell_after_release, put_own, put_axis, with_effect}
use Rattle.board_laws.specs.Clean.{MarkChange, Stays, Raises, Lowers, IsAct, Inv}
use Rattle.board_laws.proofs.Basics.{no, off_from, clock_under, mark_at, running_ready, idle_holds}
use Rattle.board_laws.proofs.Parts.{settle_goes, settle_stays, gone_started, gone_lowered_at, gone_lowered_off, gone_needs_on, gone_needs_off, gone_took_on, gone_took_off, put_same, put_other, touched_awake, touched_asks, axis_off, axis_kept, axis_freed}
use Rattle.board_laws.proofs.Absorb.{Joint, not_q, goer_at, other_kept}

pub q_stays : (t : State) (q : ℕ) → is_running (t.own q).seat ≡ true → settle_own t q ≡ t.own q
q_stays t q run = settle_stays t q (running_ready t q (t.own q).seat run)

pub lowered_up : (t : State) (c k : ℕ) → Inv t → (t.own c).lowered k ≤ (settle_own t c).lowered k
lowered_up t c k inv = elim (cases_Bool (ready t c)) [
  | inl g ↦ elim (cases_Bool (is_at (t.own c).seat k)) [
    | inl y ↦ rw (settle_goes t c g, gone_lowered_at t c k y) (let b = inv.lowered c k in omega arith)
    | inr n ↦ rw (settle_goes t c g, gone_lowered_off t c k n) (omega arith)
  ]
  | inr s ↦ rw (settle_stays t c s) (omega arith)
]

pub needs_up : (t : State) (c d k : ℕ) → Inv t → (t.own c).needs d k ≤ (settle_own t c).needs d k
needs_up t c d k inv = elim (cases_Bool (ready t c)) [
  | inl g ↦ elim (cases_Bool (asks (t.own c).seat (Mark d k))) [
    | inl y ↦ rw (settle_goes t c g, gone_needs_on t c d k y) (let b = inv.needs c d k in omega arith)
    | inr n ↦ rw (settle_goes t c g, gone_needs_off t c d k n) (omega arith)
  ]
  | inr s ↦ rw (settle_stays t c s) (omega arith)
]

pub took_up : (t : State) (c a : ℕ) → Inv t → (t.own c).took a ≤ (settle_own t c).took a
took_up t c a inv = elim (cases_Bool (ready t c)) [
  | inl g ↦ elim (cases_Bool (asks (t.own c).seat (Axis a) && not (mine t c a))) [
    | inl y ↦
        let p = and_parts (asks (t.own c).seat (Axis a)) (not (mine t c a)) y in
        rw (settle_goes t c g, gone_took_on t c a p.0 (off_from (mine t c a) p.1)) (let b = inv.took c a in omega arith)
    | inr n ↦ rw (settle_goes t c g, gone_took_off t c a n) (omega arith)
  ]
  | inr s ↦ rw (settle_stays t c s) (omega arith)
]

pub started_same : (t : State) (c y : ℕ) → (settle_own t c).started y ≡ (t.own c).started y
started_same t c y = elim (cases_Bool (ready t c)) [
  | inl g ↦ rw (settle_goes t c g, gone_started t c) refl
  | inr s ↦ rw (settle_stays t c s) refl
]

-- a fresh place is counted by nobody else
pub fresh_lowered : (t : State) (q d k : ℕ) → Inv t → is_running (t.own q).seat ≡ true → ready t d ≡ true → is_at (t.own d).seat k ≡ true
    → (settle_own t d).lowered k ≤ (settle_own t q).past d → ⊥
fresh_lowered t q d k inv run g y l =
    let b = inv.past q d in
    let m : suc (t.own d).count ≤ (t.own q).past d = rw (q_stays t q run, settle_goes t d g, gone_lowered_at t d k y) at l in
    omega arith

pub fresh_needs : (t : State) (q c d k : ℕ) → Inv t → is_running (t.own q).seat ≡ true → ready t c ≡ true → asks (t.own c).seat (Mark d k) ≡ true
    → (settle_own t c).needs d k ≤ (settle_own t q).past c → ⊥
fresh_needs t q c d k inv run g y l =
    let b = inv.past q c in
    let m : suc (t.own c).count ≤ (t.own q).past c = rw (q_stays t q run, settle_goes t c g, gone_needs_on t c d k y) at l in
    omega arith

pub fresh_took : (t : State) (q c a : ℕ) → Inv t → is_running (t.own q).seat ≡ true → ready t c ≡ true → asks (t.own c).seat (Axis a) ≡ true → mine t c a ≡ false
    → (settle_own t c).took a ≤ (settle_own t q).past c → ⊥
fresh_took t q c a inv run g y f l =
    let b = inv.past q c in
    let m : suc (t.own c).count ≤ (t.own q).past c = rw (q_stays t q run, settle_goes t c g, gone_took_on t c a y f) at l in
    omega arith

pub joint_asks : (t : State) (q : ℕ) (h : Effect) (c : ℕ) (n : Need) → (c == q) ≡ false → same n (Call q) ≡ false → asks (put_own t q h c).seat n ≡ asks (t.own c).seat n
joint_asks t q h c n other s = ap (λ (o : Own). asks o.seat n) (put_other t q h c other) ∙ touched_asks h q c (t.own c) n s

-- who holds is not touched
pub holder_at : (t : State) (q : ℕ) (h : Effect) (c : ℕ) → (c == q) ≡ false → holds (t.own c).seat ≡ true → put_own t q h c ≡ t.own c
holder_at t q h c other y = put_other t q h c other ∙ touched_awake h q c (t.own c) (not_idle (t.own c).seat y)
  where
    not_idle : (s : Seat) → holds s ≡ true → is_idle s ≡ false
    not_idle s y = elim (cases_Bool (is_idle s)) [ inl i ↦ no y (idle_holds s i) | inr n ↦ n ]

-- of another channel nothing new is counted by q's Act
pub past_under : (t : State) (q : ℕ) (names : ℕ → Bool) (h : Effect) (e c : ℕ) → Inv t → IsAct q (t.own q) names h → (c == q) ≡ false → (put_own t q h e).past c ≤ (t.own c).count
past_under t q names h e c inv act other = elim (cases_Bool (e == q)) [
  | inl s ↦
      let x : e ≡ q = eqb-true e q s in
      let b = inv.past q c in
      rw (x, put_same t q h, act.past c other) b
  | inr n ↦ let b = inv.past e c in rw (ap (λ (f : Clock). f c) (other_kept t q e h n).past) b
]

pub raised_under : (t : State) (q : ℕ) (names : ℕ → Bool) (h : Effect) (e k c : ℕ) → Inv t → IsAct q (t.own q) names h → (c == q) ≡ false → (put_own t q h e).raised k c ≤ (t.own c).count
raised_under t q names h e k c inv act other = elim (cases_Bool (e == q)) [
  | inl s ↦
      let x : e ≡ q = eqb-true e q s in
      rw (x, put_same t q h) (changes (act.mark k) (inv.raised q k c) (inv.past q c))
  | inr n ↦ let b = inv.raised e k c in rw (ap (λ (f : ℕ → Clock). f k c) (other_kept t q e h n).raised) b
]
  where
    changes : MarkChange (t.own q) h.own k → (t.own q).raised k c ≤ (t.own c).count → (t.own q).past c ≤ (t.own c).count → h.own.raised k c ≤ (t.own c).count
    changes (Stays m l r) a b = rw (ap (λ (f : Clock). f c) l) a
    changes (Raises down up l r) a b = rw (ap (λ (f : Clock). f c) l, act.past c other) b
    changes (Lowers down up l r) a b = rw (ap (λ (f : Clock). f c) l) a

pub freed_by : (t : State) (q : ℕ) (h : Effect) (a : ℕ) → (cell_after_release t q h a).freed ≡ h.own.past
unfolding cell_after_release
freed_by t q h a = refl

pub freed_under : (t : State) (q : ℕ) (names : ℕ → Bool) (h : Effect) (a c : ℕ) → Inv t → IsAct q (t.own q) names h → (c == q) ≡ false → (put_axis t q h a).freed c ≤ (t.own c).count
freed_under t q names h a c inv act other = elim (cases_Bool (mine t q a)) [
  | inl own ↦ elim (cases_Bool (h.frees a)) [
    | inl y ↦ let b = inv.past q c in rw (axis_freed t q h a y own, freed_by t q h a, act.past c other) b
    | inr n ↦ let b = inv.freed a c in rw (axis_kept t q h a n) b
  ]
  | inr n ↦ let b = inv.freed a c in rw (axis_off t q h a n) b
]

heard_under : (t : State) (q : ℕ) (names : ℕ → Bool) (h : Effect) (d c : ℕ) (n : Need) → Joint t q names h → Inv t → (c == q) ≡ false → ready t c ≡ true → ready t d ≡ false
    → asks (put_own t q h d).seat n ≡ true → heard (with_effect t q h) d c n ≤ (t.own c).count
unfolding heard
heard_under t q names h d c (Mark e j) w inv other g s y = elim (cases_Bool (c == e)) [
  | inl here ↦
      let x : c ≡ e = eqb-true c e here in
      let off : asks (put_own t q h c).seat (Mark d j) ≡ false = elim (cases_Bool (asks (put_own t q h c).seat (Mark d j))) [
        | inl z ↦
            let z' : asks (t.own c).seat (Mark d j) ≡ true = rw (goer_at t q c h w.runs g) at z in
            no y (rw x at (w.apart_marks d c j g (mark_at (t.own c).seat d j z') s))
        | inr z ↦ z
      ] in
      let off' : asks (put_own t q h e).seat (Mark d j) ≡ false = rw x at off in
      rw (off') (flat_off (e == d) (c == e) (ready (with_effect t q h) e) ((put_own t q h e).raised j c) (suc (put_own t q h e).count) (t.own c).count (raised_under t q names h e j c inv w.act other))
  | inr there ↦ rw there (flat (e == d) ((put_own t q h e).raised j c) (t.own c).count (raised_under t q names h e j c inv w.act other))
]
  where
    larger_zero : (m : ℕ) → larger m 0 ≡ m
    larger_zero zero = refl
    larger_zero (suc m) = refl

    flat : (u : Bool) (m n : ℕ) → m ≤ n → (if u then 0 else larger m 0) ≤ n
    flat true m n l = omega arith
    flat false m n l = rw (larger_zero m) l

    flat_off : (u v z : Bool) (m i n : ℕ) → m ≤ n → (if u then 0 else larger m (if v && (z && false) then i else 0)) ≤ n
    flat_off true v z m i n l = omega arith
    flat_off false true true m i n l = rw (larger_zero m) l
    flat_off false true false m i n l = rw (larger_zero m) l
    flat_off false false z m i n l = rw (larger_zero m) l
heard_under t q names h d c (End e) w inv other g s y = past_under t q names h e c inv w.act other
heard_under t q names h d c (Axis a) w inv other g s y = elim (cases_Bool (mine (with_effect t q h) d a)) [
  | inl f ↦ rw f (omega arith)
  | inr f ↦ rw f (freed_under t q names h a c inv w.act other)
]
heard_under t q names h d c (Call e) w inv other g s y = past_under t q names h e c inv w.act other

-- the clock of a later Go counts no Go of the first step
pub clock_of_later : (t : State) (q : ℕ) (names : ℕ → Bool) (h : Effect) (d c : ℕ) → Joint t q names h → Inv t → (c == d) ≡ false → ready t c ≡ true → ready t d ≡ false
    → go_clock (with_effect t q h) d c ≤ (t.own c).count
clock_of_later t q names h d c w inv n g s =
    let other = not_q t q c w.runs g in
    clock_under (with_effect t q h) d c (put_own t q h d) (t.own c).count n (past_under t q names h d c inv w.act other)
    (λ m y. heard_under t q names h d c m w inv other g s y)
