-- The invariant is kept by both halves of a step.
use Rattle.std.proofs.Common.{◌≡◌, ℕ, zero, suc, ◌≤◌, ◌==◌, ◌&&◌, not, Bool, true, false, Some, inl, inr, refl, sym, ap, ◌∙◌, arith, if◌then◌else◌}
use Rattle.std.proofs.lemmas.Bool.{cases_Bool, eqb-true, and_parts, true≢false}
use Rattle.sync_types.proofs.FreeTakings.{NobodyRobs, own_part_robs_nobody}
use Rattle.sync_types.specs.GoingOn.{takes_from_standing}
use Rattle.sync_types.specs.declared.Step.{Step}
use Rattle.board_laws.specs.Machine.{Need, Mark, End, Axis, Call, Seat, Own, Cell, State, Effect, Clock, asks, is_at, mine, ready, larger, partner, heard, go_clock, taker, cell_after_taking, settle_own, settle, put_own, with_effect, doing_of, board_of, own_after_act, effect, In, Called}
use Rattle.board_laws.specs.Clean.{MarkChange, Stays, Raises, Lowers, IsAct, Inv, Rests}
use Rattle.board_laws.proofs.Basics.{no, off_from, clock_own, clock_under}
use Rattle.board_laws.proofs.Parts.{settle_goes, settle_stays, gone_seat, gone_asks, gone_count, gone_past, gone_raised, gone_started, gone_lowered_at, gone_lowered_off, gone_needs_on, gone_needs_off, gone_took_on, gone_took_off, put_same, put_other, touched_kept, Kept, touched_seat, touched_at, axis_off, axis_kept, axis_freed, settle_axis_none, settle_axis_some, cases_first}
use Rattle.board_laws.proofs.Absorb.{other_kept, call_ready}
use Rattle.board_laws.proofs.Bounds.{freed_by}

count_put : (b : State) (p : ℕ) (names : ℕ → Bool) (e : Effect) (x : ℕ) → IsAct p (b.own p) names e → (b.own x).count ≤ (put_own b p e x).count
count_put b p names e x act = elim (cases_Bool (x == p)) [
  | inl i ↦ let s : x ≡ p = eqb-true x p i in rw (s, put_same b p e, act.count) (omega arith)
  | inr n ↦ rw (ap (λ (o : Own). o.count) (put_other b p e x n), (touched_kept e p x (b.own x)).count) (omega arith)
]

-- a value of one channel, bounded by that channel's count
own_bound : (b : State) (p : ℕ) (names : ℕ → Bool) (e : Effect) (c : ℕ) (f : Own → ℕ) → IsAct p (b.own p) names e
    → f e.own ≤ suc (b.own p).count → ((o o' : Own) → Kept o o' → f o' ≡ f o) → f (b.own c) ≤ (b.own c).count → f (put_own b p e c) ≤ (put_own b p e c).count
own_bound b p names e c f act mine kept old = elim (cases_Bool (c == p)) [
  | inl i ↦
      let same : put_own b p e c ≡ e.own = ap (λ (z : ℕ). put_own b p e z) (eqb-true c p i) ∙ put_same b p e in
      let l : f (put_own b p e c) ≡ f e.own = ap f same in
      let r : (put_own b p e c).count ≡ suc (b.own p).count = ap (λ (o : Own). o.count) same ∙ act.count in
      omega (arith, l, r, mine)
  | inr n ↦
      let k = other_kept b p c e n in
      let l : f (put_own b p e c) ≡ f (b.own c) = kept (b.own c) (put_own b p e c) k in
      let r : (put_own b p e c).count ≡ (b.own c).count = k.count in
      omega (arith, l, r, old)
]

changed_lowered : (p k : ℕ) (old : Own) (names : ℕ → Bool) (e : Effect) → IsAct p old names e → old.lowered k ≤ old.count → e.own.lowered k ≤ suc old.count
changed_lowered p k old names e act l = go (act.mark k)
  where
    go : MarkChange old e.own k → e.own.lowered k ≤ suc old.count
    go (Stays m r i) = rw i (omega arith)
    go (Raises d u r i) = rw i (omega arith)
    go (Lowers u d r i) = rw i (omega arith)

pub started_bound : (p y : ℕ) (old : Own) (names : ℕ → Bool) (e : Effect) → IsAct p old names e → old.started y ≤ old.count → e.own.started y ≤ suc old.count
started_bound p y old names e act l = elim (cases_Bool (names y)) [
  | inl n ↦ rw (act.named y n) (omega arith)
  | inr n ↦ rw (act.unnamed y n) (omega arith)
]

put_past : (b : State) (p : ℕ) (names : ℕ → Bool) (e : Effect) (x : ℕ) → Inv b → IsAct p (b.own p) names e → e.own.past x ≤ (put_own b p e x).count
put_past b p names e x inv act = elim (cases_Bool (x == p)) [
  | inl i ↦ let s : x ≡ p = eqb-true x p i in rw (s, put_same b p e, act.own_past, act.count) (omega arith)
  | inr n ↦ let l = inv.past p x in let u = count_put b p names e x act in rw (act.past x n) (omega (arith, l, u))
]

put_raised : (b : State) (p : ℕ) (names : ℕ → Bool) (e : Effect) (k x : ℕ) → Inv b → IsAct p (b.own p) names e → e.own.raised k x ≤ (put_own b p e x).count
put_raised b p names e k x inv act = go (act.mark k) (inv.raised p k x) (count_put b p names e x act) (put_past b p names e x inv act)
  where
    go : MarkChange (b.own p) e.own k → (b.own p).raised k x ≤ (b.own x).count → (b.own x).count ≤ (put_own b p e x).count → e.own.past x ≤ (put_own b p e x).count
        → e.own.raised k x ≤ (put_own b p e x).count
    go (Stays m r i) l u v = rw (ap (λ (f : Clock). f x) r) (omega (arith, l, u))
    go (Raises d h r i) l u v = rw (ap (λ (f : Clock). f x) r) v
    go (Lowers h d r i) l u v = rw (ap (λ (f : Clock). f x) r) (omega (arith, l, u))

pub put_inv : (b : State) (p : ℕ) (names : ℕ → Bool) (e : Effect) → Inv b → IsAct p (b.own p) names e → Inv (with_effect b p e)
put_inv b p names e inv act = record {
  past = λ c x. elim (cases_Bool (c == p)) [
    | inl i ↦ rw (ap (λ (z : ℕ). (put_own b p e z).past x) (eqb-true c p i) ∙ ap (λ (o : Own). o.past x) (put_same b p e)) (put_past b p names e x inv act)
    | inr n ↦ let l = inv.past c x in let u = count_put b p names e x act in rw (ap (λ (f : Clock). f x) (other_kept b p c e n).past) (omega (arith, l, u))
  ];
  raised = λ c k x. elim (cases_Bool (c == p)) [
    | inl i ↦ rw (ap (λ (z : ℕ). (put_own b p e z).raised k x) (eqb-true c p i) ∙ ap (λ (o : Own). o.raised k x) (put_same b p e)) (put_raised b p names e k x inv act)
    | inr n ↦ let l = inv.raised c k x in let u = count_put b p names e x act in rw (ap (λ (f : ℕ → Clock). f k x) (other_kept b p c e n).raised) (omega (arith, l, u))
  ];
  freed = λ a x. let l = inv.freed a x in let u = count_put b p names e x act in elim (cases_Bool (mine b p a)) [
    | inl own ↦ elim (cases_Bool (e.frees a)) [
      | inl y ↦ rw (ap (λ (z : Cell). z.freed x) (axis_freed b p e a y own) ∙ ap (λ (f : Clock). f x) (freed_by b p e a)) (put_past b p names e x inv act)
      | inr n ↦ rw (ap (λ (z : Cell). z.freed x) (axis_kept b p e a n)) (omega (arith, l, u))
    ]
    | inr n ↦ rw (ap (λ (z : Cell). z.freed x) (axis_off b p e a n)) (omega (arith, l, u))
  ];
  lowered = λ c k. own_bound b p names e c (λ o. o.lowered k) act (changed_lowered p k (b.own p) names e act (inv.lowered p k)) (λ o o' s. ap (λ (f : ℕ → ℕ). f k) s.lowered) (inv.lowered c k);
  needs = λ c d k. own_bound b p names e c (λ o. o.needs d k) act (let l = inv.needs p d k in rw (act.needs d k) (omega (arith, l))) (λ o o' s. ap (λ (f : ℕ → ℕ → ℕ). f d k) s.needs) (inv.needs c d k);
  took = λ c a. own_bound b p names e c (λ o. o.took a) act (let l = inv.took p a in rw (act.took a) (omega (arith, l))) (λ o o' s. ap (λ (f : ℕ → ℕ). f a) s.took) (inv.took c a);
  started = λ c y. own_bound b p names e c (λ o. o.started y) act (started_bound p y (b.own p) names e act (inv.started p y)) (λ o o' s. ap (λ (f : ℕ → ℕ). f y) s.started) (inv.started c y);
  stands = λ c k y. elim (cases_Bool (c == p)) [
    | inl i ↦
        let same : put_own b p e c ≡ e.own = ap (λ (z : ℕ). put_own b p e z) (eqb-true c p i) ∙ put_same b p e in
        ap (λ (o : Own). o.marks k) same ∙ act.leaves_up k (ap (λ (o : Own). is_at o.seat k) (sym same) ∙ y)
    | inr n ↦
        let y' : is_at (b.own c).seat k ≡ true = sym (ap (λ (o : Own). is_at o.seat k) (put_other b p e c n) ∙ touched_at e p c (b.own c) k) ∙ y in
        ap (λ (f : ℕ → Bool). f k) (other_kept b p c e n).marks ∙ inv.stands c k y'
  ];
}

count_settle : (t : State) (x : ℕ) → (t.own x).count ≤ (settle_own t x).count
count_settle t x = elim (cases_Bool (ready t x)) [
  | inl g ↦ rw (settle_goes t x g, gone_count t x) (omega arith)
  | inr s ↦ rw (settle_stays t x s) (omega arith)
]

heard_bound : (t : State) (c x : ℕ) (n : Need) → Inv t → heard t c x n ≤ (settle_own t x).count
unfolding heard
heard_bound t c x (Mark d k) inv =
    let l = inv.raised d k x in
    let u = count_settle t x in
    let m : (t.own d).raised k x ≤ (settle_own t x).count = omega (arith, l, u) in
    elim (cases_Bool ((x == d) && partner t c d k)) [
      | inr off ↦ rw off (flat (d == c) ((t.own d).raised k x) 0 (settle_own t x).count m (omega arith))
      | inl on ↦
          let p = and_parts (x == d) (partner t c d k) on in
          let g = and_parts (ready t d) (asks (t.own d).seat (Mark c k)) p.1 in
          let s : x ≡ d = eqb-true x d p.0 in
          let e : (settle_own t d).count ≡ suc (t.own d).count = ap (λ (o : Own). o.count) (settle_goes t d g.0) ∙ gone_count t d in
          let e' : (settle_own t x).count ≡ suc (t.own d).count = ap (λ (z : ℕ). (settle_own t z).count) s ∙ e in
          rw on (flat (d == c) ((t.own d).raised k x) (suc (t.own d).count) (settle_own t x).count m (omega (arith, e')))
    ]
  where
    larger_under : (a b n : ℕ) → a ≤ n → b ≤ n → larger a b ≤ n
    larger_under zero b n p q = q
    larger_under (suc a) zero n p q = p
    larger_under (suc a) (suc b) zero p q = absurd (omega arith)
    larger_under (suc a) (suc b) (suc n) p q = let e : larger a b ≤ n = larger_under a b n (omega arith) (omega arith) in omega arith

    flat : (u : Bool) (m i n : ℕ) → m ≤ n → i ≤ n → (if u then 0 else larger m i) ≤ n
    flat true m i n l r = omega arith
    flat false m i n l r = larger_under m i n l r
heard_bound t c x (End d) inv = let l = inv.past d x in let u = count_settle t x in omega (arith, l, u)
heard_bound t c x (Axis a) inv = let l = inv.freed a x in let u = count_settle t x in elim (cases_Bool (mine t c a)) [
  | inl f ↦ rw f (omega arith)
  | inr f ↦ rw f (omega (arith, l, u))
]
heard_bound t c x (Call d) inv = let l = inv.past d x in let u = count_settle t x in omega (arith, l, u)

pub go_clock_bound : (t : State) (c x : ℕ) → Inv t → ready t c ≡ true → go_clock t c x ≤ (settle_own t x).count
go_clock_bound t c x inv g = elim (cases_Bool (x == c)) [
  | inl i ↦
      let s : x ≡ c = eqb-true x c i in
      let e : (settle_own t c).count ≡ suc (t.own c).count = ap (λ (o : Own). o.count) (settle_goes t c g) ∙ gone_count t c in
      rw s (rw (clock_own t c (t.own c)) (omega (arith, e)))
  | inr n ↦
      let l = inv.past c x in
      let u = count_settle t x in
      clock_under t c x (t.own c) (settle_own t x).count n (omega (arith, l, u)) (λ m y. heard_bound t c x m inv)
]

given_freed : (t : State) (c : ℕ) (cell : Cell) → (cell_after_taking t (Some c) cell).freed ≡ cell.freed
unfolding cell_after_taking
given_freed t c cell = refl

pub settle_inv : (t : State) → Inv t → Inv (settle t)
settle_inv t inv = record {
  past = λ c x. elim (cases_Bool (ready t c)) [
    | inl g ↦ rw (ap (λ (o : Own). o.past x) (settle_goes t c g) ∙ ap (λ (f : Clock). f x) (gone_past t c)) (go_clock_bound t c x inv g)
    | inr s ↦ let l = inv.past c x in let u = count_settle t x in rw (ap (λ (o : Own). o.past x) (settle_stays t c s)) (omega (arith, l, u))
  ];
  raised = λ c k x.
      let l = inv.raised c k x in
      let u = count_settle t x in
      elim (cases_Bool (ready t c)) [
        | inl g ↦ rw (ap (λ (o : Own). o.raised k x) (settle_goes t c g) ∙ ap (λ (f : ℕ → Clock). f k x) (gone_raised t c)) (omega (arith, l, u))
        | inr s ↦ rw (ap (λ (o : Own). o.raised k x) (settle_stays t c s)) (omega (arith, l, u))
      ];
  freed = λ a x.
      let l = inv.freed a x in
      let u = count_settle t x in
      elim (cases_first (taker t a)) [
        | inl none ↦ rw (ap (λ (z : Cell). z.freed x) (settle_axis_none t a none)) (omega (arith, l, u))
        | inr d ↦ rw (ap (λ (z : Cell). z.freed x) (settle_axis_some t a d.0 d.1) ∙ ap (λ (f : Clock). f x) (given_freed t d.0 (t.axis a))) (omega (arith, l, u))
      ];
  lowered = λ c k.
      let l = inv.lowered c k in
      elim (cases_Bool (ready t c)) [
        | inl g ↦ elim (cases_Bool (is_at (t.own c).seat k)) [
          | inl y ↦ rw (settle_goes t c g, gone_lowered_at t c k y, gone_count t c) (omega arith)
          | inr n ↦ rw (settle_goes t c g, gone_lowered_off t c k n, gone_count t c) (omega (arith, l))
        ]
        | inr s ↦ rw (settle_stays t c s) l
      ];
  needs = λ c d k.
      let l = inv.needs c d k in
      elim (cases_Bool (ready t c)) [
        | inl g ↦ elim (cases_Bool (asks (t.own c).seat (Mark d k))) [
          | inl y ↦ rw (settle_goes t c g, gone_needs_on t c d k y, gone_count t c) (omega arith)
          | inr n ↦ rw (settle_goes t c g, gone_needs_off t c d k n, gone_count t c) (omega (arith, l))
        ]
        | inr s ↦ rw (settle_stays t c s) l
      ];
  took = λ c a.
      let l = inv.took c a in
      elim (cases_Bool (ready t c)) [
        | inl g ↦ elim (cases_Bool (asks (t.own c).seat (Axis a) && not (mine t c a))) [
          | inl y ↦ let p = and_parts (asks (t.own c).seat (Axis a)) (not (mine t c a)) y in rw (settle_goes t c g, gone_took_on t c a p.0 (off_from (mine t c a) p.1), gone_count t c) (omega arith)
          | inr n ↦ rw (settle_goes t c g, gone_took_off t c a n, gone_count t c) (omega (arith, l))
        ]
        | inr s ↦ rw (settle_stays t c s) l
      ];
  started = λ c y.
      let l = inv.started c y in
      elim (cases_Bool (ready t c)) [
        | inl g ↦ rw (settle_goes t c g, gone_started t c, gone_count t c) (omega (arith, l))
        | inr s ↦ rw (settle_stays t c s) l
      ];
  stands = λ c k y. elim (cases_Bool (ready t c)) [
    | inl g ↦ absurd (true≢false (sym y ∙ ap (λ (o : Own). is_at o.seat k) (settle_goes t c g) ∙ ap (λ (s : Seat). is_at s k) (gone_seat t c)))
    | inr s ↦
        let y' : is_at (t.own c).seat k ≡ true = ap (λ (o : Own). is_at o.seat k) (sym (settle_stays t c s)) ∙ y in
        ap (λ (o : Own). o.marks k) (settle_stays t c s) ∙ inv.stands c k y'
  ];
}

-- who takes axes from channels that stand is told by the seat
robs_alike : (t u : State) (c : ℕ) (s : Seat) → takes_from_standing (doing_of t c s) ≡ takes_from_standing (doing_of u c s)
robs_alike t u c (In state) = refl
robs_alike t u c (Called p) = refl

act_robs_nobody : (b : State) (p : ℕ) (step : Step) → NobodyRobs (board_of b) → takes_from_standing (doing_of b p (effect b p step).own.seat) ≡ false
unfolding effect own_after_act
act_robs_nobody b p step none = own_part_robs_nobody (board_of b) p step none p

-- the own part of a step lets nobody take so
pub put_robs_nobody : (b : State) (p : ℕ) (step : Step) → NobodyRobs (board_of b) → NobodyRobs (board_of (with_effect b p (effect b p step)))
put_robs_nobody b p step none c = robs_alike (with_effect b p e) b c (put_own b p e c).seat ∙ elim (cases_Bool (c == p)) [
  | inl i ↦
      ap (λ (z : ℕ). takes_from_standing (doing_of b z (put_own b p e z).seat)) (eqb-true c p i)
      ∙ ap (λ (o : Own). takes_from_standing (doing_of b p o.seat)) (put_same b p e) ∙ act_robs_nobody b p step none
  | inr n ↦ ap (λ (o : Own). takes_from_standing (doing_of b c o.seat)) (put_other b p e c n) ∙ elim (touched_seat e p c (b.own c)) [
    | inl s ↦ ap (λ (x : Seat). takes_from_standing (doing_of b c x)) s ∙ none c
    | inr w ↦ ap (λ (x : Seat). takes_from_standing (doing_of b c x)) w.1
  ]
]
  where
    e : Effect
    e = effect b p step

pub settle_rests : (t : State) → Inv t → NobodyRobs (board_of t) → Rests (settle t)
settle_rests t inv none = record {
  inv = settle_inv t inv;
  uncalled = λ c r. elim (cases_Bool (ready t c)) [
    | inl g ↦ ap (λ (o : Own). asks o.seat (Call r)) (settle_goes t c g) ∙ gone_asks t c (Call r)
    | inr s ↦ elim (cases_Bool (asks (t.own c).seat (Call r))) [
      | inl y ↦ no (call_ready t c (t.own c).seat r y) s
      | inr n ↦ ap (λ (o : Own). asks o.seat (Call r)) (settle_stays t c s) ∙ n
    ]
  ];
  takes_free = λ c. robs_alike (settle t) t c (settle_own t c).seat ∙ elim (cases_Bool (ready t c)) [
    | inl g ↦ ap (λ (o : Own). takes_from_standing (doing_of t c o.seat)) (settle_goes t c g) ∙ ap (λ (s : Seat). takes_from_standing (doing_of t c s)) (gone_seat t c)
    | inr s ↦ ap (λ (o : Own). takes_from_standing (doing_of t c o.seat)) (settle_stays t c s) ∙ none c
  ];
}
