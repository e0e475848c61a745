-- Two settlings are one.
use Rattle.std.proofs.Math.Path.{fun_ext}
use Rattle.std.proofs.Common.{◌≡◌, ℕ, suc, ◌⊎◌, ◌==◌, ◌&&◌, ◌||◌, Bool, true, false, Option, None, Some, filter, inl, inr, refl, sym, ap, ◌∙◌, if◌then◌else◌}
use Rattle.std.proofs.lemmas.Bool.{cases_Bool, eqb-true, eq-eqb, ne_eqb, or_cases, true≢false}
use Rattle.sync_types.specs.Boards.{IsRunning, channel_numbers, is_this}
use Rattle.sync_types.specs.GoingOn.{first_of}
use Rattle.sync_types.specs.Starts.{first_holder, axes_of_zone}
use Rattle.sync_types.specs.Views.{StartView}
use Rattle.axis_sets.specs.Sets.{members_of}
use Rattle.board_laws.specs.Machine.{Need, Mark, End, Axis, Call, Seat, In, Called, Own, Cell, State, Effect, Clock, holds, is_listed, asks, is_at, is_idle, is_ended, is_running, is_free, mine, is_met, ready_at, ready, larger, heard, clock_of, axes_then_owned, holds_by_carrier, holds_zone, grant_at_go, own_after_go, takes, taker, cell_after_taking, settle_own, settle_axis, settle, own_after_call, cell_after_release, put_own, put_axis, put_on, with_effect}
use Rattle.board_laws.specs.Clean.{IsAct, MarkChange, Stays, Raises, Lowers}
use Rattle.board_laws.proofs.Basics.{no, in_no_call, ready_met, ready_holds, ready_listed, ready_from, ready_agree, clock_agree, mark_at, call_needs, asks_holds, running_ready, running_asks, ended_holds, ready_awake}
use Rattle.board_laws.proofs.Parts.{settle_goes, settle_stays, gone_seat, gone_runs, gone_marks_off, gone_raised, gone_agree, put_same, put_other, touched_awake, touched_kept, Kept, touched_seat, touched_ended, axis_off, released_free, free_of, of_other, first_is, first_none, first_only, first_past, first_agree, settle_axis_none, settle_axis_some, given_to, cases_first, takes_parts, takes_from, takes_not}

-- what the first step's goings and the second step's own part leave alone
pub record Joint (t : State) (q : ℕ) (names : ℕ → Bool) (h : Effect) : Type 0 where
  pub runs : is_running (t.own q).seat ≡ true
  pub act : IsAct q (t.own q) names h
  pub called : (c r : ℕ) → asks (t.own c).seat (Call r) ≡ true → (r == q) ≡ false
  pub kept : (c k : ℕ) → ready t c ≡ true → asks (t.own c).seat (Mark q k) ≡ true → h.own.marks k ≡ true
  pub apart_marks : (c d k : ℕ) → ready t d ≡ true → is_at (t.own d).seat k ≡ true → ready t c ≡ false → asks (put_own t q h c).seat (Mark d k) ≡ false
  pub apart_axes : (c d a : ℕ) → ready t c ≡ true → asks (t.own c).seat (Axis a) ≡ true → mine t c a ≡ false → (d == c) ≡ false → asks (put_own t q h d).seat (Axis a) ≡ false

pub not_q : (t : State) (q c : ℕ) → is_running (t.own q).seat ≡ true → ready t c ≡ true → (c == q) ≡ false
not_q t q c run r = elim (cases_Bool (c == q)) [
  | inl e ↦ no r (rw (eqb-true c q e) (running_ready t q (t.own q).seat run))
  | inr n ↦ n
]

pub goer_at : (t : State) (q c : ℕ) (h : Effect) → is_running (t.own q).seat ≡ true → ready t c ≡ true → put_own t q h c ≡ t.own c
goer_at t q c h run r = put_other t q h c (not_q t q c run r) ∙ touched_awake h q c (t.own c) (ready_awake t c (t.own c).seat r)

pub same_at : (t : State) (q c : ℕ) (h : Effect) → ready t c ≡ false → put_own (settle t) q h c ≡ put_own t q h c
same_at t q c h r = elim (cases_Bool (c == q)) [
  | inl e ↦ rw (eqb-true c q e) (put_same (settle t) q h ∙ sym (put_same t q h))
  | inr n ↦ put_other (settle t) q h c n ∙ ap (λ (o : Own). own_after_call h q c o) (settle_stays t c r) ∙ sym (put_other t q h c n)
]

gone_awake : (t : State) (c : ℕ) → is_idle (own_after_go t c).seat ≡ false
gone_awake t c = ap (λ (s : Seat). is_idle s) (gone_seat t c)

pub gone_at : (t : State) (q c : ℕ) (h : Effect) → is_running (t.own q).seat ≡ true → ready t c ≡ true → put_own (settle t) q h c ≡ own_after_go t c
gone_at t q c h run r =
    put_other (settle t) q h c (not_q t q c run r) ∙ ap (λ (o : Own). own_after_call h q c o) (settle_goes t c r)
    ∙ touched_awake h q c (own_after_go t c) (gone_awake t c)

pub other_kept : (t : State) (q d : ℕ) (h : Effect) → (d == q) ≡ false → Kept (t.own d) (put_own t q h d)
other_kept t q d h n = rw (put_other t q h d n) (touched_kept h q d (t.own d))

pub put_axis_agree : (b t : State) (p : ℕ) (e : Effect) (a : ℕ) → (b.own p).count ≡ (t.own p).count → b.axis a ≡ t.axis a → put_axis b p e a ≡ put_axis t p e a
unfolding put_axis cell_after_release
put_axis_agree b t p e a count h = rw (h, count) refl

pub q_count : (t : State) (q : ℕ) → is_running (t.own q).seat ≡ true → (settle_own t q).count ≡ (t.own q).count
q_count t q run = ap (λ (o : Own). o.count) (settle_stays t q (running_ready t q (t.own q).seat run))

abbrev make : StartView → (ℕ → Own) → (ℕ → Cell) → (ℕ → Bool) → State
make s o a f = record { start = s; own = o; axis = a; on = f }

pub met_axis : (t : State) (c a : ℕ) → is_met t c (Axis a) ≡ true → (is_free (t.axis a).owner ≡ true) ⊎ (mine t c a ≡ true)
unfolding is_met
met_axis t c a m = or_cases (is_free (t.axis a).owner) (mine t c a) m

pub goer_cell : (t : State) (q c : ℕ) (h : Effect) (a : ℕ) → is_running (t.own q).seat ≡ true → ready t c ≡ true → asks (t.own c).seat (Axis a) ≡ true → put_axis t q h a ≡ t.axis a
goer_cell t q c h a run r y = elim (met_axis t c a (ready_met t c (t.own c).seat (Axis a) r y)) [
  | inl f ↦ axis_off t q h a (free_of (t.axis a).owner q f)
  | inr o ↦ axis_off t q h a (of_other (t.axis a).owner c q (not_q t q c run r) o)
]

ended_runs : (s : Seat) → is_running s ≡ true → is_ended s ≡ false
ended_runs (In (IsRunning g)) r = refl
ended_runs s r = absurd (true≢false (sym r))

-- another that has ended is not q
ended_other : (t : State) (q d : ℕ) → is_running (t.own q).seat ≡ true → is_ended (t.own d).seat ≡ true → (d == q) ≡ false
ended_other t q d run e = elim (cases_Bool (d == q)) [
  | inl s ↦ no e (rw (eqb-true d q s) (ended_runs (t.own q).seat run))
  | inr n ↦ n
]

met_goes : (t : State) (q : ℕ) (h : Effect) (c : ℕ) (n : Need) → is_running (t.own q).seat ≡ true
    → ((k : ℕ) → asks (t.own c).seat (Mark q k) ≡ true → h.own.marks k ≡ true) → ready t c ≡ true → asks (t.own c).seat n ≡ true
    → is_met t c n ≡ true → is_met (with_effect t q h) c n ≡ true
unfolding is_met
met_goes t q h c (Mark d k) run kept r y m = elim (cases_Bool (d == q)) [
  | inl e ↦
      let s : d ≡ q = eqb-true d q e in
      ap (λ (x : ℕ). (put_own t q h x).marks k) s ∙ ap (λ (o : Own). o.marks k) (put_same t q h) ∙ kept k (rw s at y)
  | inr n ↦ ap (λ (f : ℕ → Bool). f k) (other_kept t q d h n).marks ∙ m
]
met_goes t q h c (End d) run kept r y m =
    let other = ended_other t q d run m in
    ap (λ (o : Own). is_ended o.seat) (put_other t q h d other) ∙ touched_ended h q d (t.own d) ∙ m
met_goes t q h c (Axis a) run kept r y m = rw (goer_cell t q c h a run r y) m
met_goes t q h c (Call p) run kept r y m = refl

-- what is ready stays ready where the marks that it needs are kept
pub still_ready : (t : State) (q : ℕ) (h : Effect) (c : ℕ) → is_running (t.own q).seat ≡ true
    → ((k : ℕ) → asks (t.own c).seat (Mark q k) ≡ true → h.own.marks k ≡ true) → ready t c ≡ true → ready (with_effect t q h) c ≡ true
still_ready t q h c run kept r =
    rw (goer_at t q c h run r) (ready_from (with_effect t q h) c (t.own c).seat (ready_holds t c (t.own c).seat r) (ready_listed t c (t.own c).seat r)
    (λ n y. met_goes t q h c n run kept r y (ready_met t c (t.own c).seat n r y)))

pub goes_too : (t : State) (q : ℕ) (names : ℕ → Bool) (h : Effect) (w : Joint t q names h) (c : ℕ) → ready t c ≡ true → ready (with_effect t q h) c ≡ true
goes_too t q names h w c r = still_ready t q h c w.runs (λ k y. w.kept c k r y) r

pub cells_same : (t : State) (q : ℕ) (names : ℕ → Bool) (h : Effect) (w : Joint t q names h) (c a : ℕ) → ready t c ≡ false
    → asks (put_own t q h c).seat (Axis a) ≡ true → put_axis (settle t) q h a ≡ put_axis t q h a
cells_same t q names h w c a r y = elim (cases_first (first_of (filter (takes t a) channel_numbers))) [
  | inl none ↦ put_axis_agree (settle t) t q h a (q_count t q w.runs) (settle_axis_none t a none)
  | inr d ↦
      let p = takes_parts t a d.0 (first_is (takes t a) channel_numbers d.0 d.1) in
      no y (w.apart_axes d.0 c a p.0 p.1 p.2 (ne_eqb c d.0 (λ e. no p.0 (rw e at r))))
]

met_same : (t : State) (q : ℕ) (names : ℕ → Bool) (h : Effect) (w : Joint t q names h) (c : ℕ) (n : Need) → ready t c ≡ false
    → asks (put_own t q h c).seat n ≡ true → is_met (with_effect (settle t) q h) c n ≡ is_met (with_effect t q h) c n
unfolding is_met
met_same t q names h w c (Mark d k) r y = elim (cases_Bool (ready t d)) [
  | inl g ↦ elim (cases_Bool (is_at (t.own d).seat k)) [
    | inl at_k ↦ no y (w.apart_marks c d k g at_k r)
    | inr off ↦
        ap (λ (o : Own). o.marks k) (gone_at t q d h w.runs g) ∙ gone_marks_off t d k off ∙ ap (λ (o : Own). o.marks k) (sym (goer_at t q d h w.runs g))
  ]
  | inr s ↦ ap (λ (o : Own). o.marks k) (same_at t q d h s)
]
met_same t q names h w c (End d) r y = elim (cases_Bool (ready t d)) [
  | inl g ↦
      ap (λ (o : Own). is_ended o.seat) (gone_at t q d h w.runs g) ∙ ap (λ (s : Seat). is_ended s) (gone_seat t d)
      ∙ sym (ap (λ (o : Own). is_ended o.seat) (goer_at t q d h w.runs g) ∙ holds_on (t.own d).seat (ready_holds t d (t.own d).seat g))
  | inr s ↦ ap (λ (o : Own). is_ended o.seat) (same_at t q d h s)
]
  where
    holds_on : (s : Seat) → holds s ≡ true → is_ended s ≡ false
    holds_on s y = elim (cases_Bool (is_ended s)) [ inl e ↦ no y (ended_holds s e) | inr n ↦ n ]
met_same t q names h w c (Axis a) r y = rw (cells_same t q names h w c a r y) refl
met_same t q names h w c (Call p) r y = refl

pub same_ready : (t : State) (q : ℕ) (names : ℕ → Bool) (h : Effect) (w : Joint t q names h) (c : ℕ) → ready t c ≡ false
    → ready (with_effect (settle t) q h) c ≡ ready (with_effect t q h) c
same_ready t q names h w c r =
    ap (λ (o : Own). ready_at (with_effect (settle t) q h) c o.seat) (same_at t q c h r)
    ∙ ready_agree (with_effect (settle t) q h) (with_effect t q h) c (put_own t q h c).seat (λ n y. met_same t q names h w c n r y)

pub stood : (t : State) (c d k : ℕ) → is_met t c (Mark d k) ≡ true → (t.own d).marks k ≡ true
unfolding is_met
stood t c d k m = m

-- the raising of a mark that a goer needs
raised_goes : (t : State) (q : ℕ) (names : ℕ → Bool) (h : Effect) (w : Joint t q names h) (c d k : ℕ) → ready t c ≡ true → asks (t.own c).seat (Mark d k) ≡ true
    → (put_own t q h d).raised k ≡ (t.own d).raised k
raised_goes t q names h w c d k r y = elim (cases_Bool (d == q)) [
  | inl e ↦
      let s : d ≡ q = eqb-true d q e in
      let yq : asks (t.own c).seat (Mark q k) ≡ true = rw s at y in
      rw s (ap (λ (o : Own). o.raised k) (put_same t q h) ∙ changes (w.act.mark k) (stood t c q k (ready_met t c (t.own c).seat (Mark q k) r yq)) (w.kept c k r yq))
  | inr n ↦ ap (λ (f : ℕ → Clock). f k) (other_kept t q d h n).raised
]
  where
    changes : MarkChange (t.own q) h.own k → (t.own q).marks k ≡ true → h.own.marks k ≡ true → h.own.raised k ≡ (t.own q).raised k
    changes (Stays m l r) up on = l
    changes (Raises down x l r) up on = no up down
    changes (Lowers x off l r) up on = no on off

ended_met : (t : State) (c d : ℕ) → is_met t c (End d) ≡ true → is_ended (t.own d).seat ≡ true
unfolding is_met
ended_met t c d m = m

heard_goes : (t : State) (q : ℕ) (names : ℕ → Bool) (h : Effect) (w : Joint t q names h) (c x : ℕ) (n : Need) → ready t c ≡ true → asks (t.own c).seat n ≡ true
    → heard (with_effect t q h) c x n ≡ heard t c x n
unfolding heard
heard_goes t q names h w c x (Mark d k) r y = rw (raised_goes t q names h w c d k r y) (elim (cases_Bool (ready t d)) [
  | inl g ↦ rw (goes_too t q names h w d g, g, goer_at t q d h w.runs g) refl
  | inr s ↦
      let off : asks (put_own t q h d).seat (Mark c k) ≡ false = w.apart_marks d c k r (mark_at (t.own c).seat d k y) s in
      rw (off, s) (flat (d == c) (x == d) (ready (with_effect t q h) d) ((t.own d).raised k x) (suc (put_own t q h d).count) (suc (t.own d).count))
])
  where
    flat : (u v z : Bool) (m i j : ℕ) → (if u then 0 else larger m (if v && (z && false) then i else 0)) ≡ (if u then 0 else larger m (if v && false then j else 0))
    flat true v z m i j = refl
    flat false true true m i j = refl
    flat false true false m i j = refl
    flat false false z m i j = refl
heard_goes t q names h w c x (End d) r y =
    let e = ended_met t c d (ready_met t c (t.own c).seat (End d) r y) in
    ap (λ (f : Clock). f x) (other_kept t q d h (ended_other t q d w.runs e)).past
heard_goes t q names h w c x (Axis a) r y = rw (goer_cell t q c h a w.runs r y) refl
heard_goes t q names h w c x (Call p) r y = ap (λ (f : Clock). f x) (other_kept t q p h (w.called c p y)).past

pub clock_goes : (t : State) (q : ℕ) (names : ℕ → Bool) (h : Effect) (w : Joint t q names h) (c : ℕ) → ready t c ≡ true
    → clock_of (with_effect t q h) c (t.own c) ≡ clock_of t c (t.own c)
clock_goes t q names h w c r = clock_agree (with_effect t q h) t c (t.own c) (λ x n y. heard_goes t q names h w c x n r y)

call_listed : (c : ℕ) (s : Seat) (r : ℕ) → asks s (Call r) ≡ true → is_listed c s ≡ true
call_listed c (Called p) r y = refl
call_listed c (In state) r y = no y (in_no_call state r)

pub call_ready : (t : State) (c : ℕ) (s : Seat) (r : ℕ) → asks s (Call r) ≡ true → ready_at t c s ≡ true
unfolding is_met
call_ready t c s r y = ready_from t c s (asks_holds s (Call r) y) (call_listed c s r y) (λ n z. rw (call_needs s r n y z) refl)

pub called_only : (q r : ℕ) → asks (Called q) (Call r) ≡ true → r ≡ q
unfolding asks
called_only q r y = eqb-true r q (or_one (r == q) y)
  where
    or_one : (x : Bool) → (x || false) ≡ true → x ≡ true
    or_one true h = refl
    or_one false h = h

-- who is called and did not go is called by q
called_by : (t : State) (q : ℕ) (names : ℕ → Bool) (h : Effect) (w : Joint t q names h) (c r : ℕ) → ready t c ≡ false → asks (put_own t q h c).seat (Call r) ≡ true → r ≡ q
called_by t q names h w c r stays y = elim (cases_Bool (c == q)) [
  | inl e ↦ let s : c ≡ q = eqb-true c q e in no (rw (s, put_same t q h) at y) (w.act.uncalled r)
  | inr n ↦ elim (touched_seat h q c (t.own c)) [
    | inl s ↦ no (call_ready t c (t.own c).seat r (rw (put_other t q h c n, s) at y)) stays
    | inr i ↦ let z : asks (Called q) (Call r) ≡ true = rw (put_other t q h c n, i.1) at y in called_only q r z
  ]
]

heard_same : (t : State) (q : ℕ) (names : ℕ → Bool) (h : Effect) (w : Joint t q names h) (c x : ℕ) (n : Need) → ready t c ≡ false → ready (with_effect t q h) c ≡ true
    → asks (put_own t q h c).seat n ≡ true → heard (with_effect (settle t) q h) c x n ≡ heard (with_effect t q h) c x n
unfolding heard
heard_same t q names h w c x (Mark d k) r g y = elim (cases_Bool (ready t d)) [
  | inl rd ↦
      let off : asks (t.own d).seat (Mark c k) ≡ false = elim (cases_Bool (asks (t.own d).seat (Mark c k))) [
        | inl z ↦ no y (w.apart_marks c d k rd (mark_at (t.own d).seat c k z) r)
        | inr z ↦ z
      ] in
      let left : asks (own_after_go t d).seat (Mark c k) ≡ false = ap (λ (s : Seat). asks s (Mark c k)) (gone_seat t d) ∙ running_asks (In (IsRunning (grant_at_go t d (t.own d)))) (Mark c k) refl in
      rw (gone_at t q d h w.runs rd, goer_at t q d h w.runs rd, gone_raised t d, off, left)
      (flat (d == c) (x == d) (ready_at (with_effect (settle t) q h) d (own_after_go t d).seat) (ready_at (with_effect t q h) d (t.own d).seat) ((t.own d).raised k x) (suc (own_after_go t d).count) (suc (t.own d).count))
  | inr s ↦ rw (same_ready t q names h w d s, same_at t q d h s) refl
]
  where
    flat : (u v y z : Bool) (m i j : ℕ) → (if u then 0 else larger m (if v && (y && false) then i else 0)) ≡ (if u then 0 else larger m (if v && (z && false) then j else 0))
    flat true v y z m i j = refl
    flat false true true true m i j = refl
    flat false true true false m i j = refl
    flat false true false true m i j = refl
    flat false true false false m i j = refl
    flat false false y z m i j = refl
heard_same t q names h w c x (End d) r g y = elim (cases_Bool (ready t d)) [
  | inl rd ↦
      let e : is_ended (put_own t q h d).seat ≡ true = ended_met (with_effect t q h) c d (ready_met (with_effect t q h) c (put_own t q h c).seat (End d) g y) in
      no (ready_holds t d (t.own d).seat rd) (ended_holds (t.own d).seat (rw (goer_at t q d h w.runs rd) at e))
  | inr s ↦ ap (λ (o : Own). o.past x) (same_at t q d h s)
]
heard_same t q names h w c x (Axis a) r g y = rw (cells_same t q names h w c a r y) refl
heard_same t q names h w c x (Call p) r g y =
    let e : p ≡ q = called_by t q names h w c p r y in
    rw e (ap (λ (o : Own). o.past x) (put_same (settle t) q h ∙ sym (put_same t q h)))

pub clock_same : (t : State) (q : ℕ) (names : ℕ → Bool) (h : Effect) (w : Joint t q names h) (c : ℕ) → ready t c ≡ false → ready (with_effect t q h) c ≡ true
    → clock_of (with_effect (settle t) q h) c (put_own t q h c) ≡ clock_of (with_effect t q h) c (put_own t q h c)
clock_same t q names h w c r g = clock_agree (with_effect (settle t) q h) (with_effect t q h) c (put_own t q h c) (λ x n y. heard_same t q names h w c x n r g y)

-- owners
pub mine_other : (b : State) (p : ℕ) (e : Effect) (c a : ℕ) → (c == p) ≡ false → mine (with_effect b p e) c a ≡ mine b c a
unfolding put_axis
mine_other b p e c a other = elim (cases_Bool (e.frees a)) [
  | inr n ↦ rw n refl
  | inl y ↦ elim (cases_Bool (mine b p a)) [
    | inr n ↦ rw (y, n) refl
    | inl m ↦ rw (y, m) (released_free b p e a c ∙ sym (of_other (b.axis a).owner p c (ne_eqb p c (λ s. no (eq-eqb c p (sym s)) other)) m))
  ]
]

pub mine_own : (b t : State) (p : ℕ) (e : Effect) (a : ℕ) → mine b p a ≡ mine t p a → mine (with_effect b p e) p a ≡ mine (with_effect t p e) p a
unfolding put_axis
mine_own b t p e a s = elim (cases_Bool (mine t p a)) [
  | inl y ↦ elim (cases_Bool (e.frees a)) [
    | inl f ↦ rw (s, f, y) (released_free b p e a p ∙ sym (released_free t p e a p))
    | inr f ↦ rw f s
  ]
  | inr n ↦ elim (cases_Bool (e.frees a)) [
    | inl f ↦ rw (s, f, n) s
    | inr f ↦ rw f s
  ]
]

-- who takes an axis found it free
pub took_free : (t : State) (c a : ℕ) → ready t c ≡ true → asks (t.own c).seat (Axis a) ≡ true → mine t c a ≡ false → is_free (t.axis a).owner ≡ true
took_free t c a r y off = elim (met_axis t c a (ready_met t c (t.own c).seat (Axis a) r y)) [
  | inl f ↦ f
  | inr o ↦ no o off
]

pub mine_settle : (t : State) (c a : ℕ) → ready t c ≡ false → mine (settle t) c a ≡ mine t c a
mine_settle t c a r = elim (cases_first (taker t a)) [
  | inl none ↦ ap (λ (z : Cell). is_this z.owner c) (settle_axis_none t a none)
  | inr d ↦
      let p = takes_parts t a d.0 (first_is (takes t a) channel_numbers d.0 d.1) in
      ap (λ (z : Cell). is_this z.owner c) (settle_axis_some t a d.0 d.1) ∙ given_to t d.0 (t.axis a) c
      ∙ ne_eqb d.0 c (λ e. no p.0 (rw e r)) ∙ sym (free_of (t.axis a).owner c (took_free t d.0 a p.0 p.1 p.2))
]

pub mine_same : (t : State) (q : ℕ) (h : Effect) (c a : ℕ) → is_running (t.own q).seat ≡ true → ready t c ≡ false → mine (with_effect (settle t) q h) c a ≡ mine (with_effect t q h) c a
mine_same t q h c a run r = elim (cases_Bool (c == q)) [
  | inl e ↦
      let s : c ≡ q = eqb-true c q e in
      ap (λ (x : ℕ). mine (with_effect (settle t) q h) x a) s ∙ mine_own (settle t) t q h a (mine_settle t q a (running_ready t q (t.own q).seat run)) ∙ sym (ap (λ (x : ℕ). mine (with_effect t q h) x a) s)
  | inr n ↦ mine_other (settle t) q h c a n ∙ mine_settle t c a r ∙ sym (mine_other t q h c a n)
]

-- zones
pub zone_apart : {A : Type 0} (start : StartView) (f g : ℕ → Bool) (c q z : ℕ) → (c == q) ≡ false → ((a : ℕ) → f a ≡ true → g a ≡ true → ⊥) → holds_zone start f c z ≡ true → holds_zone start g q z ≡ true → A
unfolding holds_zone
zone_apart start f g c q z other apart x y = absurd (go (first_of (members_of (axes_of_zone start z))) x y)
  where
    go : (o : Option ℕ) → holds_by_carrier o f (is_this (first_holder start z) c) ≡ true → holds_by_carrier o g (is_this (first_holder start z) q) ≡ true → ⊥
    go (Some a) x y = apart a x y
    go None x y = no y (of_other (first_holder start z) c q other x)

owned_apart : (t : State) (c q a : ℕ) → (c == q) ≡ false → ready t c ≡ true → axes_then_owned t c (t.own c).seat a ≡ true → mine t q a ≡ true → ⊥
unfolding axes_then_owned
owned_apart t c q a other r x y = elim (or_cases (asks (t.own c).seat (Axis a)) (mine t c a) x) [
  | inl asked ↦ elim (met_axis t c a (ready_met t c (t.own c).seat (Axis a) r asked)) [
    | inl f ↦ no y (free_of (t.axis a).owner q f)
    | inr o ↦ no y (of_other (t.axis a).owner c q other o)
  ]
  | inr o ↦ no y (of_other (t.axis a).owner c q other o)
]

pub on_goes : (t : State) (q : ℕ) (h : Effect) (c z : ℕ) → is_running (t.own q).seat ≡ true → ready t c ≡ true → holds_zone t.start (axes_then_owned t c (t.own c).seat) c z ≡ true → put_on t q h z ≡ t.on z
unfolding put_on
on_goes t q h c z run r x = elim (cases_Bool (holds_zone t.start (mine t q) q z)) [
  | inl y ↦ zone_apart t.start (axes_then_owned t c (t.own c).seat) (mine t q) c q z (not_q t q c run r) (λ a. owned_apart t c q a (not_q t q c run r) r) x y
  | inr n ↦ rw n refl
]

pub on_same : (t : State) (q : ℕ) (h : Effect) → is_running (t.own q).seat ≡ true → put_on (settle t) q h ≡ put_on t q h
unfolding put_on
on_same t q h run = ap {B = ℕ → Bool} (λ (f : ℕ → Bool) (z : ℕ). if holds_zone t.start f q z then h.on z else t.on z) (fun_ext λ a. mine_settle t q a (running_ready t q (t.own q).seat run))

own_absorbed : (t : State) (q : ℕ) (names : ℕ → Bool) (h : Effect) (w : Joint t q names h) (c : ℕ)
    → settle_own (with_effect (settle t) q h) c ≡ settle_own (with_effect t q h) c
own_absorbed t q names h w c = elim (cases_Bool (ready t c)) [
  | inl goes ↦
      let spent : ready (with_effect (settle t) q h) c ≡ false =
      ap (λ (o : Own). ready_at (with_effect (settle t) q h) c o.seat) (gone_at t q c h w.runs goes)
      ∙ running_ready (with_effect (settle t) q h) c (own_after_go t c).seat (gone_runs t c) in
      settle_stays (with_effect (settle t) q h) c spent ∙ gone_at t q c h w.runs goes
      ∙ sym (settle_goes (with_effect t q h) c (goes_too t q names h w c goes)
      ∙ gone_agree (with_effect t q h) t c refl (goer_at t q c h w.runs goes) (clock_goes t q names h w c goes) (λ a y. goer_cell t q c h a w.runs goes y)
      (λ a. mine_other t q h c a (not_q t q c w.runs goes)) (λ z x. on_goes t q h c z w.runs goes x))
  | inr stays ↦ elim (cases_Bool (ready (with_effect t q h) c)) [
    | inl goes ↦
        settle_goes (with_effect (settle t) q h) c (same_ready t q names h w c stays ∙ goes)
        ∙ gone_agree (with_effect (settle t) q h) (with_effect t q h) c refl (same_at t q c h stays) (clock_same t q names h w c stays goes) (λ a y. cells_same t q names h w c a stays y)
        (λ a. mine_same t q h c a w.runs stays) (λ z x. ap (λ (f : ℕ → Bool). f z) (on_same t q h w.runs))
        ∙ sym (settle_goes (with_effect t q h) c goes)
    | inr neither ↦
        settle_stays (with_effect (settle t) q h) c (same_ready t q names h w c stays ∙ neither)
        ∙ same_at t q c h stays
        ∙ sym (settle_stays (with_effect t q h) c neither)
  ]
]

-- an axis that was taken
taken_cell : (t : State) (q c a : ℕ) (h : Effect) → is_running (t.own q).seat ≡ true → taker t a ≡ Some c → put_axis (settle t) q h a ≡ cell_after_taking t (Some c) (t.axis a)
taken_cell t q c a h run e =
    let p = takes_parts t a c (first_is (takes t a) channel_numbers c e) in
    let cell : settle_axis t a ≡ cell_after_taking t (Some c) (t.axis a) = settle_axis_some t a c e in
    axis_off (settle t) q h a (ap (λ (z : Cell). is_this z.owner q) cell ∙ given_to t c (t.axis a) q ∙ not_q t q c run p.0) ∙ cell

free_none : (o : Option ℕ) → is_free o ≡ true → o ≡ None
free_none None f = refl
free_none (Some d) f = absurd (true≢false (sym f))

given_same : (t u : State) (c : ℕ) (cell : Cell) → (t.own c).count ≡ (u.own c).count → is_free cell.owner ≡ true → cell_after_taking t (Some c) cell ≡ cell_after_taking u (Some c) cell
unfolding cell_after_taking
given_same t u c cell count f = rw (count, free_none cell.owner f) refl

settle_given : (t u : State) (a : ℕ) → t.axis a ≡ u.axis a → taker t a ≡ taker u a → ((c : ℕ) → taker u a ≡ Some c → cell_after_taking t (Some c) (u.axis a) ≡ cell_after_taking u (Some c) (u.axis a)) → settle_axis t a ≡ settle_axis u a
settle_given t u a e f given_too = elim (cases_first (taker u a)) [
  | inl none ↦ settle_axis_none t a (f ∙ none) ∙ e ∙ sym (settle_axis_none u a none)
  | inr c ↦ settle_axis_some t a c.0 (f ∙ c.1) ∙ ap (λ (z : Cell). cell_after_taking t (Some c.0) z) e ∙ given_too c.0 c.1 ∙ sym (settle_axis_some u a c.0 c.1)
]

same_takes : (t : State) (q : ℕ) (names : ℕ → Bool) (h : Effect) (w : Joint t q names h) (a d : ℕ) → put_axis (settle t) q h a ≡ put_axis t q h a
    → takes t a d ≡ false → takes (with_effect (settle t) q h) a d ≡ takes (with_effect t q h) a d
unfolding takes
same_takes t q names h w a d here off = elim (cases_Bool (ready t d)) [
  | inl g ↦
      let spent : ready (with_effect (settle t) q h) d ≡ false =
      ap (λ (o : Own). ready_at (with_effect (settle t) q h) d o.seat) (gone_at t q d h w.runs g)
      ∙ running_ready (with_effect (settle t) q h) d (own_after_go t d).seat (gone_runs t d) in
      let not_taken : takes (with_effect t q h) a d ≡ false = takes_not (with_effect t q h) a d (λ r y f.
      let was : asks (t.own d).seat (Axis a) ≡ true = rw (goer_at t q d h w.runs g) at y in
      no (takes_from t a d g was (sym (mine_other t q h d a (not_q t q d w.runs g)) ∙ f)) off) in
      rw spent (sym not_taken)
  | inr s ↦ rw (same_ready t q names h w d s, same_at t q d h s, here) refl
]

spent_takes : (t : State) (q : ℕ) (names : ℕ → Bool) (h : Effect) (w : Joint t q names h) (a d x : ℕ) → ready t d ≡ true → asks (t.own d).seat (Axis a) ≡ true → mine t d a ≡ false
    → takes (with_effect (settle t) q h) a x ≡ false
spent_takes t q names h w a d x r y m = takes_not (with_effect (settle t) q h) a x (λ rx yx mx. elim (cases_Bool (ready t x)) [
  | inl g ↦
      let spent : ready (with_effect (settle t) q h) x ≡ false =
      ap (λ (o : Own). ready_at (with_effect (settle t) q h) x o.seat) (gone_at t q x h w.runs g)
      ∙ running_ready (with_effect (settle t) q h) x (own_after_go t x).seat (gone_runs t x) in
      no rx spent
  | inr s ↦
      let yj : asks (put_own t q h x).seat (Axis a) ≡ true = ap (λ (o : Own). asks o.seat (Axis a)) (sym (same_at t q x h s)) ∙ yx in
      no yj (w.apart_axes d x a r y m (ne_eqb x d (λ e. no r (rw e at s))))
])

pub cell_absorbed : (t : State) (q : ℕ) (names : ℕ → Bool) (h : Effect) (w : Joint t q names h) (a : ℕ)
    → settle_axis (with_effect (settle t) q h) a ≡ settle_axis (with_effect t q h) a
cell_absorbed t q names h w a = elim (cases_first (taker t a)) [
  | inr d ↦
      let p = takes_parts t a d.0 (first_is (takes t a) channel_numbers d.0 d.1) in
      let left = taken_cell t q d.0 a h w.runs d.1 in
      let free = took_free t d.0 a p.0 p.1 p.2 in
      let here : put_axis t q h a ≡ t.axis a = goer_cell t q d.0 h a w.runs p.0 p.1 in
      let none : taker (with_effect (settle t) q h) a ≡ None =
      first_none (takes (with_effect (settle t) q h) a) channel_numbers (λ x. spent_takes t q names h w a d.0 x p.0 p.1 p.2) in
      let count : (put_own t q h d.0).count ≡ (t.own d.0).count = ap (λ (o : Own). o.count) (goer_at t q d.0 h w.runs p.0) in
      let some : taker (with_effect t q h) a ≡ Some d.0 =
      first_only (takes t a) (takes (with_effect t q h) a) channel_numbers d.0 d.1
      (takes_from (with_effect t q h) a d.0 (goes_too t q names h w d.0 p.0) (rw (goer_at t q d.0 h w.runs p.0) p.1) (mine_other t q h d.0 a (not_q t q d.0 w.runs p.0) ∙ p.2))
      (λ x n. takes_not (with_effect t q h) a x (λ r y f. no y (w.apart_axes d.0 x a p.0 p.1 p.2 n))) in
      settle_axis_none (with_effect (settle t) q h) a none ∙ left
      ∙ sym (settle_axis_some (with_effect t q h) a d.0 some ∙ ap (λ (z : Cell). cell_after_taking (with_effect t q h) (Some d.0) z) here ∙ given_same (with_effect t q h) t d.0 (t.axis a) count free)
  | inl none ↦
      let here : put_axis (settle t) q h a ≡ put_axis t q h a = put_axis_agree (settle t) t q h a (q_count t q w.runs) (settle_axis_none t a none) in
      settle_given (with_effect (settle t) q h) (with_effect t q h) a here
      (first_agree (takes t a) (takes (with_effect (settle t) q h) a) (takes (with_effect t q h) a) channel_numbers none (λ d off. same_takes t q names h w a d here off))
      (λ c some.
      let p = takes_parts (with_effect t q h) a c (first_is (takes (with_effect t q h) a) channel_numbers c some) in
      given_same (with_effect (settle t) q h) (with_effect t q h) c (put_axis t q h a) (ap (λ (o : Own). o.count) (not_taken c none some p.0 p.1 p.2)) (took_free (with_effect t q h) c a p.0 p.1 p.2))
]
  where
    not_taken : (c : ℕ) → taker t a ≡ None → taker (with_effect t q h) a ≡ Some c → ready (with_effect t q h) c ≡ true → asks (put_own t q h c).seat (Axis a) ≡ true → mine (with_effect t q h) c a ≡ false → put_own (settle t) q h c ≡ put_own t q h c
    not_taken c none some r y m = elim (cases_Bool (ready t c)) [
      | inr s ↦ same_at t q c h s
      | inl g ↦
          let asked : asks (t.own c).seat (Axis a) ≡ true = rw (goer_at t q c h w.runs g) at y in
          let off : mine t c a ≡ false = sym (mine_other t q h c a (not_q t q c w.runs g)) ∙ m in
          no (takes_from t a c g asked off) (first_past (takes t a) (takes (with_effect t q h) a) channel_numbers c none some)
    ]

pub state_eq : (s : StartView) (o o' : ℕ → Own) (a a' : ℕ → Cell) (f f' : ℕ → Bool) → o ≡ o' → a ≡ a' → f ≡ f' → make s o a f ≡ make s o' a' f'
state_eq s o o' a a' f f' e g h = ap (λ (z : ℕ → Own). make s z a f) e ∙ ap (λ (z : ℕ → Cell). make s o' z f) g ∙ ap (λ (z : ℕ → Bool). make s o' a' z) h

pub absorbed : (t : State) (q : ℕ) (names : ℕ → Bool) (h : Effect) → Joint t q names h → settle (with_effect (settle t) q h) ≡ settle (with_effect t q h)
absorbed t q names h w =
    state_eq t.start (settle_own (with_effect (settle t) q h)) (settle_own (with_effect t q h)) (settle_axis (with_effect (settle t) q h)) (settle_axis (with_effect t q h)) (put_on (settle t) q h) (put_on t q h)
    (fun_ext λ c. own_absorbed t q names h w c) (fun_ext λ a. cell_absorbed t q names h w a) (on_same t q h w.runs)
