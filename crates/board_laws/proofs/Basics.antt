-- One equation per case.
use Rattle.std.proofs.Common.{◌≡◌, ℕ, zero, suc, ◌≤◌, ◌==◌, ◌&&◌, ◌||◌, not, Bool, true, false, List, [], ◌∷◌, inl, inr, refl, sym, ap, ◌∙◌, arith, map, if◌then◌else◌}
use Rattle.std.proofs.Math.Path.{fun_ext}
use Rattle.std.specs.List.{list_all, list_any}
use Rattle.std.proofs.lemmas.Bool.{cases_Bool, eqb-true, eq-eqb, and_parts, and_from, or_cases, or_left, true≢false}
use Rattle.sync_types.specs.Boards.{IsIdle, IsRunning, IsHolding, HasEnded, AtMarks, AtEnds, AtAxes, State as Doing}
use Rattle.board_laws.specs.Machine.{Need, Mark, End, Axis, Call, Seat, In, Called, Own, State, same, needs_of, holds, is_listed, asks, is_at, is_idle, is_ended, is_running, is_met, ready_at, larger, most, heard, clock_of, partner, mine}

pub no : {A : Type 0} {b : Bool} → b ≡ true → b ≡ false → A
no on off = absurd (true≢false (sym on ∙ off))

pub same_true : (n m : Need) → same n m ≡ true → n ≡ m
same_true (Mark d k) (Mark e j) h =
    let p = and_parts (d == e) (k == j) h in
    rw (eqb-true d e p.0, eqb-true k j p.1) refl
same_true (End d) (End e) h = rw (eqb-true d e h) refl
same_true (Axis d) (Axis e) h = rw (eqb-true d e h) refl
same_true (Call d) (Call e) h = rw (eqb-true d e h) refl
same_true n m h = absurd (true≢false (sym h))

pub same_self : (n : Need) → same n n ≡ true
same_self (Mark d k) = and_from (d == d) (k == k) (eq-eqb d d refl) (eq-eqb k k refl)
same_self (End d) = eq-eqb d d refl
same_self (Axis d) = eq-eqb d d refl
same_self (Call d) = eq-eqb d d refl

pub all_at : (f : Need → Bool) (ns : List Need) (n : Need) → list_all f ns ≡ true → list_any (same n) ns ≡ true → f n ≡ true
all_at f [] n all in_it = absurd (true≢false (sym in_it))
all_at f (m ∷ ns) n all in_it =
    let p = and_parts (f m) (list_all f ns) all in
    elim (or_cases (same n m) (list_any (same n) ns) in_it) [
      | inl here ↦ rw (same_true n m here) p.0
      | inr there ↦ all_at f ns n p.1 there
    ]

pub from_all : (f : Need → Bool) (ns : List Need) → ((n : Need) → list_any (same n) ns ≡ true → f n ≡ true) → list_all f ns ≡ true
from_all f [] each = refl
from_all f (m ∷ ns) each =
    and_from (f m) (list_all f ns) (each m (or_left (same m m) (list_any (same m) ns) (same_self m)))
    (from_all f ns (λ n there. each n (or_there n m ns there)))
  where
    or_there : (n m : Need) (ns : List Need) → list_any (same n) ns ≡ true → (same n m || list_any (same n) ns) ≡ true
    or_there n m ns there = elim (cases_Bool (same n m)) [ inl y ↦ rw y refl | inr z ↦ rw (z, there) refl ]

-- what is ready has all that it needs
pub ready_met : (t : State) (c : ℕ) (s : Seat) (n : Need) → ready_at t c s ≡ true → asks s n ≡ true → is_met t c n ≡ true
unfolding ready_at asks
ready_met t c s n r a =
    all_at (is_met t c) (needs_of s) n (and_parts (is_listed c s) (list_all (is_met t c) (needs_of s)) (and_parts (holds s) (is_listed c s && list_all (is_met t c) (needs_of s)) r).1).1 a

pub ready_holds : (t : State) (c : ℕ) (s : Seat) → ready_at t c s ≡ true → holds s ≡ true
unfolding ready_at
ready_holds t c s r = (and_parts (holds s) (is_listed c s && list_all (is_met t c) (needs_of s)) r).0

pub ready_listed : (t : State) (c : ℕ) (s : Seat) → ready_at t c s ≡ true → is_listed c s ≡ true
unfolding ready_at
ready_listed t c s r = (and_parts (is_listed c s) (list_all (is_met t c) (needs_of s)) (and_parts (holds s) (is_listed c s && list_all (is_met t c) (needs_of s)) r).1).0

pub ready_from : (t : State) (c : ℕ) (s : Seat) → holds s ≡ true → is_listed c s ≡ true → ((n : Need) → asks s n ≡ true → is_met t c n ≡ true) → ready_at t c s ≡ true
unfolding ready_at asks
ready_from t c s h l each =
    and_from (holds s) (is_listed c s && list_all (is_met t c) (needs_of s)) h (and_from (is_listed c s) (list_all (is_met t c) (needs_of s)) l (from_all (is_met t c) (needs_of s) each))

pub Bool_eq : (x y : Bool) → (x ≡ true → y ≡ true) → (y ≡ true → x ≡ true) → x ≡ y
Bool_eq x y to back = elim (cases_Bool x) [
  | inl a ↦ rw (a, to a) refl
  | inr b ↦ elim (cases_Bool y) [ inl c ↦ no (back c) b | inr d ↦ rw (b, d) refl ]
]

pub ready_agree : (t u : State) (c : ℕ) (s : Seat) → ((n : Need) → asks s n ≡ true → is_met t c n ≡ is_met u c n) → ready_at t c s ≡ ready_at u c s
ready_agree t u c s agree = Bool_eq (ready_at t c s) (ready_at u c s)
    (λ r. ready_from u c s (ready_holds t c s r) (ready_listed t c s r) (λ n a. sym (agree n a) ∙ ready_met t c s n r a))
    (λ r. ready_from t c s (ready_holds u c s r) (ready_listed u c s r) (λ n a. agree n a ∙ ready_met u c s n r a))

pub asks_holds : (s : Seat) (n : Need) → asks s n ≡ true → holds s ≡ true
unfolding asks
asks_holds (In (IsHolding (AtMarks k named) line)) n a = refl
asks_holds (In (IsHolding (AtEnds named) line)) n a = refl
asks_holds (In (IsHolding (AtAxes from_standing named) line)) n a = refl
asks_holds (Called p) n a = refl
asks_holds s n a = absurd (true≢false (sym a))

most_in : (f g : Need → ℕ) (ns : List Need) → ((n : Need) → list_any (same n) ns ≡ true → f n ≡ g n) → most f ns ≡ most g ns
most_in f g [] each = refl
most_in f g (m ∷ ns) each =
    let tail : most f ns ≡ most g ns = most_in f g ns (λ n there. each n (or_there n m ns there)) in
    rw (each m (or_left (same m m) (list_any (same m) ns) (same_self m)), tail) refl
  where
    or_there : (n m : Need) (ns : List Need) → list_any (same n) ns ≡ true → (same n m || list_any (same n) ns) ≡ true
    or_there n m ns there = elim (cases_Bool (same n m)) [ inl y ↦ rw y refl | inr z ↦ rw (z, there) refl ]

most_under : (f : Need → ℕ) (ns : List Need) (bound : ℕ) → ((n : Need) → list_any (same n) ns ≡ true → f n ≤ bound) → most f ns ≤ bound
most_under f [] bound each = omega arith
most_under f (m ∷ ns) bound each =
    larger_under (f m) (most f ns) bound (each m (or_left (same m m) (list_any (same m) ns) (same_self m))) (most_under f ns bound (λ n there. each n (or_there n m ns there)))
  where
    or_there : (n m : Need) (ns : List Need) → list_any (same n) ns ≡ true → (same n m || list_any (same n) ns) ≡ true
    or_there n m ns there = elim (cases_Bool (same n m)) [ inl y ↦ rw y refl | inr z ↦ rw (z, there) refl ]

    larger_under : (a b n : ℕ) → a ≤ n → b ≤ n → larger a b ≤ n
    larger_under zero b n p q = q
    larger_under (suc a) zero n p q = p
    larger_under (suc a) (suc b) zero p q = absurd (omega arith)
    larger_under (suc a) (suc b) (suc n) p q = let e : larger a b ≤ n = larger_under a b n (omega arith) (omega arith) in omega arith

pub clock_agree : (t u : State) (c : ℕ) (o : Own) → ((x : ℕ) (n : Need) → asks o.seat n ≡ true → heard t c x n ≡ heard u c x n) → clock_of t c o ≡ clock_of u c o
unfolding clock_of asks
clock_agree t u c o each = fun_ext λ x. rw (most_in (heard t c x) (heard u c x) (needs_of o.seat) (each x)) refl

pub clock_own : (t : State) (c : ℕ) (o : Own) → clock_of t c o c ≡ suc o.count
unfolding clock_of
clock_own t c o = rw (eq-eqb c c refl) refl

pub clock_under : (t : State) (c x : ℕ) (o : Own) (bound : ℕ) → (x == c) ≡ false → o.past x ≤ bound → ((n : Need) → asks o.seat n ≡ true → heard t c x n ≤ bound) → clock_of t c o x ≤ bound
unfolding clock_of asks
clock_under t c x o bound other own each = rw other (larger_under (o.past x) (most (heard t c x) (needs_of o.seat)) bound own (most_under (heard t c x) (needs_of o.seat) bound each))
  where
    larger_under : (a b n : ℕ) → a ≤ n → b ≤ n → larger a b ≤ n
    larger_under zero b n p q = q
    larger_under (suc a) zero n p q = p
    larger_under (suc a) (suc b) zero p q = absurd (omega arith)
    larger_under (suc a) (suc b) (suc n) p q = let e : larger a b ≤ n = larger_under a b n (omega arith) (omega arith) in omega arith

-- seats
pub mark_at : (s : Seat) (d k : ℕ) → asks s (Mark d k) ≡ true → is_at s k ≡ true
unfolding asks
mark_at (In (IsHolding (AtMarks j named) line)) d k a = in_named named a
  where
    in_named : (ns : List ℕ) → list_any (same (Mark d k)) (map (λ (e : ℕ). Mark e j) ns) ≡ true → (j == k) ≡ true
    in_named [] h = absurd (true≢false (sym h))
    in_named (e ∷ ns) h = elim (or_cases ((d == e) && (k == j)) (list_any (same (Mark d k)) (map (λ (e : ℕ). Mark e j) ns)) h) [
      | inl here ↦ let p = and_parts (d == e) (k == j) here in eq-eqb j k (sym (eqb-true k j p.1))
      | inr there ↦ in_named ns there
    ]
mark_at (In (IsHolding (AtEnds named) line)) d k a = in_named named a
  where
    in_named : (ns : List ℕ) → list_any (same (Mark d k)) (map (λ (e : ℕ). End e) ns) ≡ true → false ≡ true
    in_named [] h = h
    in_named (e ∷ ns) h = in_named ns h
mark_at (In (IsHolding (AtAxes from_standing named) line)) d k a = in_named named a
  where
    in_named : (ns : List ℕ) → list_any (same (Mark d k)) (map (λ (e : ℕ). Axis e) ns) ≡ true → false ≡ true
    in_named [] h = h
    in_named (e ∷ ns) h = in_named ns h
mark_at s d k a = absurd (true≢false (sym a))

-- at a mark number all needs are marks of that number
pub at_needs : (s : Seat) (k : ℕ) (n : Need) → is_at s k ≡ true → asks s n ≡ true → (x : ℕ) × (n ≡ Mark x k)
unfolding asks
at_needs (In (IsHolding (AtMarks j named) line)) k n at a = in_named named a
  where
    in_named : (ns : List ℕ) → list_any (same n) (map (λ (e : ℕ). Mark e j) ns) ≡ true → (x : ℕ) × (n ≡ Mark x k)
    in_named [] h = absurd (true≢false (sym h))
    in_named (e ∷ ns) h = elim (or_cases (same n (Mark e j)) (list_any (same n) (map (λ (e : ℕ). Mark e j) ns)) h) [
      | inl here ↦ (e, same_true n (Mark e j) here ∙ ap (λ (i : ℕ). Mark e i) (eqb-true j k at))
      | inr there ↦ in_named ns there
    ]
at_needs s k n at a = absurd (true≢false (sym at))

pub at_holds : (s : Seat) (k : ℕ) → is_at s k ≡ true → holds s ≡ true
at_holds (In (IsHolding (AtMarks j named) line)) k at = refl
at_holds s k at = absurd (true≢false (sym at))

pub call_needs : (s : Seat) (r : ℕ) (n : Need) → asks s (Call r) ≡ true → asks s n ≡ true → n ≡ Call r
unfolding asks
call_needs (Called q) r n c a = elim (or_cases (q_is n q) false a) [
  | inl here ↦ same_true n (Call q) here ∙ ap Call (sym (eqb-true r q (or_one (r == q) c)))
  | inr there ↦ absurd (true≢false (sym there))
]
  where
    q_is : Need → ℕ → Bool
    q_is n q = same n (Call q)

    or_one : (x : Bool) → (x || false) ≡ true → x ≡ true
    or_one true h = refl
    or_one false h = h
call_needs (In (IsHolding (AtMarks j named) line)) r n c a = absurd (in_named named c)
  where
    in_named : (ns : List ℕ) → list_any (same (Call r)) (map (λ (e : ℕ). Mark e j) ns) ≡ true → ⊥
    in_named [] h = true≢false (sym h)
    in_named (e ∷ ns) h = in_named ns h
call_needs (In (IsHolding (AtEnds named) line)) r n c a = absurd (in_named named c)
  where
    in_named : (ns : List ℕ) → list_any (same (Call r)) (map (λ (e : ℕ). End e) ns) ≡ true → ⊥
    in_named [] h = true≢false (sym h)
    in_named (e ∷ ns) h = in_named ns h
call_needs (In (IsHolding (AtAxes from_standing named) line)) r n c a = absurd (in_named named c)
  where
    in_named : (ns : List ℕ) → list_any (same (Call r)) (map (λ (e : ℕ). Axis e) ns) ≡ true → ⊥
    in_named [] h = true≢false (sym h)
    in_named (e ∷ ns) h = in_named ns h
call_needs s r n c a = absurd (true≢false (sym c))

pub idle_asks : (s : Seat) (n : Need) → is_idle s ≡ true → asks s n ≡ false
unfolding asks
idle_asks (In IsIdle) n i = refl
idle_asks s n i = absurd (true≢false (sym i))

pub running_asks : (s : Seat) (n : Need) → is_running s ≡ true → asks s n ≡ false
unfolding asks
running_asks (In (IsRunning g)) n i = refl
running_asks s n i = absurd (true≢false (sym i))

pub running_ready : (t : State) (c : ℕ) (s : Seat) → is_running s ≡ true → ready_at t c s ≡ false
unfolding ready_at
running_ready t c (In (IsRunning g)) i = refl
running_ready t c s i = absurd (true≢false (sym i))

pub called_asks : (p : ℕ) (n : Need) → same n (Call p) ≡ false → asks (Called p) n ≡ false
unfolding asks
called_asks p n h = rw h refl

pub ended_holds : (s : Seat) → is_ended s ≡ true → holds s ≡ false
ended_holds (In (HasEnded line)) e = refl
ended_holds s e = absurd (true≢false (sym e))

pub idle_holds : (s : Seat) → is_idle s ≡ true → holds s ≡ false
idle_holds (In IsIdle) e = refl
idle_holds s e = absurd (true≢false (sym e))

pub ready_awake : (t : State) (c : ℕ) (s : Seat) → ready_at t c s ≡ true → is_idle s ≡ false
ready_awake t c s r = elim (cases_Bool (is_idle s)) [ inl i ↦ no (ready_holds t c s r) (idle_holds s i) | inr n ↦ n ]

-- who is in a state is not started
pub in_no_call : (state : Doing) (r : ℕ) → asks (In state) (Call r) ≡ false
unfolding asks
in_no_call (IsHolding (AtMarks k named) line) r = go named
  where
    go : (ns : List ℕ) → list_any (same (Call r)) (map (λ (e : ℕ). Mark e k) ns) ≡ false
    go [] = refl
    go (n ∷ ns) = go ns
in_no_call (IsHolding (AtEnds named) line) r = go named
  where
    go : (ns : List ℕ) → list_any (same (Call r)) (map (λ (e : ℕ). End e) ns) ≡ false
    go [] = refl
    go (n ∷ ns) = go ns
in_no_call (IsHolding (AtAxes from_standing axes) line) r = go axes
  where
    go : (ns : List ℕ) → list_any (same (Call r)) (map (λ (e : ℕ). Axis e) ns) ≡ false
    go [] = refl
    go (n ∷ ns) = go ns
in_no_call state r = refl

pub off_from : (b : Bool) → not b ≡ true → b ≡ false
off_from true h = sym h
off_from false h = refl

pub called_self : (p : ℕ) → asks (Called p) (Call p) ≡ true
unfolding asks
called_self p = rw (eq-eqb p p refl) refl

-- a clock counts what it had and what it hears
larger_left : (a b n : ℕ) → n ≤ a → n ≤ larger a b
larger_left zero b n l = omega (arith, l)
larger_left (suc a) zero n l = l
larger_left (suc a) (suc b) zero l = omega arith
larger_left (suc a) (suc b) (suc n) l = let e = larger_left a b n (omega (arith, l)) in omega (arith, e)

larger_right : (a b n : ℕ) → n ≤ b → n ≤ larger a b
larger_right zero b n l = l
larger_right (suc a) zero n l = omega (arith, l)
larger_right (suc a) (suc b) zero l = omega arith
larger_right (suc a) (suc b) (suc n) l = let e = larger_right a b n (omega (arith, l)) in omega (arith, e)

pub larger_one : (a b : ℕ) → a ≤ larger a b
larger_one a b = larger_left a b a (omega arith)

pub larger_two : (a b : ℕ) → b ≤ larger a b
larger_two a b = larger_right a b b (omega arith)

most_over : (f : Need → ℕ) (ns : List Need) (n : Need) → list_any (same n) ns ≡ true → f n ≤ most f ns
most_over f [] n on = absurd (true≢false (sym on))
most_over f (m ∷ ns) n on = elim (or_cases (same n m) (list_any (same n) ns) on) [
  | inl here ↦ let e : f n ≡ f m = ap f (same_true n m here) in let l = larger_one (f m) (most f ns) in omega (arith, e, l)
  | inr later ↦ let u = most_over f ns n later in larger_right (f m) (most f ns) (f n) u
]

larger_bound : (a b n : ℕ) → a ≤ n → b ≤ n → larger a b ≤ n
larger_bound zero b n l m = m
larger_bound (suc a) zero n l m = l
larger_bound (suc a) (suc b) zero l m = absurd (omega arith)
larger_bound (suc a) (suc b) (suc n) l m = let e = larger_bound a b n (omega (arith, l)) (omega (arith, m)) in omega (arith, e)

pub clock_past : (t : State) (c x : ℕ) (o : Own) → (x == c) ≡ false → o.past x ≤ clock_of t c o x
unfolding clock_of
clock_past t c x o n = rw n (larger_one (o.past x) (most (heard t c x) (needs_of o.seat)))

pub clock_heard : (t : State) (c x : ℕ) (o : Own) (n : Need) → (x == c) ≡ false → asks o.seat n ≡ true → heard t c x n ≤ clock_of t c o x
unfolding clock_of asks
clock_heard t c x o n other on = rw other (larger_right (o.past x) (most (heard t c x) (needs_of o.seat)) (heard t c x n) (most_over (heard t c x) (needs_of o.seat) n on))

pub heard_mark : (t : State) (c x d k : ℕ) → (d == c) ≡ false → (t.own d).raised k x ≤ heard t c x (Mark d k)
unfolding heard
heard_mark t c x d k n = rw n (larger_one ((t.own d).raised k x) (if (x == d) && partner t c d k then suc (t.own d).count else 0))

pub heard_partner : (t : State) (c d k : ℕ) → (d == c) ≡ false → ready_at t d (t.own d).seat ≡ true → asks (t.own d).seat (Mark c k) ≡ true → suc (t.own d).count ≤ heard t c d (Mark d k)
unfolding heard
heard_partner t c d k n r y = rw (n, eq-eqb d d refl, r, y) (larger_two ((t.own d).raised k d) (suc (t.own d).count))

pub heard_axis : (t : State) (c x a : ℕ) → mine t c a ≡ false → heard t c x (Axis a) ≡ (t.axis a).freed x
unfolding heard
heard_axis t c x a n = rw n refl

pub heard_own_axis : (t : State) (c x a : ℕ) → mine t c a ≡ true → heard t c x (Axis a) ≡ 0
unfolding heard
heard_own_axis t c x a n = rw n refl

pub heard_end : (t : State) (c x d : ℕ) → heard t c x (End d) ≡ (t.own d).past x
unfolding heard
heard_end t c x d = refl

pub heard_call : (t : State) (c x p : ℕ) → heard t c x (Call p) ≡ (t.own p).past x
unfolding heard
heard_call t c x p = refl

-- of a mark it hears the raising, or that the two are one event
pub heard_under : (t : State) (c x d k n : ℕ) → ((d == c) ≡ false → (t.own d).raised k x ≤ n) → ((d == c) ≡ false → (x == d) ≡ true → ready_at t d (t.own d).seat ≡ true → asks (t.own d).seat (Mark c k) ≡ true → suc (t.own d).count ≤ n)
    → heard t c x (Mark d k) ≤ n
unfolding heard
heard_under t c x d k n l m = elim (cases_Bool (d == c)) [
  | inl y ↦ rw y (omega arith)
  | inr off ↦ rw off (elim (cases_Bool ((x == d) && partner t c d k)) [
    | inr z ↦ rw z (zero_right ((t.own d).raised k x) (l off))
    | inl z ↦
        let p = and_parts (x == d) (partner t c d k) z in
        let q = and_parts (ready_at t d (t.own d).seat) (asks (t.own d).seat (Mark c k)) p.1 in
        rw z (both ((t.own d).raised k x) (suc (t.own d).count) (l off) (m off p.0 q.0 q.1))
  ])
]
  where
    zero_right : (a : ℕ) → a ≤ n → larger a 0 ≤ n
    zero_right zero l = omega arith
    zero_right (suc a) l = l

    both : (a b : ℕ) → a ≤ n → b ≤ n → larger a b ≤ n
    both a b l m = larger_bound a b n l m
