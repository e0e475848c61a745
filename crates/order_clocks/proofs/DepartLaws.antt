-- Those that go on go from their waits, and what is left of waits and marks.
use Rattle.axis_sets.specs.declared.limits.TheConstants.{AXIS_LIMIT, CHANNEL_LIMIT}
use Rattle.std.proofs.Common.{◌≡◌, ℕ, zero, suc, ◌<◌, ◌≤◌, ◌==◌, ◌&&◌, ◌||◌, not, Bool, true, false, inl, inr, ◌⊎◌, List, [], ◌∷◌, ◌++◌, map, Option, Some, None, refl, sym, ap, ◌∙◌, arith, if◌then◌else◌}
use Rattle.std.specs.Prelude.{is_some}
use Rattle.std.proofs.lemmas.Bool.{cases_Bool, and_parts, or_cases, eqb-true, eq-eqb}
use Rattle.std.proofs.Math.ListN.{get_or-eq_default}
use Rattle.std.proofs.lemmas.List.FromFn.{get_or-map-range_with_len}
use Rattle.axis_sets.specs.Positions.{position_of}
use Rattle.order_clocks.specs.Chains.{IsIn}
use Rattle.order_clocks.specs.Watching.{wait_in, GoesFrom}
use Rattle.order_clocks.proofs.MemberLaws.{in_append}
use Rattle.sync_types.proofs.BoardTests.{no_truth, among_kept, first_passes}
use Rattle.sync_types.proofs.TakenAxes.{named_and_not_own}
use Rattle.sync_types.specs.Boards.{Hold, AtAxes, State, IsRunning, IsHolding, Board, among, channel_numbers, owns, positions_where, grant_with, no_positions}
use Rattle.sync_types.specs.Events.{channels_in}
use Rattle.sync_types.specs.GoingOn.{Going, goes_at_once, goers_at_once, lowers, marks_after_goes, state_after_goes, after_goes, waits_for_axes, axes_asked, can_take, next_taker, axes_to_take, resting_position, grant_of_taker, state_after_taking, after_taking, going_of_taker, takings, takings_from, all_takings, going_of_start, going_at_once, goings_on, after_goings}

-- who waits for axes
axes_lower_none : (s : State) (m : ℕ) → waits_for_axes s ≡ true → lowers s m ≡ false
axes_lower_none (IsHolding (AtAxes from_standing axes) line) m on = refl
axes_lower_none other m on = no_truth false on refl

no_wait_lowers_none : (s : State) (m : ℕ) → wait_in s ≡ None → lowers s m ≡ false
no_wait_lowers_none (IsHolding hold line) m none = absurd (some_none none)
  where
    some_none : {A : Type 0} {x : A} → Some x ≡ None → ⊥
    some_none e = no_truth false (ap is_some (sym e)) refl
no_wait_lowers_none other m none = refl

axes_after_goes : (b : Board) (c : ℕ) → waits_for_axes ((after_goes b).state c) ≡ true → (among (goers_at_once b) c ≡ false) × ((after_goes b).state c ≡ b.state c)
unfolding state_after_goes
axes_after_goes b c on = elim (cases_Bool (among (goers_at_once b) c)) [
  | inl goes ↦ no_truth false (rw goes at on) refl
  | inr stays ↦ (stays, rw stays refl)
]

-- the takings
pub taker_waits : (b : Board) (c : ℕ) → next_taker b ≡ Some c → waits_for_axes (b.state c) ≡ true
taker_waits b c is = (and_parts (waits_for_axes (b.state c)) _ (first_passes (can_take b) channel_numbers c is)).0

pub record TakesFrom (b : Board) (g : Going) : Type 0 where
  pub from : g.from ≡ b.state g.channel
  pub waits : waits_for_axes g.from ≡ true
  pub positions : (x : ℕ) → x < AXIS_LIMIT → is_some (position_of g.grant.at x) ≡ among g.took x
  pub past : (x : ℕ) → AXIS_LIMIT ≤ x → is_some (position_of g.grant.at x) ≡ false
  pub took : (x : ℕ) → among g.took x ≡ true → among (axes_asked g.from) x ≡ true

grant_at : (b : Board) (c x : ℕ) → x < AXIS_LIMIT → is_some (position_of (grant_of_taker b c).at x) ≡ among (axes_to_take b c) x
unfolding grant_of_taker grant_with
grant_at b c x below = ap is_some (get_or-map-range_with_len (λ y. if among (axes_to_take b c) y then Some (resting_position b y (b.axis y)) else None) 0 AXIS_LIMIT x x None below (omega arith)) ∙ chosen (among (axes_to_take b c) x)
  where
    chosen : (t : Bool) → is_some (if t then Some (resting_position b x (b.axis x)) else None) ≡ t
    chosen true = refl
    chosen false = refl

grant_past : (b : Board) (c x : ℕ) → AXIS_LIMIT ≤ x → is_some (position_of (grant_of_taker b c).at x) ≡ false
unfolding grant_of_taker grant_with
grant_past b c x up = ap is_some (get_or-eq_default (positions_where (among (axes_to_take b c)) (λ y. resting_position b y (b.axis y))) None up)

taker_takes : (b : Board) (c : ℕ) → waits_for_axes (b.state c) ≡ true → TakesFrom b (going_of_taker b c)
taker_takes b c waits = record {
  from = refl;
  waits = waits;
  positions = λ x below. grant_at b c x below;
  past = λ x up. grant_past b c x up;
  took = λ x on. (and_parts (among (axes_asked (b.state c)) x) (not (owns b c x)) (sym (named_and_not_own b c x) ∙ on)).0;
}

takes_earlier : (b : Board) (c : ℕ) (g : Going) → TakesFrom (after_taking b c) g → TakesFrom b g
unfolding state_after_taking
takes_earlier b c g t = elim (cases_Bool (g.channel == c)) [
  | inl same ↦ no_truth false (ap waits_for_axes (sym (rw same at t.from)) ∙ t.waits) refl
  | inr other ↦ record { from = rw other at t.from; waits = t.waits; positions = t.positions; past = t.past; took = t.took }
]

pub takings_take : (n : ℕ) (b : Board) (g : Going) → IsIn g (takings n b).goings → TakesFrom b g
takings_take zero b g within = absurd within
takings_take (suc n) b g within = next (takings_take n) (next_taker b) refl within
  where
    next : ((a : Board) (h : Going) → IsIn h (takings n a).goings → TakesFrom a h) → (taker : Option ℕ) → next_taker b ≡ taker → IsIn g (takings_from (takings n) b taker).goings → TakesFrom b g
    next rest None is there = absurd there
    next rest (Some c) is (inl e) = rw e (taker_takes b c (taker_waits b c is))
    next rest (Some c) is (inr later) = takes_earlier b c g (rest (after_taking b c) g later)

-- the waits that are left
pub takings_leave : (n : ℕ) (b : Board) (d : ℕ) → wait_in ((takings n b).board.state d) ≡ (if among (channels_in (takings n b).goings) d then None else wait_in (b.state d))
unfolding state_after_taking
takings_leave zero b d = refl
takings_leave (suc n) b d = next (takings_leave n) (next_taker b)
  where
    left : (same : Bool) (here : Bool) (s : State) (w : Option (Hold × ℕ)) → w ≡ (if here then None else wait_in (if same then IsRunning (grant_of_taker b d) else s)) → w ≡ (if same || here then None else wait_in s)
    left true true s w e = e
    left true false s w e = e
    left false true s w e = e
    left false false s w e = e

    next : ((a : Board) (x : ℕ) → wait_in ((takings n a).board.state x) ≡ (if among (channels_in (takings n a).goings) x then None else wait_in (a.state x)))
        → (taker : Option ℕ) → wait_in ((takings_from (takings n) b taker).board.state d) ≡ (if among (channels_in (takings_from (takings n) b taker).goings) d then None else wait_in (b.state d))
    next rest None = refl
    next rest (Some c) = elim (cases_Bool (c == d)) [
      | inl same ↦
          let e : c ≡ d = eqb-true c d same in
          rw same (rest (after_taking b c) d ∙ rw (sym e, eq-eqb c c refl) (either (among (channels_in (takings n (after_taking b c)).goings) c)))
      | inr other ↦ rw other (rest (after_taking b c) d ∙ rw (turned d c other) refl)
    ]
      where
        none : Option (Hold × ℕ)
        none = None

        either : (t : Bool) → (if t then none else none) ≡ none
        either true = refl
        either false = refl

        turned : (x y : ℕ) → (y == x) ≡ false → (x == y) ≡ false
        turned x y off = elim (cases_Bool (x == y)) [ inl on ↦ no_truth (y == x) (eq-eqb y x (sym (eqb-true x y on))) off | inr same ↦ same ]

takings_marks : (n : ℕ) (b : Board) → (takings n b).board.marks ≡ b.marks
takings_marks zero b = refl
takings_marks (suc n) b = next (takings_marks n) (next_taker b)
  where
    next : ((a : Board) → (takings n a).board.marks ≡ a.marks) → (taker : Option ℕ) → (takings_from (takings n) b taker).board.marks ≡ b.marks
    next rest None = refl
    next rest (Some c) = rest (after_taking b c)

-- a channel of the list is that of some going
pub going_there : (gs : List Going) (c : ℕ) → among (channels_in gs) c ≡ true → (g : Going) × (IsIn g gs × (g.channel ≡ c))
going_there [] c on = no_truth false on refl
going_there (g ∷ gs) c on = elim (or_cases (g.channel == c) (among (channels_in gs) c) on) [
  | inl here ↦ (g, (inl refl, eqb-true g.channel c here))
  | inr later ↦ let w = going_there gs c later in (w.0, (inr w.1.0, w.1.1))
]

in_mapped : {A : Type 0} (f : ℕ → A) (a : A) (xs : List ℕ) → IsIn a (map f xs) → (x : ℕ) × ((among xs x ≡ true) × (a ≡ f x))
in_mapped f a [] within = absurd within
in_mapped f a (y ∷ ys) (inl e) = (y, (rw (eq-eqb y y refl) refl, e))
in_mapped f a (y ∷ ys) (inr later) = let w = in_mapped f a ys later in (w.0, (or_second (y == w.0) (among ys w.0) w.1.0, w.1.1))
  where
    or_second : (p q : Bool) → q ≡ true → (p || q) ≡ true
    or_second true q on = refl
    or_second false q on = on

-- who goes on at once does not wait for axes
goer : (b : Board) (c : ℕ) → among (goers_at_once b) c ≡ true → goes_at_once b (b.state c) ≡ true
goer b c on = (and_parts (among channel_numbers c) (goes_at_once b (b.state c)) (sym (among_kept (λ d. goes_at_once b (b.state d)) channel_numbers c) ∙ on)).1

goes_not_waits : (b : Board) (s : State) → goes_at_once b s ≡ true → waits_for_axes s ≡ false
goes_not_waits b (IsHolding (AtAxes from_standing axes) line) on = no_truth false on refl
goes_not_waits b other on = refl

-- all that go on
pub all_go_from : (b : Board) (starts : List ℕ) (g : Going) → ((s : ℕ) → among starts s ≡ true → wait_in (b.state s) ≡ None) → IsIn g (goings_on b starts) → GoesFrom b g
all_go_from b starts g started within = elim ((in_append g (map (going_of_start b) starts) _).0 within) [
  | inl start ↦ let w = in_mapped (going_of_start b) g starts start in rw w.1.1 (record {
    from = sym (started w.0 w.1.0);
    positions = λ on. no_truth false on refl;
    past = λ on. no_truth false on refl;
    took = λ x on. no_truth false on refl;
  })
  | inr rest ↦ elim ((in_append g (map (going_at_once b) (goers_at_once b)) _).0 rest) [
    | inl once ↦ let w = in_mapped (going_at_once b) g (goers_at_once b) once in rw w.1.1 (record {
      from = refl;
      positions = λ on. no_truth (waits_for_axes (b.state w.0)) on (goes_not_waits b (b.state w.0) (goer b w.0 w.1.0));
      past = λ on. no_truth (waits_for_axes (b.state w.0)) on (goes_not_waits b (b.state w.0) (goer b w.0 w.1.0));
      took = λ x on. no_truth false on refl;
    })
    | inr taker ↦
        let t = takings_take CHANNEL_LIMIT (after_goes b) g taker in
        let back = axes_after_goes b g.channel (ap waits_for_axes (sym t.from) ∙ t.waits) in
        record { from = ap wait_in (t.from ∙ back.1); positions = λ on. t.positions; past = λ on. t.past; took = t.took }
  ]
]

axes_among : (b : Board) (d : ℕ) → among (channels_in (all_takings (after_goes b)).goings) d ≡ true → waits_for_axes ((after_goes b).state d) ≡ true
axes_among b d on =
    let w = going_there (all_takings (after_goes b)).goings d on in
    let t = takings_take CHANNEL_LIMIT (after_goes b) w.0 w.1.0 in
    rw w.1.1 at (ap waits_for_axes (sym t.from) ∙ t.waits)

either_way : (p q r : Bool) → (p || (q || r)) ≡ ((p || q) || r)
either_way true q r = refl
either_way false q r = refl

among_three : (xs ys zs : List Going) (d : ℕ) → among (channels_in (xs ++ (ys ++ zs))) d ≡ (among (channels_in xs) d || (among (channels_in ys) d || among (channels_in zs) d))
among_three [] ys zs d = among_two ys
  where
    among_two : (gs : List Going) → among (channels_in (gs ++ zs)) d ≡ (among (channels_in gs) d || among (channels_in zs) d)
    among_two [] = refl
    among_two (g ∷ gs) = ap (λ (t : Bool). (g.channel == d) || t) (among_two gs) ∙ either_way (g.channel == d) (among (channels_in gs) d) (among (channels_in zs) d)
among_three (x ∷ xs) ys zs d = ap (λ (t : Bool). (x.channel == d) || t) (among_three xs ys zs d) ∙ either_way (x.channel == d) (among (channels_in xs) d) (among (channels_in ys) d || among (channels_in zs) d)

same_channels : (f : ℕ → Going) (xs : List ℕ) → ((c : ℕ) → (f c).channel ≡ c) → channels_in (map f xs) ≡ xs
same_channels f [] same = refl
same_channels f (x ∷ xs) same = rw (same x, same_channels f xs same) refl

-- who goes on: those that start, those of marks and ends, those that take
pub goers_among : (b : Board) (starts : List ℕ) (d : ℕ) → among (channels_in (goings_on b starts)) d
    ≡ (among starts d || (among (goers_at_once b) d || among (channels_in (all_takings (after_goes b)).goings) d))
goers_among b starts d = among_three (map (going_of_start b) starts) (map (going_at_once b) (goers_at_once b)) (all_takings (after_goes b)).goings d
    ∙ rw (same_channels (going_of_start b) starts (λ c. refl), same_channels (going_at_once b) (goers_at_once b) (λ c. refl)) refl

-- the waits and the marks that are left after all of them
pub goings_leave : (b : Board) (starts : List ℕ) (d : ℕ) → ((s : ℕ) → among starts s ≡ true → wait_in (b.state s) ≡ None)
    → wait_in ((after_goings b).state d) ≡ (if among (channels_in (goings_on b starts)) d then None else wait_in (b.state d))
unfolding state_after_goes
goings_leave b starts d started = takings_leave CHANNEL_LIMIT (after_goes b) d ∙ rw (goers_among b starts d) (by_cases (among starts d) (among (goers_at_once b) d) (among (channels_in (all_takings (after_goes b)).goings) d) (started d))
  where
    by_cases : (s a k : Bool) → (s ≡ true → wait_in (b.state d) ≡ None) → (if k then None else wait_in (if a then IsRunning (grant_with b d no_positions) else b.state d)) ≡ (if s || (a || k) then None else wait_in (b.state d))
    by_cases true true true none = refl
    by_cases true true false none = refl
    by_cases true false true none = refl
    by_cases true false false none = none refl
    by_cases false true true none = refl
    by_cases false true false none = refl
    by_cases false false true none = refl
    by_cases false false false none = refl

pub goings_lower : (b : Board) (starts : List ℕ) (d m : ℕ) → ((s : ℕ) → among starts s ≡ true → wait_in (b.state s) ≡ None)
    → (after_goings b).marks d m ≡ (b.marks d m && not (among (channels_in (goings_on b starts)) d && lowers (b.state d) m))
unfolding marks_after_goes
goings_lower b starts d m started = ap (λ (marks : ℕ → ℕ → Bool). marks d m) (takings_marks CHANNEL_LIMIT (after_goes b)) ∙ rw (goers_among b starts d) (by_cases (among starts d) (among (goers_at_once b) d) (among (channels_in (all_takings (after_goes b)).goings) d)
    (λ on. no_wait_lowers_none (b.state d) m (started d on))
    (λ on. let back = axes_after_goes b d (axes_among b d on) in axes_lower_none (b.state d) m (ap waits_for_axes (sym back.1) ∙ axes_among b d on)))
  where
    by_cases : (s a k : Bool) → (s ≡ true → lowers (b.state d) m ≡ false) → (k ≡ true → lowers (b.state d) m ≡ false) → (b.marks d m && not (a && lowers (b.state d) m)) ≡ (b.marks d m && not ((s || (a || k)) && lowers (b.state d) m))
    by_cases s true true by_start by_axes = either s
      where
        either : (t : Bool) → (b.marks d m && not (lowers (b.state d) m)) ≡ (b.marks d m && not ((t || true) && lowers (b.state d) m))
        either true = refl
        either false = refl
    by_cases true true false by_start by_axes = refl
    by_cases false true false by_start by_axes = refl
    by_cases true false k by_start by_axes = rw (by_start refl) refl
    by_cases false false true by_start by_axes = rw (by_axes refl) refl
    by_cases false false false by_start by_axes = refl

-- a channel takes axes once in a step
takings_once : (n : ℕ) (b : Board) (g h : Going) → IsIn g (takings n b).goings → IsIn h (takings n b).goings → g.channel ≡ h.channel → g ≡ h
unfolding state_after_taking
takings_once zero b g h one two same = absurd one
takings_once (suc n) b g h one two same = next (takings_once n) (takings_take n) (next_taker b) one two
  where
    gone : (c : ℕ) (x : Going) → x.channel ≡ c → TakesFrom (after_taking b c) x → ⊥
    gone c x is t = no_truth false (ap waits_for_axes (sym (rw (eq-eqb x.channel c is) at t.from)) ∙ t.waits) refl

    next : ((a : Board) (x y : Going) → IsIn x (takings n a).goings → IsIn y (takings n a).goings → x.channel ≡ y.channel → x ≡ y)
        → ((a : Board) (x : Going) → IsIn x (takings n a).goings → TakesFrom a x)
        → (taker : Option ℕ) → IsIn g (takings_from (takings n) b taker).goings → IsIn h (takings_from (takings n) b taker).goings → g ≡ h
    next rest take None there here = absurd there
    next rest take (Some c) (inl e) (inl f) = e ∙ sym f
    next rest take (Some c) (inl e) (inr later) = absurd (gone c h (sym same ∙ ap (λ (x : Going). x.channel) e) (take (after_taking b c) h later))
    next rest take (Some c) (inr later) (inl f) = absurd (gone c g (same ∙ ap (λ (x : Going). x.channel) f) (take (after_taking b c) g later))
    next rest take (Some c) (inr later) (inr too) = rest (after_taking b c) g h later too same

-- of those that go on the one that is found by its channel has the same wait, and took the same axes
pub takers_alike : (b : Board) (starts : List ℕ) (g h : Going) → ((s : ℕ) → among starts s ≡ true → wait_in (b.state s) ≡ None)
    → IsIn g (goings_on b starts) → IsIn h (goings_on b starts) → g.channel ≡ h.channel → (x : ℕ) → among g.took x ≡ true → among h.took x ≡ true
takers_alike b starts g h started one two same x on = elim (parts g one) [
  | inl none ↦ no_truth false (sym (ap (λ (xs : List ℕ). among xs x) none.0) ∙ on) refl
  | inr there ↦ elim (parts h two) [
    | inl bare ↦ no_truth (waits_for_axes (b.state h.channel)) (waits_both there) bare.1
    | inr here ↦ rw (takings_once CHANNEL_LIMIT (after_goes b) g h there here same) at on
  ]
]
  where
    no_wait : (t : State) → wait_in t ≡ None → waits_for_axes t ≡ false
    no_wait (IsHolding hold line) none = no_truth false (ap is_some (sym none)) refl
    no_wait other none = refl

    parts : (k : Going) → IsIn k (goings_on b starts) → ((k.took ≡ []) × (waits_for_axes (b.state k.channel) ≡ false)) ⊎ IsIn k (all_takings (after_goes b)).goings
    parts k within = elim ((in_append k (map (going_of_start b) starts) _).0 within) [
      | inl start ↦ let w = in_mapped (going_of_start b) k starts start in rw w.1.1 (inl (refl, no_wait (b.state w.0) (started w.0 w.1.0)))
      | inr rest ↦ elim ((in_append k (map (going_at_once b) (goers_at_once b)) _).0 rest) [
        | inl once ↦ let w = in_mapped (going_at_once b) k (goers_at_once b) once in rw w.1.1 (inl (refl, goes_not_waits b (b.state w.0) (goer b w.0 w.1.0)))
        | inr taker ↦ inr taker
      ]
    ]

    -- the channel waits for axes on this board
    waits_both : IsIn g (all_takings (after_goes b)).goings → waits_for_axes (b.state h.channel) ≡ true
    waits_both there =
        let t = takings_take CHANNEL_LIMIT (after_goes b) g there in
        let back = axes_after_goes b g.channel (ap waits_for_axes (sym t.from) ∙ t.waits) in
        ap (λ (c : ℕ). waits_for_axes (b.state c)) (sym same) ∙ (ap waits_for_axes (sym back.1) ∙ (ap waits_for_axes (sym t.from) ∙ t.waits))
