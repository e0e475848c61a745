-- The last event of a channel that leaves something, and whether another is after it.
use Rattle.std.proofs.Common.{◌≡◌, ℕ, zero, suc, ◌≤◌, ◌<◌, ◌*◌, ◌⊎◌, ◌==◌, ◌&&◌, nat_lt, Bool, true, false, List, length, Option, Some, None, inl, inr, refl, sym, ap, subst, ◌∙◌, arith, if◌then◌else◌}
use Rattle.std.proofs.lemmas.Bool.{cases_Bool, eqb-true, eq-eqb, and_parts, and_from, ltb-true, ltb-false, true≢false}
use Rattle.sync_types.specs.Boards.{Board}
use Rattle.sync_types.specs.GoingOn.{Going}
use Rattle.sync_types.specs.Turns.{Move}
use Rattle.sync_types.specs.declared.runs.EventId.{EventId}
use Rattle.sync_types.specs.declared.runs.Race.{Race}
use Rattle.order_clocks.specs.Before.{Before, moment}
use Rattle.order_clocks.specs.Counters.{row}
use Rattle.order_clocks.specs.CourseOf.{course_of}
use Rattle.order_clocks.specs.Courses.{IsEventIn}
use Rattle.order_clocks.specs.Happenings.{happening_at, going_of, of_going}
use Rattle.order_clocks.specs.Races.{place_of}
use Rattle.order_clocks.specs.TracedRaces.{IsTracedRace, Trace, act_leaves, going_leaves, Apart, AreApart, leaves_at, minds_at, shown}
use Rattle.order_clocks.proofs.CounterLaws.{known_at, opened_actor, closed_goer, before_from, before_to}
use Rattle.order_clocks.proofs.OrderLaws.{event_in, event_from, order_in, order_from}
use Rattle.board_laws.proofs.Basics.{no}
use Rattle.board_laws.proofs.Takings.{channels_of}
use Rattle.schedule_laws.specs.Tracked.{rows_at, rows_in, actor, goes_in, last_place}
use Rattle.schedule_laws.proofs.Steps.{found_in}
use Rattle.schedule_laws.proofs.Held.{rows_up, rows_next}

abbrev pub event : ℕ → ℕ → Bool → EventId
event i c go = record { step = i; channel = c; go = go }

-- the event that is the last to leave this
pub record Leaves (b : Board) (moves : List Move) (i c : ℕ) (t : Trace) : Type 0 where
  pub early : EventId
  pub step : early.step < i
  pub channel : early.channel ≡ c
  pub there : IsEventIn (course_of b moves) early
  pub leaves : leaves_at b moves early t ≡ true
  pub place : row (course_of b moves) early c ≡ last_place b moves i c t

left_by : (o : Option Going) (t : Trace) → of_going o (λ g. going_leaves g t) ≡ true → (g : Going) × (o ≡ Some g)
left_by (Some g) t on = (g, refl)
left_by None t on = absurd (true≢false (sym on))

going_event : (b : Board) (moves : List Move) (i c : ℕ) (t : Trace) → of_going (going_of (happening_at b moves i).goings c) (λ g. going_leaves g t) ≡ true → goes_in b moves i c ≡ true
going_event b moves i c t on =
    let g = left_by (going_of (happening_at b moves i).goings c) t on in
    let f = found_in (happening_at b moves i).goings c g.0 g.1 in
    ap (λ (d : ℕ). goes_in b moves i d) (sym f.1) ∙ channels_of (happening_at b moves i).goings g.0 f.0

pub place_from : (b : Board) (moves : List Move) (i c : ℕ) (t : Trace) → (last_place b moves i c t ≡ 0) ⊎ Leaves b moves i c t
place_from b moves zero c t = inl refl
place_from b moves (suc i) c t = elim (cases_Bool (of_going (going_of (happening_at b moves i).goings c) (λ g. going_leaves g t))) [
  | inl goes ↦
      let there = going_event b moves i c t goes in
      inr (record {
        early = event i c true;
        step = omega arith;
        channel = refl;
        there = there;
        leaves = goes;
        place = sym (by_going goes ∙ closed_goer (course_of b moves) i (rows_in b moves i) c c there);
      })
  | inr still ↦ elim (cases_Bool ((c == actor b moves i) && act_leaves (happening_at b moves i) t)) [
    | inl acts ↦
        let p = and_parts (c == actor b moves i) (act_leaves (happening_at b moves i) t) acts in
        let s : c ≡ actor b moves i = eqb-true c (actor b moves i) p.0 in
        inr (record {
          early = event i c false;
          step = omega arith;
          channel = refl;
          there = sym s;
          leaves = p.1;
          place = sym (by_act still acts ∙ opened_actor (course_of b moves) i (rows_at b moves i) c c (sym s));
        })
    | inr neither ↦ elim (place_from b moves i c t) [
      | inl none ↦ inl (by_none still neither ∙ none)
      | inr e ↦
          let l = e.step in
          inr (record { early = e.early; step = omega (arith, l); channel = e.channel; there = e.there; leaves = e.leaves; place = e.place ∙ sym (by_none still neither) })
    ]
  ]
]
  where
    by_going : of_going (going_of (happening_at b moves i).goings c) (λ g. going_leaves g t) ≡ true → last_place b moves (suc i) c t ≡ (rows_at b moves (suc i)).past c c
    by_going on = ap (λ (z : Bool). if z then (rows_at b moves (suc i)).past c c else if (c == actor b moves i) && act_leaves (happening_at b moves i) t then (rows_in b moves i).past c c else last_place b moves i c t) on

    by_act : of_going (going_of (happening_at b moves i).goings c) (λ g. going_leaves g t) ≡ false → ((c == actor b moves i) && act_leaves (happening_at b moves i) t) ≡ true → last_place b moves (suc i) c t ≡ (rows_in b moves i).past c c
    by_act off on =
        ap (λ (z : Bool). if z then (rows_at b moves (suc i)).past c c else if (c == actor b moves i) && act_leaves (happening_at b moves i) t then (rows_in b moves i).past c c else last_place b moves i c t) off
        ∙ ap (λ (z : Bool). if z then (rows_in b moves i).past c c else last_place b moves i c t) on

    by_none : of_going (going_of (happening_at b moves i).goings c) (λ g. going_leaves g t) ≡ false → ((c == actor b moves i) && act_leaves (happening_at b moves i) t) ≡ false → last_place b moves (suc i) c t ≡ last_place b moves i c t
    by_none off out =
        ap (λ (z : Bool). if z then (rows_at b moves (suc i)).past c c else if (c == actor b moves i) && act_leaves (happening_at b moves i) t then (rows_in b moves i).past c c else last_place b moves i c t) off
        ∙ ap (λ (z : Bool). if z then (rows_in b moves i).past c c else last_place b moves i c t) out

-- the place is at least that of each event that leaves it
three : (x y z n : ℕ) (s t : Bool) → (s ≡ true → n ≤ x) → (s ≡ false → t ≡ true → n ≤ y) → (s ≡ false → t ≡ false → n ≤ z) → n ≤ (if s then x else if t then y else z)
three x y z n true t l m u = l refl
three x y z n false true l m u = m refl refl
three x y z n false false l m u = u refl refl

place_at : (b : Board) (moves : List Move) (i c : ℕ) (go : Bool) (t : Trace) → IsEventIn (course_of b moves) (event i c go) → leaves_at b moves (event i c go) t ≡ true → row (course_of b moves) (event i c go) c ≤ last_place b moves (suc i) c t
place_at b moves i c true t there leaves =
    let e = closed_goer (course_of b moves) i (rows_in b moves i) c c there in
    three ((rows_at b moves (suc i)).past c c) ((rows_in b moves i).past c c) (last_place b moves i c t) (row (course_of b moves) (event i c true) c)
    (of_going (going_of (happening_at b moves i).goings c) (λ g. going_leaves g t)) ((c == actor b moves i) && act_leaves (happening_at b moves i) t)
    (λ on. omega (arith, e)) (λ off on. no leaves off) (λ off out. no leaves off)
place_at b moves i c false t there leaves =
    let e = opened_actor (course_of b moves) i (rows_at b moves i) c c there in
    let u = rows_next b moves i c in
    let acts : ((c == actor b moves i) && act_leaves (happening_at b moves i) t) ≡ true = and_from (c == actor b moves i) (act_leaves (happening_at b moves i) t) (eq-eqb c (actor b moves i) (sym there)) leaves in
    three ((rows_at b moves (suc i)).past c c) ((rows_in b moves i).past c c) (last_place b moves i c t) (row (course_of b moves) (event i c false) c)
    (of_going (going_of (happening_at b moves i).goings c) (λ g. going_leaves g t)) ((c == actor b moves i) && act_leaves (happening_at b moves i) t)
    (λ on. omega (arith, e, u)) (λ off on. omega (arith, e)) (λ off out. no acts out)

pub place_over : (b : Board) (moves : List Move) (i j c : ℕ) (go : Bool) (t : Trace) → j < i → IsEventIn (course_of b moves) (event j c go) → leaves_at b moves (event j c go) t ≡ true
    → row (course_of b moves) (event j c go) c ≤ last_place b moves i c t
place_over b moves zero j c go t early there leaves = absurd (omega arith)
place_over b moves (suc i) j c go t early there leaves = elim (cases_Bool (j == i)) [
  | inl y ↦
      let s : j ≡ i = eqb-true j i y in
      subst (λ (k : ℕ). row (course_of b moves) (event j c go) c ≤ last_place b moves (suc k) c t) s (place_at b moves j c go t there leaves)
  | inr n ↦
      let less : j < i = less_than j i early n in
      let old = place_over b moves i j c go t less there leaves in
      let past = (known_at (course_of b moves) i).above j c go there (early_moment j i go less) c in
      let u = rows_up b moves i c in
      let v = rows_next b moves i c in
      three ((rows_at b moves (suc i)).past c c) ((rows_in b moves i).past c c) (last_place b moves i c t) (row (course_of b moves) (event j c go) c)
      (of_going (going_of (happening_at b moves i).goings c) (λ g. going_leaves g t)) ((c == actor b moves i) && act_leaves (happening_at b moves i) t)
      (λ on. omega (arith, past, u, v)) (λ off on. omega (arith, past, u)) (λ off out. old)
]
  where
    less_than : (j i : ℕ) → j < suc i → (j == i) ≡ false → j < i
    less_than j i l n = elim (cases_Bool (nat_lt j i)) [
      | inl y ↦ ltb-true j i y
      | inr off ↦ let u = ltb-false j i off in no (eq-eqb j i (omega (arith, l, u))) n
    ]

    early_moment : (j i : ℕ) (go : Bool) → j < i → moment (event j c go) < 2 * i
    early_moment j i true l = omega (arith, l)
    early_moment j i false l = omega (arith, l)

-- events of two steps, by their counters
pub before_if : (b : Board) (moves : List Move) (early late : EventId) → late.step < length moves → IsEventIn (course_of b moves) early → IsEventIn (course_of b moves) late → early.step < late.step
    → row (course_of b moves) early early.channel ≤ row (course_of b moves) late early.channel → Before b moves early late
before_if b moves early late inside there here less counts =
    order_from b moves early late inside (before_from (course_of b moves) early late there here counts (λ one. let s = one.step in absurd (omega (arith, s, less))))

pub before_only : (b : Board) (moves : List Move) (early late : EventId) (x : ℕ) → Before b moves early late → row (course_of b moves) early x ≤ row (course_of b moves) late x
before_only b moves early late x path = (before_to (course_of b moves) early late x (order_in b moves early late path)).0

-- the step of this place has no race, by its traces
abbrev pub NoRace : Board → List Move → ℕ → Type 0
NoRace b moves i = (race : Race) → IsTracedRace b moves i race → ⊥

-- so what an event of it minds was left before it
pub no_race_counts : (b : Board) (moves : List Move) (i c d : ℕ) (go : Bool) (t : Trace) → NoRace b moves i → i < length moves → IsEventIn (course_of b moves) (event i c go) → (d == c) ≡ false
    → minds_at b moves (event i c go) t ≡ true → last_place b moves i d t ≤ row (course_of b moves) (event i c go) d
no_race_counts b moves i c d go t none inside here other minds = elim (place_from b moves i d t) [
  | inl zero_place ↦ omega (arith, zero_place)
  | inr e ↦ elim (cases_Bool (nat_lt (row (course_of b moves) (event i c go) d) (last_place b moves i d t))) [
    | inr off ↦ ltb-false (row (course_of b moves) (event i c go) d) (last_place b moves i d t) off
    | inl on ↦
        let less = ltb-true (row (course_of b moves) (event i c go) d) (last_place b moves i d t) on in
        let l = e.step in
        let place = e.place in
        let apart : AreApart b moves e.early (event i c go) t = record {
          first = event_from b moves e.early (omega (arith, l, inside)) e.there;
          second = event_from b moves (event i c go) inside here;
          step = l;
          channels = ap (λ (x : ℕ). x == c) e.channel ∙ other;
          left = e.leaves;
          minded = minds;
          unordered = λ path. let up = before_only b moves e.early (event i c go) d path in absurd (omega (arith, up, less, place));
        } in
        absurd (none (shown t (place_of b moves e.early) (place_of b moves (event i c go))) (Apart e.early (event i c go) t refl apart refl))
  ]
]

-- and the other way round
pub counts_no_race : (b : Board) (moves : List Move) (early late : EventId) (t : Trace) → late.step < length moves → AreApart b moves early late t
    → last_place b moves late.step early.channel t ≤ row (course_of b moves) late early.channel → ⊥
counts_no_race b moves early late t inside apart counts =
    let over = place_over b moves late.step early.step early.channel early.go t apart.step (event_in b moves early apart.first) apart.left in
    apart.unordered (before_if b moves early late inside (event_in b moves early apart.first) (event_in b moves late apart.second) apart.step (omega (arith, over, counts)))
