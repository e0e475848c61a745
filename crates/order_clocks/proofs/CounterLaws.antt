-- The counters tell what is before what.
use Rattle.std.proofs.Common.{◌≡◌, ℕ, zero, suc, ◌+◌, ◌*◌, ◌<◌, ◌≤◌, ◌⊎◌, ◌==◌, max, Bool, true, false, inl, inr, List, [], ◌∷◌, filter, refl, sym, ap, ◌∙◌, arith, if◌then◌else◌}
use Rattle.order_clocks.specs.Happenings.{Key}
use Rattle.order_clocks.specs.Before.{moment}
use Rattle.std.proofs.Math.Nat.{le-max_left, le-max_right}
use Rattle.std.proofs.lemmas.Bool.{cases_Bool, eqb-true, eq-eqb, or_cases, or_left, or_right, true≢false, cases_order, cases_lt}
use Rattle.sync_types.specs.Boards.{among}
use Rattle.order_clocks.specs.Chains.{IsIn}
use Rattle.sync_types.specs.declared.runs.EventId.{EventId}
use Rattle.order_clocks.specs.Courses.{Course, IsEventIn, AreJoinedIn, AreOneIn, IsLastGiftIn, RuleIn, InOrder, GivesKey, FollowsIn, IsBeforeIn}
use Rattle.order_clocks.specs.Counters.{LastRows, act_row, rows_after_act, own_row, members, go_row, rows_after_goings, last_rows, row}
use Rattle.counter_rows.specs.Rows.{top}
use Rattle.order_clocks.proofs.ChainLaws.{Counted, leads_from, leads_to}

pub max_either : (a b : ℕ) → (max a b ≡ a) ⊎ (max a b ≡ b)
max_either a b = elim (cases_lt a b) [ inl h ↦ inr (omega arith) | inr h ↦ inl (omega arith) ]

pub top_above : {A : Type 0} (f : A → ℕ) (xs : List A) (a : A) → IsIn a xs → f a ≤ top f xs
top_above f [] a within = elim within [ ]
top_above f (x ∷ xs) a within = elim within [
  | inl e ↦ rw e (le-max_left (f x) (top f xs))
  | inr later ↦
      let up = top_above f xs a later in
      let right = le-max_right (f x) (top f xs) in
      omega arith
]

pub top_attained : {A : Type 0} (f : A → ℕ) (xs : List A) → (top f xs ≡ 0) ⊎ ((a : A) × (IsIn a xs × (f a ≡ top f xs)))
top_attained f [] = inl refl
top_attained f (x ∷ xs) = elim (max_either (f x) (top f xs)) [
  | inl e ↦ inr (x, (inl refl, sym e))
  | inr e ↦ elim (top_attained f xs) [
    | inl none ↦ inl (e ∙ none)
    | inr w ↦ inr (w.0, (inr w.1.0, w.1.1 ∙ sym e))
  ]
]

pub is_in : (xs : List ℕ) (c : ℕ) → among xs c ≡ true → IsIn c xs
is_in [] c h = true≢false (sym h)
is_in (x ∷ xs) c h = elim (or_cases (x == c) (among xs c) h) [
  | inl e ↦ inl (sym (eqb-true x c e))
  | inr later ↦ inr (is_in xs c later)
]

pub contains_from : (xs : List ℕ) (c : ℕ) → IsIn c xs → among xs c ≡ true
contains_from [] c h = elim h [ ]
contains_from (x ∷ xs) c h = elim h [
  | inl e ↦ or_left (x == c) (among xs c) (eq-eqb x c (sym e))
  | inr later ↦ or_right (x == c) (among xs c) (contains_from xs c later)
]

-- members of a group
pub in_filter : (p : ℕ → Bool) (xs : List ℕ) (c : ℕ) → IsIn c (filter p xs) → IsIn c xs × (p c ≡ true)
in_filter p [] c h = elim h [ ]
in_filter p (x ∷ xs) c h = elim (cases_Bool (p x)) [
  | inl on ↦ elim (rw on at h) as (λ w. IsIn c (x ∷ xs) × (p c ≡ true)) [
    | inl e ↦ (inl e, rw e on)
    | inr later ↦ let r = in_filter p xs c later in (inr r.0, r.1)
  ]
  | inr off ↦ let r = in_filter p xs c (rw off at h) in (inr r.0, r.1)
]

pub filter_in : (p : ℕ → Bool) (xs : List ℕ) (c : ℕ) → IsIn c xs → p c ≡ true → IsIn c (filter p xs)
filter_in p [] c h on = elim h [ ]
filter_in p (x ∷ xs) c h on = elim (cases_Bool (p x)) [
  | inl kept ↦ rw kept (elim h [ inl e ↦ inl e | inr later ↦ inr (filter_in p xs c later on) ])
  | inr left ↦ rw left (elim h [ inl e ↦ absurd (true≢false (sym on ∙ ap p e ∙ left)) | inr later ↦ filter_in p xs c later on ])
]

abbrev pub name : ℕ → ℕ → Bool → EventId
name j c g = record { step = j; channel = c; go = g }

-- what the state says of all events before a moment
pub record IsLatest (run : Course) (s : LastRows) (m c j : ℕ) (g : Bool) : Type 0 where
  pub event : IsEventIn run (name j c g)
  pub early : moment (name j c g) < m
  pub same : (x : ℕ) → s.past c x ≡ row run (name j c g) x

pub record IsGiven (run : Course) (s : LastRows) (m : ℕ) (k : Key) (j : ℕ) : Type 0 where
  pub gives : run.gives j k ≡ true
  pub early : 2 * j < m
  pub none : (i : ℕ) → j < i → 2 * i < m → run.gives i k ≡ false
  pub same : (x : ℕ) → s.last k x ≡ row run (name j (run.actor j) false) x

pub record Known (run : Course) (s : LastRows) (m : ℕ) : Type 0 where
  pub above : (j c : ℕ) (g : Bool) → IsEventIn run (name j c g) → moment (name j c g) < m → (x : ℕ) → row run (name j c g) x ≤ s.past c x
  pub origin : (c : ℕ) → ((x : ℕ) → s.past c x ≡ 0) ⊎ ((j : ℕ) × ((g : Bool) × IsLatest run s m c j g))
  pub gift : (k : Key) → (((x : ℕ) → s.last k x ≡ 0) × ((i : ℕ) → 2 * i < m → run.gives i k ≡ false)) ⊎ ((j : ℕ) × IsGiven run s m k j)

pub opened_actor : (run : Course) (i : ℕ) (s : LastRows) (c x : ℕ) → run.actor i ≡ c → (rows_after_act run i s).past c x ≡ act_row run i s x
unfolding rows_after_act
opened_actor run i s c x e = rw (eq-eqb c (run.actor i) (sym e)) refl

pub opened_other : (run : Course) (i : ℕ) (s : LastRows) (c x : ℕ) → (c == run.actor i) ≡ false → (rows_after_act run i s).past c x ≡ s.past c x
unfolding rows_after_act
opened_other run i s c x e = rw e refl

pub opened_given : (run : Course) (i : ℕ) (s : LastRows) (k : Key) (x : ℕ) → run.gives i k ≡ true → (rows_after_act run i s).last k x ≡ act_row run i s x
unfolding rows_after_act
opened_given run i s k x e = rw e refl

pub opened_kept : (run : Course) (i : ℕ) (s : LastRows) (k : Key) (x : ℕ) → run.gives i k ≡ false → (rows_after_act run i s).last k x ≡ s.last k x
unfolding rows_after_act
opened_kept run i s k x e = rw e refl

act_above : (run : Course) (i : ℕ) (s : LastRows) (x : ℕ) → s.past (run.actor i) x ≤ act_row run i s x
unfolding act_row
act_above run i s x = elim (cases_Bool (x == run.actor i)) [ inl on ↦ rw on (omega arith) | inr off ↦ rw off (omega arith) ]

act_more : (run : Course) (i : ℕ) (s : LastRows) → s.past (run.actor i) (run.actor i) < act_row run i s (run.actor i)
unfolding act_row
act_more run i s = rw (eq-eqb (run.actor i) (run.actor i) refl) (omega arith)

act_elsewhere : (run : Course) (i : ℕ) (s : LastRows) (x : ℕ) → (x == run.actor i) ≡ false → act_row run i s x ≡ s.past (run.actor i) x
unfolding act_row
act_elsewhere run i s x e = rw e refl

pub closed_goer : (run : Course) (i : ℕ) (s : LastRows) (c x : ℕ) → among (run.goers i) c ≡ true → (rows_after_goings run i s).past c x ≡ go_row run i s (run.group i c) x
unfolding rows_after_goings
closed_goer run i s c x e = rw e refl

pub closed_other : (run : Course) (i : ℕ) (s : LastRows) (c x : ℕ) → among (run.goers i) c ≡ false → (rows_after_goings run i s).past c x ≡ s.past c x
unfolding rows_after_goings
closed_other run i s c x e = rw e refl

pub closed_last : (run : Course) (i : ℕ) (s : LastRows) (k : Key) (x : ℕ) → (rows_after_goings run i s).last k x ≡ s.last k x
unfolding rows_after_goings
closed_last run i s k x = refl

own_past : (run : Course) (i : ℕ) (s : LastRows) (c x : ℕ) → s.past c x ≤ own_row run i s c x
unfolding own_row
own_past run i s c x = le-max_left (s.past c x) (top (λ k. s.last k x) (run.asks i c))

own_last : (run : Course) (i : ℕ) (s : LastRows) (c x : ℕ) (k : Key) → IsIn k (run.asks i c) → s.last k x ≤ own_row run i s c x
unfolding own_row
own_last run i s c x k keys_of =
    let up = top_above (λ k. s.last k x) (run.asks i c) k keys_of in
    let right = le-max_right (s.past c x) (top (λ k. s.last k x) (run.asks i c)) in
    omega arith

pub member : (run : Course) (i c : ℕ) → among (run.goers i) c ≡ true → IsIn c (members run i (run.group i c))
member run i c goes = filter_in (λ d. run.group i d == run.group i c) (run.goers i) c (is_in (run.goers i) c goes) (eq-eqb (run.group i c) (run.group i c) refl)

pub member_parts : (run : Course) (i g c : ℕ) → IsIn c (members run i g) → (among (run.goers i) c ≡ true) × (run.group i c ≡ g)
member_parts run i g c within =
    let r = in_filter (λ d. run.group i d == g) (run.goers i) c within in
    (contains_from (run.goers i) c r.0, eqb-true (run.group i c) g r.1)

go_above : (run : Course) (i : ℕ) (s : LastRows) (g c x : ℕ) → IsIn c (members run i g) → own_row run i s c x ≤ go_row run i s g x
unfolding go_row
go_above run i s g c x within =
    let up = top_above (λ d. own_row run i s d x) (members run i g) c within in
    elim (cases_Bool (among (members run i g) x)) [ inl on ↦ rw on (omega arith) | inr off ↦ rw off up ]

go_more : (run : Course) (i : ℕ) (s : LastRows) (g c : ℕ) → IsIn c (members run i g) → own_row run i s c c < go_row run i s g c
unfolding go_row
go_more run i s g c within =
    let up = top_above (λ d. own_row run i s d c) (members run i g) c within in
    rw (contains_from (members run i g) c within) (omega arith)

pub go_elsewhere : (run : Course) (i : ℕ) (s : LastRows) (g x : ℕ) → among (members run i g) x ≡ false → go_row run i s g x ≡ top (λ c. own_row run i s c x) (members run i g)
unfolding go_row
go_elsewhere run i s g x e = rw e refl

-- the two parts of a step keep what is known
up_open : (run : Course) (i : ℕ) (s : LastRows) (c x : ℕ) → s.past c x ≤ (rows_after_act run i s).past c x
up_open run i s c x = elim (cases_Bool (c == run.actor i)) [
  | inl on ↦
      let e : c ≡ run.actor i = eqb-true c (run.actor i) on in
      rw (opened_actor run i s c x (sym e), e) (act_above run i s x)
  | inr off ↦ rw (opened_other run i s c x off) (omega arith)
]

known_open : (run : Course) (i : ℕ) → Known run (last_rows run i) (2 * i) → Known run (rows_after_act run i (last_rows run i)) (2 * i + 1)
known_open run i known = record { above = above; origin = origin; gift = gift }
  where
    above : (j c : ℕ) (g : Bool) → IsEventIn run (name j c g) → moment (name j c g) < 2 * i + 1 → (x : ℕ) → row run (name j c g) x ≤ (rows_after_act run i (last_rows run i)).past c x
    above j c true event early x =
        let old = known.above j c true event (omega arith) x in
        let up = up_open run i (last_rows run i) c x in
        omega arith
    above j c false event early x = elim (cases_lt j i) [
      | inl before ↦
          let old = known.above j c false event (omega arith) x in
          let up = up_open run i (last_rows run i) c x in
          omega arith
      | inr here ↦
          let e : j ≡ i = omega arith in
          let same : (rows_after_act run i (last_rows run i)).past c x ≡ act_row run i (last_rows run i) x = opened_actor run i (last_rows run i) c x (rw e at event) in
          rw (same, e) (omega arith)
    ]

    origin : (c : ℕ) → ((x : ℕ) → (rows_after_act run i (last_rows run i)).past c x ≡ 0) ⊎ ((j : ℕ) × ((g : Bool) × IsLatest run (rows_after_act run i (last_rows run i)) (2 * i + 1) c j g))
    origin c = elim (cases_Bool (c == run.actor i)) [
      | inl on ↦
          let e : run.actor i ≡ c = sym (eqb-true c (run.actor i) on) in
          inr (i, (false, record { event = e; early = omega arith; same = λ x. opened_actor run i (last_rows run i) c x e }))
      | inr off ↦ elim (known.origin c) [
        | inl none ↦ inl (λ x. opened_other run i (last_rows run i) c x off ∙ none x)
        | inr w ↦
            let l = w.1.1 in
            let early = l.early in
            inr (w.0, (w.1.0, record { event = l.event; early = omega arith; same = λ x. opened_other run i (last_rows run i) c x off ∙ l.same x }))
      ]
    ]

    gift : (k : Key) → (((x : ℕ) → (rows_after_act run i (last_rows run i)).last k x ≡ 0) × ((j : ℕ) → 2 * j < 2 * i + 1 → run.gives j k ≡ false)) ⊎ ((j : ℕ) × IsGiven run (rows_after_act run i (last_rows run i)) (2 * i + 1) k j)
    gift k = elim (cases_Bool (run.gives i k)) [
      | inl on ↦ inr (i, record { gives = on; early = omega arith; none = λ j later early. absurd (omega arith); same = λ x. opened_given run i (last_rows run i) k x on })
      | inr off ↦ elim (known.gift k) [
        | inl none ↦ inl (
          λ x. opened_kept run i (last_rows run i) k x off ∙ none.0 x,
          λ j early. elim (cases_lt j i) [ inl less ↦ none.1 j (omega arith) | inr here ↦ let e : j ≡ i = omega arith in rw e off ],
        )
        | inr w ↦
            let l = w.1 in
            let early_l = l.early in
            inr (
              w.0,
              record {
                gives = l.gives;
                early = omega arith;
                none = λ j later early. elim (cases_lt j i) [ inl less ↦ l.none j later (omega arith) | inr here ↦ let e : j ≡ i = omega arith in rw e off ];
                same = λ x. opened_kept run i (last_rows run i) k x off ∙ l.same x;
              },
            )
      ]
    ]

up_close : (run : Course) (i : ℕ) (s : LastRows) (c x : ℕ) → s.past c x ≤ (rows_after_goings run i s).past c x
up_close run i s c x = elim (cases_Bool (among (run.goers i) c)) [
  | inl on ↦
      let own = own_past run i s c x in
      let up = go_above run i s (run.group i c) c x (member run i c on) in
      rw (closed_goer run i s c x on) (omega arith)
  | inr off ↦ rw (closed_other run i s c x off) (omega arith)
]

known_close : (run : Course) (i : ℕ) → Known run (rows_after_act run i (last_rows run i)) (2 * i + 1) → Known run (rows_after_goings run i (rows_after_act run i (last_rows run i))) (2 * suc i)
known_close run i known = record { above = above; origin = origin; gift = gift }
  where
    above : (j c : ℕ) (g : Bool) → IsEventIn run (name j c g) → moment (name j c g) < 2 * suc i → (x : ℕ) → row run (name j c g) x ≤ (rows_after_goings run i (rows_after_act run i (last_rows run i))).past c x
    above j c false event early x =
        let old = known.above j c false event (omega arith) x in
        let up = up_close run i (rows_after_act run i (last_rows run i)) c x in
        omega arith
    above j c true event early x = elim (cases_lt j i) [
      | inl before ↦
          let old = known.above j c true event (omega arith) x in
          let up = up_close run i (rows_after_act run i (last_rows run i)) c x in
          omega arith
      | inr here ↦
          let e : j ≡ i = omega arith in
          let same : (rows_after_goings run i (rows_after_act run i (last_rows run i))).past c x ≡ go_row run i (rows_after_act run i (last_rows run i)) (run.group i c) x = closed_goer run i (rows_after_act run i (last_rows run i)) c x (rw e at event) in
          rw (same, e) (omega arith)
    ]

    origin : (c : ℕ) → ((x : ℕ) → (rows_after_goings run i (rows_after_act run i (last_rows run i))).past c x ≡ 0) ⊎ ((j : ℕ) × ((g : Bool) × IsLatest run (rows_after_goings run i (rows_after_act run i (last_rows run i))) (2 * suc i) c j g))
    origin c = elim (cases_Bool (among (run.goers i) c)) [
      | inl on ↦ inr (i, (true, record { event = on; early = omega arith; same = λ x. closed_goer run i (rows_after_act run i (last_rows run i)) c x on }))
      | inr off ↦ elim (known.origin c) [
        | inl none ↦ inl (λ x. closed_other run i (rows_after_act run i (last_rows run i)) c x off ∙ none x)
        | inr w ↦
            let l = w.1.1 in
            let early = l.early in
            inr (w.0, (w.1.0, record { event = l.event; early = omega arith; same = λ x. closed_other run i (rows_after_act run i (last_rows run i)) c x off ∙ l.same x }))
      ]
    ]

    gift : (k : Key) → (((x : ℕ) → (rows_after_goings run i (rows_after_act run i (last_rows run i))).last k x ≡ 0) × ((j : ℕ) → 2 * j < 2 * suc i → run.gives j k ≡ false)) ⊎ ((j : ℕ) × IsGiven run (rows_after_goings run i (rows_after_act run i (last_rows run i))) (2 * suc i) k j)
    gift k = elim (known.gift k) [
      | inl none ↦ inl (λ x. closed_last run i (rows_after_act run i (last_rows run i)) k x ∙ none.0 x, λ j early. none.1 j (omega arith))
      | inr w ↦
          let l = w.1 in
          let early_l = l.early in
          inr (
            w.0,
            record {
              gives = l.gives;
              early = omega arith;
              none = λ j later early. l.none j later (omega arith);
              same = λ x. closed_last run i (rows_after_act run i (last_rows run i)) k x ∙ l.same x;
            },
          )
    ]

pub known_at : (run : Course) (i : ℕ) → Known run (last_rows run i) (2 * i)
known_at run zero = record {
  above = λ j c g event early x. absurd (omega arith);
  origin = λ c. inl (λ x. refl);
  gift = λ k. inl (λ x. refl, λ i early. absurd (omega arith));
}
known_at run (suc i) = known_close run i (known_open run i (known_at run i))

known_half : (run : Course) (i : ℕ) → Known run (rows_after_act run i (last_rows run i)) (2 * i + 1)
known_half run i = known_open run i (known_at run i)

joined_back : (run : Course) (a b : EventId) (g : Bool) → AreJoinedIn run a b g → AreJoinedIn run b a g
joined_back run a b true e = sym e
joined_back run a b false e = sym e

joined_on : (run : Course) (a b d : EventId) (g : Bool) → AreJoinedIn run a b g → AreJoinedIn run b d g → AreJoinedIn run a d g
joined_on run a b d true e f = e ∙ f
joined_on run a b d false e f = e ∙ f

pub one_itself : (run : Course) (a : EventId) → IsEventIn run a → AreOneIn run a a
one_itself run a event = record { first = event; second = event; step = refl; go = refl; joined = itself a.go }
  where
    itself : (g : Bool) → AreJoinedIn run a a g
    itself true = refl
    itself false = refl

pub one_back : (run : Course) (a b : EventId) → AreOneIn run a b → AreOneIn run b a
one_back run a b one = record { first = one.second; second = one.first; step = sym one.step; go = sym one.go; joined = rw one.go at (joined_back run a b a.go one.joined) }

one_on : (run : Course) (a b d : EventId) → AreOneIn run a b → AreOneIn run b d → AreOneIn run a d
one_on run a b d one two = record {
  first = one.first;
  second = two.second;
  step = one.step ∙ two.step;
  go = one.go ∙ two.go;
  joined = joined_on run a b d a.go one.joined (rw (sym one.go) at two.joined);
}

pub one_moment : (run : Course) (a b : EventId) → AreOneIn run a b → moment a ≡ moment b
one_moment run a b one = rw (one.step, one.go) refl

pub one_row : (run : Course) (a b : EventId) → AreOneIn run a b → (x : ℕ) → row run a x ≡ row run b x
one_row run a b one x =
    by_kind a.go one.joined ∙ (ap (λ (j : ℕ). row run (name j b.channel a.go) x) one.step ∙ ap (λ (g : Bool). row run (name b.step b.channel g) x) one.go)
  where
    by_kind : (g : Bool) → AreJoinedIn run a b g → row run (name a.step a.channel g) x ≡ row run (name a.step b.channel g) x
    by_kind true e = ap (λ (g : ℕ). go_row run a.step (rows_after_act run a.step (last_rows run a.step)) g x) (e ∙ ap (λ (j : ℕ). run.group j b.channel) (sym one.step))
    by_kind false e = refl

-- an earlier event of a channel counts no more, and less of the channel itself
pub order_grows : (run : Course) (j i c : ℕ) (g h : Bool) → IsEventIn run (name j c g) → IsEventIn run (name i c h) → moment (name j c g) < moment (name i c h)
    → ((x : ℕ) → row run (name j c g) x ≤ row run (name i c h) x) × (row run (name j c g) c < row run (name i c h) c)
order_grows run j i c g false event here early =
    let actor : run.actor i ≡ c = here in
    let up : (x : ℕ) → row run (name j c g) x ≤ (last_rows run i).past c x = λ x. (known_at run i).above j c g event (omega arith) x in
    let grow : (x : ℕ) → (last_rows run i).past c x ≤ act_row run i (last_rows run i) x = λ x. rw (actor) at (act_above run i (last_rows run i) x) in
    let more : (last_rows run i).past c c < act_row run i (last_rows run i) c = rw (actor) at (act_more run i (last_rows run i)) in
    (λ x. let one = up x in let two = grow x in omega arith, let one = up c in omega arith)
order_grows run j i c g true event here early =
    let up : (x : ℕ) → row run (name j c g) x ≤ (rows_after_act run i (last_rows run i)).past c x = λ x. (known_half run i).above j c g event (omega arith) x in
    let mine = member run i c here in (
      λ x.
          let one = up x in
          let two = own_past run i (rows_after_act run i (last_rows run i)) c x in
          let three = go_above run i (rows_after_act run i (last_rows run i)) (run.group i c) c x mine in
          omega arith,
      let one = up c in
          let two = own_past run i (rows_after_act run i (last_rows run i)) c c in
          let three = go_more run i (rows_after_act run i (last_rows run i)) (run.group i c) c mine in
          omega arith,
    )

-- what an Act gave is counted by the Go that rests on it
gift_row : (run : Course) (i j : ℕ) (k : Key) → IsLastGiftIn run k j i → (x : ℕ) → (rows_after_act run i (last_rows run i)).last k x ≡ row run (name j (run.actor j) false) x
gift_row run i j k gift x = elim ((known_half run i).gift k) [
  | inl none ↦
      let up = gift.up in
      let off : run.gives j k ≡ false = none.1 j (omega arith) in
      absurd (true≢false (sym gift.gives ∙ off))
  | inr w ↦ elim (cases_order j w.0) [
    | inl same ↦ rw same (w.1.same x)
    | inr (inl less) ↦
        let early = w.1.early in
        let off : run.gives w.0 k ≡ false = gift.none_later w.0 less (omega arith) in
        absurd (true≢false (sym w.1.gives ∙ off))
    | inr (inr above) ↦
        let up = gift.up in
        let off : run.gives j k ≡ false = w.1.none j above (omega arith) in
        absurd (true≢false (sym gift.gives ∙ off))
  ]
]

gives_grows : (run : Course) (j c i d : ℕ) (k : Key) → IsEventIn run (name j c false) → IsEventIn run (name i d true) → IsIn k (run.asks i d) → IsLastGiftIn run k j i
    → (x : ℕ) → row run (name j c false) x ≤ row run (name i d true) x
gives_grows run j c i d k event here keys_of gift x =
    let same : (rows_after_act run i (last_rows run i)).last k x ≡ act_row run j (last_rows run j) x = gift_row run i j k gift x in
    let one = own_last run i (rows_after_act run i (last_rows run i)) d x k keys_of in
    let two = go_above run i (rows_after_act run i (last_rows run i)) (run.group i d) d x (member run i d here) in
    let sum : act_row run j (last_rows run j) x ≤ go_row run i (rows_after_act run i (last_rows run i)) (run.group i d) x = omega arith in
    sum

pub rule_later : (run : Course) (a b : EventId) → RuleIn run a b → moment a < moment b
rule_later run a b (InOrder same early) = early
rule_later run a b (GivesKey key act go keys_of gift) = let up = gift.up in rw (act, go) (omega arith)

rule_grows : (run : Course) (a b : EventId) → IsEventIn run a → IsEventIn run b → RuleIn run a b → (x : ℕ) → row run a x ≤ row run b x
rule_grows run a b event here (InOrder same early) x =
    let moved : IsEventIn run (name a.step b.channel a.go) = rw same at event in
    let there : row run a x ≡ row run (name a.step b.channel a.go) x = one_row run a (name a.step b.channel a.go) (record { first = event; second = moved; step = refl; go = refl; joined = by_kind a.go }) x in
    let up = (order_grows run a.step b.step b.channel a.go b.go moved here early).0 x in
    omega arith
  where
    by_kind : (g : Bool) → AreJoinedIn run a (name a.step b.channel a.go) g
    by_kind true = ap (λ (c : ℕ). run.group a.step c) same
    by_kind false = same
rule_grows run a b event here (GivesKey key act go keys_of gift) x =
    let event_at : IsEventIn run (name a.step a.channel false) = rw act at event in
    let here_at : IsEventIn run (name b.step b.channel true) = rw go at here in
    let up = gives_grows run a.step a.channel b.step b.channel key event_at here_at keys_of gift x in
    rw (act, go) up

pub follows_later : (run : Course) (a b : EventId) → FollowsIn run a b → moment a < moment b
follows_later run a b f =
    let one = one_moment run a f.from f.left in
    let two = one_moment run f.to b f.right in
    let up = rule_later run f.from f.to f.rule in
    omega arith

follows_grows : (run : Course) (a b : EventId) → FollowsIn run a b → (x : ℕ) → row run a x ≤ row run b x
follows_grows run a b f x =
    let one = one_row run a f.from f.left x in
    let two = one_row run f.to b f.right x in
    let up = rule_grows run f.from f.to f.left.second f.right.first f.rule x in
    omega arith

-- the channel is one of the event's
pub record IsOf (run : Course) (e : EventId) (c : ℕ) : Type 0 where
  pub by : EventId
  pub one : AreOneIn run e by
  pub channel : by.channel ≡ c

same_moment : (j i : ℕ) (g h : Bool) → 2 * j + (if g then 1 else 0) ≡ 2 * i + (if h then 1 else 0) → (j ≡ i) × (g ≡ h)
same_moment j i true true e = (omega arith, refl)
same_moment j i false false e = (omega arith, refl)
same_moment j i true false e = absurd (omega arith)
same_moment j i false true e = absurd (omega arith)

joined_same : (run : Course) (a b : EventId) (g : Bool) → a.step ≡ b.step → a.channel ≡ b.channel → AreJoinedIn run a b g
joined_same run a b true e f = rw (e, f) refl
joined_same run a b false e f = f

event_as : (run : Course) (a : EventId) (c : ℕ) → a.channel ≡ c → IsEventIn run a → IsEventIn run (name a.step c a.go)
event_as run a c e event = rw e at event

order_of : (run : Course) (a b : EventId) (c : ℕ) → IsOf run a c → IsOf run b c → AreOneIn run a b ⊎ (FollowsIn run a b ⊎ (row run b c < row run a c))
order_of run a b c mine yours =
    let p : EventId = mine.by in
    let q : EventId = yours.by in
    let same : mine.by.channel ≡ yours.by.channel = mine.channel ∙ sym yours.channel in
    elim (cases_order (moment mine.by) (moment yours.by)) [
      | inl equal ↦
          let parts = same_moment mine.by.step yours.by.step mine.by.go yours.by.go equal in
          inl (one_on run a mine.by b mine.one (one_on run mine.by yours.by b
          (record { first = mine.one.second; second = yours.one.second; step = parts.0; go = parts.1; joined = joined_same run mine.by yours.by mine.by.go parts.0 same })
          (one_back run b yours.by yours.one)))
      | inr (inl less) ↦ inr (inl (record { from = mine.by; to = yours.by; left = mine.one; right = one_back run b yours.by yours.one; rule = InOrder same less }))
      | inr (inr above) ↦
          let one = one_row run a mine.by mine.one c in
          let two = one_row run b yours.by yours.one c in
          let event_p : IsEventIn run (name mine.by.step c mine.by.go) = event_as run mine.by c mine.channel mine.one.second in
          let event_q : IsEventIn run (name yours.by.step c yours.by.go) = event_as run yours.by c yours.channel yours.one.second in
          let up : row run (name yours.by.step c yours.by.go) c < row run (name mine.by.step c mine.by.go) c = (order_grows run yours.by.step mine.by.step c yours.by.go mine.by.go event_q event_p above).1 in
          let three : row run (name yours.by.step yours.by.channel yours.by.go) c ≡ row run (name yours.by.step c yours.by.go) c = ap (λ (d : ℕ). row run (name yours.by.step d yours.by.go) c) yours.channel in
          let four : row run (name mine.by.step mine.by.channel mine.by.go) c ≡ row run (name mine.by.step c mine.by.go) c = ap (λ (d : ℕ). row run (name mine.by.step d mine.by.go) c) mine.channel in
          inr (inr (omega arith))
    ]

counts_itself : (run : Course) (i c : ℕ) (g : Bool) → IsEventIn run (name i c g) → 0 < row run (name i c g) c
counts_itself run i c false here = let more : (last_rows run i).past c c < act_row run i (last_rows run i) c = rw here at (act_more run i (last_rows run i)) in omega arith
counts_itself run i c true here =
    let more = go_more run i (rows_after_act run i (last_rows run i)) (run.group i c) c (member run i c here) in
    omega arith

counts_of : (run : Course) (a : EventId) (c : ℕ) → IsOf run a c → 0 < row run a c
counts_of run a c mine =
    let one = one_row run a mine.by mine.one c in
    let event_p : IsEventIn run (name mine.by.step c mine.by.go) = event_as run mine.by c mine.channel mine.one.second in
    let up = counts_itself run mine.by.step c mine.by.go event_p in
    let four : row run (name mine.by.step mine.by.channel mine.by.go) c ≡ row run (name mine.by.step c mine.by.go) c = ap (λ (d : ℕ). row run (name mine.by.step d mine.by.go) c) mine.channel in
    omega arith

-- what an event counts it is, or has from an earlier one
Source : Course → EventId → ℕ → Type 0
Source run b c = (row run b c ≡ 0) ⊎ (IsOf run b c ⊎ ((p : EventId) × (FollowsIn run p b × (row run p c ≡ row run b c))))

from_past : (run : Course) (s : LastRows) (m : ℕ) (b q : EventId) (c : ℕ) → Known run s m → IsEventIn run q → AreOneIn run q b → m ≤ moment q → s.past q.channel c ≡ row run b c → Source run b c
unfolding Source
from_past run s m b q c known event one late same = elim (known.origin q.channel) [
  | inl none ↦ inl (sym same ∙ none c)
  | inr w ↦
      let l = w.1.1 in
      let early = l.early in
      let p : EventId = name w.0 q.channel w.1.0 in
      inr (inr (
        name w.0 q.channel w.1.0,
        (
          record {
            from = name w.0 q.channel w.1.0;
            to = q;
            left = one_itself run (name w.0 q.channel w.1.0) l.event;
            right = one;
            rule = InOrder refl (omega arith);
          },
          sym (l.same c) ∙ same,
        ),
      ))
]

source_act : (run : Course) (i d c : ℕ) → IsEventIn run (name i d false) → Source run (name i d false) c
unfolding Source
source_act run i d c here = elim (cases_Bool (c == run.actor i)) [
  | inl on ↦
      let e : d ≡ c = sym here ∙ sym (eqb-true c (run.actor i) on) in
      inr (inl (record { by = name i d false; one = one_itself run (name i d false) here; channel = e }))
  | inr off ↦
      let same : (last_rows run i).past d c ≡ act_row run i (last_rows run i) c = rw here at (sym (act_elsewhere run i (last_rows run i) c off)) in
      from_past run (last_rows run i) (2 * i) (name i d false) (name i d false) c (known_at run i) here (one_itself run (name i d false) here) (omega arith) same
]

from_last : (run : Course) (i d e c : ℕ) (k : Key) → IsEventIn run (name i e true) → AreOneIn run (name i e true) (name i d true) → IsIn k (run.asks i e)
    → (rows_after_act run i (last_rows run i)).last k c ≡ row run (name i d true) c → Source run (name i d true) c
unfolding Source
from_last run i d e c k event one keys_of same = elim ((known_half run i).gift k) [
  | inl none ↦ inl (sym same ∙ none.0 c)
  | inr w ↦
      let l = w.1 in
      let early = l.early in
      inr (inr (
        name w.0 (run.actor w.0) false,
        (
          record {
            from = name w.0 (run.actor w.0) false;
            to = name i e true;
            left = one_itself run (name w.0 (run.actor w.0) false) refl;
            right = one;
            rule = GivesKey k refl refl keys_of (record { gives = l.gives; up = omega arith; none_later = λ n later upto. l.none n later (omega arith) });
          },
          sym (l.same c) ∙ same,
        ),
      ))
]

source_go : (run : Course) (i d c : ℕ) → IsEventIn run (name i d true) → Source run (name i d true) c
unfolding Source own_row
source_go run i d c here = elim (cases_Bool (among (members run i (run.group i d)) c)) [
  | inl on ↦
      let parts = member_parts run i (run.group i d) c (is_in (members run i (run.group i d)) c on) in
      inr (inl (record {
        by = name i c true;
        one = record { first = here; second = parts.0; step = refl; go = refl; joined = sym parts.1 };
        channel = refl;
      }))
  | inr off ↦
      let all = go_elsewhere run i (rows_after_act run i (last_rows run i)) (run.group i d) c off in
      elim (top_attained (λ e. own_row run i (rows_after_act run i (last_rows run i)) e c) (members run i (run.group i d))) [
        | inl none ↦ inl (all ∙ none)
        | inr w ↦
            let parts = member_parts run i (run.group i d) w.0 w.1.0 in
            let one : AreOneIn run (name i w.0 true) (name i d true) = record { first = parts.0; second = here; step = refl; go = refl; joined = parts.1 } in
            elim (max_either ((rows_after_act run i (last_rows run i)).past w.0 c) (top (λ k. (rows_after_act run i (last_rows run i)).last k c) (run.asks i w.0))) [
              | inl past ↦ from_past run (rows_after_act run i (last_rows run i)) (2 * i + 1) (name i d true) (name i w.0 true) c (known_half run i) parts.0 one (omega arith) (sym past ∙ (w.1.1 ∙ sym all))
              | inr last ↦ elim (top_attained (λ k. (rows_after_act run i (last_rows run i)).last k c) (run.asks i w.0)) [
                | inl none ↦ inl (all ∙ (sym w.1.1 ∙ (last ∙ none)))
                | inr v ↦ from_last run i d w.0 c v.0 parts.0 one v.1.0 (v.1.1 ∙ (sym last ∙ (w.1.1 ∙ sym all)))
              ]
            ]
      ]
]

source_of : (run : Course) (i d c : ℕ) (g : Bool) → IsEventIn run (name i d g) → Source run (name i d g) c
source_of run i d c true here = source_go run i d c here
source_of run i d c false here = source_act run i d c here

counted : (run : Course) → Counted (FollowsIn run) (AreOneIn run) (IsEventIn run) moment (IsOf run) (row run)
unfolding Source
counted run = record {
  sound = λ a b f. f.left.first;
  later = follows_later run;
  level = one_moment run;
  grows = λ a b f c. follows_grows run a b f c;
  joins = λ a b c one f. record { from = f.from; to = f.to; left = one_on run a b f.from one f.left; right = f.right; rule = f.rule };
  order = λ a b c event here mine yours. order_of run a b c mine yours;
  source = λ b c event. source_of run b.step b.channel c b.go event;
  counts = λ a c event mine. counts_of run a c mine;
}

-- an event is before another exactly where the other counts it and is another event
pub before_from : (run : Course) (a b : EventId) → IsEventIn run a → IsEventIn run b → row run a a.channel ≤ row run b a.channel → (AreOneIn run a b → ⊥) → IsBeforeIn run a b
before_from run a b event here = leads_from (FollowsIn run) (AreOneIn run) (IsEventIn run) moment (IsOf run) (row run) (counted run) a b a.channel event (record { by = a; one = one_itself run a event; channel = refl }) here

pub before_to : (run : Course) (a b : EventId) (c : ℕ) → IsBeforeIn run a b → (row run a c ≤ row run b c) × (AreOneIn run a b → ⊥)
before_to run a b c path = leads_to (FollowsIn run) (AreOneIn run) (IsEventIn run) moment (IsOf run) (row run) (counted run) a b c path

-- the same, for callers
pub source_parts : (run : Course) (b : EventId) (c : ℕ) → IsEventIn run b
    → (row run b c ≡ 0) ⊎ (((by : EventId) × (AreOneIn run b by × (by.channel ≡ c))) ⊎ ((p : EventId) × (FollowsIn run p b × (row run p c ≡ row run b c))))
unfolding Source
source_parts run b c event = elim (source_of run b.step b.channel c b.go event) [
  | inl none ↦ inl none
  | inr (inl own) ↦ inr (inl (own.by, (own.one, own.channel)))
  | inr (inr w) ↦ inr (inr w)
]
