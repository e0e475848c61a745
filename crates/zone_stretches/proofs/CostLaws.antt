-- How many boxes the tenures of a zone may have: each event ends one span, and a span serves one tenure.
use Rattle.std.proofs.Common.{◌≡◌, ◌∙◌, inl, inr, ℕ, zero, suc, ◌+◌, ◌-◌, ◌≤◌, ◌==◌, Bool, true, false, cond, List, [], ◌∷◌, map, length, take, drop, filter, Option, None, Some, refl, sym, ap, arith, if◌then◌else◌}
use Rattle.std.specs.Prelude.{slice_index_or}
use Rattle.std.specs.Option.{option_map_or}
use Rattle.std.proofs.lemmas.Bool.{cases_Bool, eqb-true, eq-eqb, false_from_ne_true}
use Rattle.std.proofs.lemmas.List.{drop-drop}
use Rattle.job_types.specs.declared.job.ZoneLine.{ZoneLine}
use Rattle.sync_types.proofs.BoardTests.{no_truth}
use Rattle.sync_types.specs.Boards.{is_this}
use Rattle.sync_types.specs.declared.Item.{Item}
use Rattle.zone_stretches.specs.Occurrences.{OccurrenceView}
use Rattle.zone_stretches.specs.Spans.{SpanStartView, beginning_after, spans_from}
use Rattle.zone_stretches.specs.Tenures.{TenureView, carry, changes_hands, counted, tenure_after, tenure_until, tenures_from}

-- ---- spans of so many items

-- a span has at most one box more than items
abbrev pub cost : List ℕ → ℕ
cost [] = 0
cost (w ∷ ws) = suc w + cost ws

abbrev head_of : List ℕ → ℕ
head_of [] = 0
head_of (w ∷ ws) = w

cost_parts : (k : ℕ) (ws : List ℕ) → cost ws ≡ cost (take k ws) + cost (drop k ws)
cost_parts zero [] = omega arith
cost_parts zero (w ∷ ws) = omega arith
cost_parts (suc k) [] = omega arith
cost_parts (suc k) (w ∷ ws) = omega (arith, cost_parts k ws)

cost_more : (k : ℕ) (ws : List ℕ) → cost (take (suc k) ws) ≤ cost (take k ws) + suc (head_of (drop k ws))
cost_more zero [] = omega arith
cost_more zero (w ∷ ws) = omega arith
cost_more (suc k) [] = omega arith
cost_more (suc k) (w ∷ ws) = omega (arith, cost_more k ws)

drop_next : (n : ℕ) (xs ys : List ℕ) (y : ℕ) → drop n xs ≡ y ∷ ys → drop (suc n) xs ≡ ys
drop_next zero [] ys y is = absurd cc
drop_next zero (x ∷ xs) ys y is = let same : xs ≡ ys = cc in same
drop_next (suc n) [] ys y is = absurd cc
drop_next (suc n) (x ∷ xs) ys y is = drop_next n xs ys y is

-- what is left of those from one on
drop_rest : (from n : ℕ) (xs : List ℕ) → from ≤ n → drop (n - from) (drop from xs) ≡ drop n xs
drop_rest from n xs up = let all : from + (n - from) ≡ n = omega arith in drop-drop (n - from) from xs ∙ ap (λ (k : ℕ). drop k xs) all

-- ---- the items of events

-- what the channel of an event did before it acted
abbrev pub own_items : List (List Item) → OccurrenceView → ℕ
own_items items o = if o.name.go then 0 else length (slice_index_or items o.name.step [])

-- the items of the spans of a channel, with these events to come
abbrev pub weights : List (List Item) → ℕ → List OccurrenceView → List ℕ
weights items c [] = 0 ∷ []
weights items c (o ∷ os) = if o.channel == c then own_items items o ∷ weights items c os else weights items c os

pub weights_are : (items : List (List Item)) (c : ℕ) (begins : SpanStartView) (os : List OccurrenceView)
    → map (λ span. length span.items) (spans_from items begins (filter (λ o. o.channel == c) os)) ≡ weights items c os
weights_are items c begins [] = refl
weights_are items c begins (o ∷ os) = by_test (o.channel == c) (weights_are items c (beginning_after begins o) os) (weights_are items c begins os)
  where
    own : (b : Bool) (xs : List Item) → length (cond b [] xs) ≡ cond b 0 (length xs)
    own true xs = refl
    own false xs = refl

    by_test : (t : Bool) → map (λ span. length span.items) (spans_from items (beginning_after begins o) (filter (λ o. o.channel == c) os)) ≡ weights items c os
        → map (λ span. length span.items) (spans_from items begins (filter (λ o. o.channel == c) os)) ≡ weights items c os
        → map (λ span. length span.items) (spans_from items begins (cond t (o ∷ filter (λ o. o.channel == c) os) (filter (λ o. o.channel == c) os))) ≡ cond t (own_items items o ∷ weights items c os) (weights items c os)
    by_test true next same = rw (own o.name.go (slice_index_or items o.name.step []), next) refl
    by_test false next same = same

weights_here : (items : List (List Item)) (c : ℕ) (o : OccurrenceView) (os : List OccurrenceView) → o.channel ≡ c → weights items c (o ∷ os) ≡ own_items items o ∷ weights items c os
weights_here items c o os same = rw (eq-eqb o.channel c same) refl

weights_other : (items : List (List Item)) (c : ℕ) (o : OccurrenceView) (os : List OccurrenceView) → (o.channel == c) ≡ false → weights items c (o ∷ os) ≡ weights items c os
weights_other items c o os other = rw other refl

-- the next event of a channel
abbrev first_cost : List (List Item) → ℕ → List OccurrenceView → ℕ
first_cost items c [] = 0
first_cost items c (o ∷ os) = if o.channel == c then suc (own_items items o) else first_cost items c os

first_weight : (items : List (List Item)) (c : ℕ) (os : List OccurrenceView) → head_of (weights items c os) ≤ first_cost items c os
first_weight items c [] = omega arith
first_weight items c (o ∷ os) = by_test (o.channel == c) (first_weight items c os)
  where
    by_test : (t : Bool) → head_of (weights items c os) ≤ first_cost items c os
        → head_of (cond t (own_items items o ∷ weights items c os) (weights items c os)) ≤ cond t (suc (own_items items o)) (first_cost items c os)
    by_test true rest = omega arith
    by_test false rest = rest

-- ---- what the events to come may cost

abbrev with_channel : (ℕ → Bool) → ℕ → ℕ → Bool
with_channel live c d = if d == c then true else live d

-- an event costs where the span that it ends may still serve; that which it begins may
abbrev reserve : List (List Item) → (ℕ → Bool) → List OccurrenceView → ℕ
reserve items live [] = 0
reserve items live (o ∷ os) = (if live o.channel then suc (own_items items o) else 0) + reserve items (with_channel live o.channel) os

abbrev AreWider : (ℕ → Bool) → (ℕ → Bool) → Type 0
AreWider live wide = (d : ℕ) → live d ≡ true → wide d ≡ true

charge_wider : (x : ℕ) (s t : Bool) → (s ≡ true → t ≡ true) → cond s x 0 ≤ cond t x 0
charge_wider x true true wider = omega arith
charge_wider x true false wider = no_truth false (wider refl) refl
charge_wider x false true wider = omega arith
charge_wider x false false wider = omega arith

with_wider : (live wide : ℕ → Bool) (c : ℕ) → AreWider live wide → AreWider (with_channel live c) (with_channel wide c)
with_wider live wide c wider d = by_test (d == c) (wider d)
  where
    by_test : (t : Bool) → (live d ≡ true → wide d ≡ true) → cond t true (live d) ≡ true → cond t true (wide d) ≡ true
    by_test true here on = refl
    by_test false here on = here on

reserve_wider : (items : List (List Item)) (live wide : ℕ → Bool) (os : List OccurrenceView) → AreWider live wide → reserve items live os ≤ reserve items wide os
reserve_wider items live wide [] wider = omega arith
reserve_wider items live wide (o ∷ os) wider =
    let here = charge_wider (suc (own_items items o)) (live o.channel) (wide o.channel) (wider o.channel) in
    let rest = reserve_wider items (with_channel live o.channel) (with_channel wide o.channel) os (with_wider live wide o.channel wider) in
    omega (arith, here, rest)

-- one channel more may cost its next event
reserve_first : (items : List (List Item)) (live wide : ℕ → Bool) (c : ℕ) (os : List OccurrenceView) → AreWider live wide → live c ≡ false → wide c ≡ true
    → reserve items live os + first_cost items c os ≤ reserve items wide os
reserve_first items live wide c [] wider off on = omega arith
reserve_first items live wide c (o ∷ os) wider off on = elim (cases_Bool (o.channel == c)) [
  | inl here ↦
      let same : o.channel ≡ c = eqb-true o.channel c here in
      let rest = reserve_wider items (with_channel live o.channel) (with_channel wide o.channel) os (with_wider live wide o.channel wider) in
      let none : live o.channel ≡ false = ap live same ∙ off in
      let some : wide o.channel ≡ true = ap wide same ∙ on in
      rw (here, none, some) (omega (arith, rest))
  | inr other ↦
      let apart : (c == o.channel) ≡ false = turned c o.channel other in
      let rest = reserve_first items (with_channel live o.channel) (with_channel wide o.channel) c os (with_wider live wide o.channel wider) (rw apart off) (rw apart on) in
      let here = charge_wider (suc (own_items items o)) (live o.channel) (wide o.channel) (wider o.channel) in
      rw other (omega (arith, here, rest))
]
  where
    turned : (m n : ℕ) → (n == m) ≡ false → (m == n) ≡ false
    turned m n off = elim (cases_Bool (m == n)) [ inl on ↦ no_truth (n == m) (eq-eqb n m (sym (eqb-true m n on))) off | inr same ↦ same ]

-- all events
abbrev pub events_cost : List (List Item) → List OccurrenceView → ℕ
events_cost items [] = 0
events_cost items (o ∷ os) = suc (own_items items o) + events_cost items os

reserve_within : (items : List (List Item)) (live : ℕ → Bool) (os : List OccurrenceView) → reserve items live os ≤ events_cost items os
reserve_within items live [] = omega arith
reserve_within items live (o ∷ os) =
    let here = charge_wider (suc (own_items items o)) (live o.channel) true (λ on. refl) in
    omega (arith, here, reserve_within items (with_channel live o.channel) os)

-- ---- tenures

abbrev pub weights_between : List ℕ → ℕ → Option ℕ → List ℕ
weights_between ws from None = drop from ws
weights_between ws from (Some upto) = take (suc upto - from) (drop from ws)

abbrev pub tenure_cost : (ℕ → List ℕ) → TenureView → Option ℕ → ℕ
tenure_cost ws t None = 1
tenure_cost ws t (Some c) = cost (weights_between (ws c) t.from t.upto)

abbrev pub cost_of_all : (ℕ → List ℕ) → List TenureView → ℕ
cost_of_all ws [] = 0
cost_of_all ws (t ∷ ts) = tenure_cost ws t t.owner + cost_of_all ws ts

module _ (items : List (List Item)) (ws : ℕ → List ℕ) where
  -- so many events of each channel have been, and these are to come
  abbrev IsAt : (ℕ → ℕ) → List OccurrenceView → Type 0
  IsAt counts os = (c : ℕ) → drop (counts c) (ws c) ≡ weights items c os

  -- a tenure that lasts, and has begun
  record IsCurrent (counts : ℕ → ℕ) (t : TenureView) : Type 0 where
    lasts : t.upto ≡ None
    begun : (c : ℕ) → t.owner ≡ Some c → t.from ≤ counts c

  -- the spans that have ended in it
  abbrev past_cost : (ℕ → ℕ) → TenureView → Option ℕ → ℕ
  past_cost counts t None = 0
  past_cost counts t (Some c) = cost (take (counts c - t.from) (drop t.from (ws c)))

  abbrev owner_cost : Option ℕ → List OccurrenceView → ℕ
  owner_cost None os = 0
  owner_cost (Some c) os = first_cost items c os

  next_at : (counts : ℕ → ℕ) (o : OccurrenceView) (os : List OccurrenceView) → IsAt counts (o ∷ os) → IsAt (counted counts o.channel) os
  next_at counts o os at d = elim (cases_Bool (d == o.channel)) [
    | inl here ↦
        let same : o.channel ≡ d = sym (eqb-true d o.channel here) in
        rw here (drop_next (counts d) (ws d) (weights items d os) (own_items items o) (at d ∙ weights_here items d o os same))
    | inr other ↦ rw other (at d ∙ weights_other items d o os (turned o.channel d other))
  ]
    where
      turned : (m n : ℕ) → (n == m) ≡ false → (m == n) ≡ false
      turned m n off = elim (cases_Bool (m == n)) [ inl on ↦ no_truth (n == m) (eq-eqb n m (sym (eqb-true m n on))) off | inr same ↦ same ]

  -- one span more of a tenure
  span_more : (counts : ℕ → ℕ) (os : List OccurrenceView) (from c : ℕ) → IsAt counts os → from ≤ counts c
      → cost (take (suc (counts c) - from) (drop from (ws c))) ≤ cost (take (counts c - from) (drop from (ws c))) + suc (head_of (weights items c os))
  span_more counts os from c at up =
      let more : suc (counts c) - from ≡ suc (counts c - from) = omega arith in
      let left : drop (counts c - from) (drop from (ws c)) ≡ weights items c os = drop_rest from (counts c) (ws c) up ∙ at c in
      rw (more, sym left) (cost_more (counts c - from) (drop from (ws c)))

  last_cost : (counts : ℕ → ℕ) (t : TenureView) → IsAt counts [] → IsCurrent counts t → tenure_cost ws t t.owner ≤ past_cost counts t t.owner + 1
  last_cost counts t at current = by_owner t.owner refl
    where
      by_owner : (o : Option ℕ) → t.owner ≡ o → tenure_cost ws t o ≤ past_cost counts t o + 1
      by_owner None is = omega arith
      by_owner (Some c) is =
          let left : drop (counts c - t.from) (drop t.from (ws c)) ≡ 0 ∷ [] = drop_rest t.from (counts c) (ws c) (current.begun c is) ∙ at c in
          let one : cost (drop (counts c - t.from) (drop t.from (ws c))) ≡ 1 = ap cost left in
          rw current.lasts (omega (arith, cost_parts (counts c - t.from) (drop t.from (ws c)), one))

  until_cost : (counts : ℕ → ℕ) (t : TenureView) (o : OccurrenceView) (os : List OccurrenceView) → IsAt counts os → IsCurrent counts t
      → tenure_cost ws (tenure_until counts t o) t.owner ≤ past_cost counts t t.owner + (owner_cost t.owner os + 1)
  until_cost counts t o os at current = by_owner t.owner refl
    where
      by_owner : (p : Option ℕ) → t.owner ≡ p → tenure_cost ws (record t { upto = Some (option_map_or counts p 0); last = Some o.name }) p ≤ past_cost counts t p + (owner_cost p os + 1)
      by_owner None is = omega arith
      by_owner (Some c) is = omega (arith, span_more counts os t.from c at (current.begun c is), first_weight items c os)

  stay_cost : (counts : ℕ → ℕ) (t : TenureView) (o : OccurrenceView) (os : List OccurrenceView) → IsAt counts (o ∷ os) → IsCurrent counts t
      → past_cost (counted counts o.channel) t t.owner ≤ past_cost counts t t.owner + cond (is_this t.owner o.channel) (suc (own_items items o)) 0
  stay_cost counts t o os at current = by_owner t.owner refl
    where
      by_owner : (p : Option ℕ) → t.owner ≡ p → past_cost (counted counts o.channel) t p ≤ past_cost counts t p + cond (is_this p o.channel) (suc (own_items items o)) 0
      by_owner None is = omega arith
      by_owner (Some c) is = elim (cases_Bool (c == o.channel)) [
        | inl here ↦
            let same : o.channel ≡ c = sym (eqb-true c o.channel here) in
            let head : head_of (weights items c (o ∷ os)) ≡ own_items items o = ap head_of (weights_here items c o os same) in
            rw here (omega (arith, span_more counts (o ∷ os) t.from c at (current.begun c is), head))
        | inr other ↦ rw other (omega arith)
      ]

  stays_current : (counts : ℕ → ℕ) (t : TenureView) (d : ℕ) → IsCurrent counts t → IsCurrent (counted counts d) t
  stays_current counts t d current = record { lasts = current.lasts; begun = λ c is. by_test (c == d) c (current.begun c is) }
    where
      by_test : (b : Bool) (c : ℕ) → t.from ≤ counts c → t.from ≤ cond b (suc (counts c)) (counts c)
      by_test true c up = omega arith
      by_test false c up = up

  after_current : (counts : ℕ → ℕ) (zone : ZoneLine) (o : OccurrenceView) → IsCurrent (counted counts o.channel) (tenure_after zone counts o)
  after_current counts zone o = record { lasts = refl; begun = λ c is. by_takes (carry zone o.takes) c is }
    where
      by_takes : (b : Bool) (c : ℕ) → cond b (Some o.channel) None ≡ Some c → suc (counts o.channel) ≤ counted counts o.channel c
      by_takes true c is =
          let same : o.channel ≡ c = cc in
          let here : (c == o.channel) ≡ true = eq-eqb c o.channel (sym same) in
          let alike : counts o.channel ≡ counts c = ap counts same in
          rw here (omega arith)
      by_takes false c is = absurd cc

  after_past : (counts : ℕ → ℕ) (zone : ZoneLine) (o : OccurrenceView) → past_cost (counted counts o.channel) (tenure_after zone counts o) (tenure_after zone counts o).owner ≡ 0
  after_past counts zone o = by_takes (carry zone o.takes)
    where
      by_takes : (b : Bool) → past_cost (counted counts o.channel) (tenure_after zone counts o) (cond b (Some o.channel) None) ≡ 0
      by_takes true =
          let here : (o.channel == o.channel) ≡ true = eq-eqb o.channel o.channel refl in
          let none : suc (counts o.channel) - suc (counts o.channel) ≡ 0 = omega arith in
          rw (here, none) refl
      by_takes false = refl

  -- who holds the zone after an event is its channel, or nobody
  after_owner : (zone : ZoneLine) (o : OccurrenceView) (d : ℕ) → is_this (cond (carry zone o.takes) (Some o.channel) None) d ≡ true → (d == o.channel) ≡ true
  after_owner zone o d = by_takes (carry zone o.takes)
    where
      by_takes : (b : Bool) → is_this (cond b (Some o.channel) None) d ≡ true → (d == o.channel) ≡ true
      by_takes true on = eq-eqb d o.channel (sym (eqb-true o.channel d on))
      by_takes false on = no_truth false on refl

  hands_cost : (next : ℕ → Bool) (o : OccurrenceView) (os : List OccurrenceView) (owner : Option ℕ) → ((d : ℕ) → next d ≡ true → (d == o.channel) ≡ true)
      → owner_cost owner (o ∷ os) + reserve items next os ≤ reserve items (is_this owner) (o ∷ os)
  hands_cost next o os None own = let rest = reserve_wider items next (with_channel (is_this None) o.channel) os (λ d on. rw (own d on) refl) in omega (arith, rest)
  hands_cost next o os (Some c) own = elim (cases_Bool (o.channel == c)) [
    | inl here ↦
        let same : (c == o.channel) ≡ true = eq-eqb c o.channel (sym (eqb-true o.channel c here)) in
        let rest = reserve_wider items next (with_channel (is_this (Some c)) o.channel) os (λ d on. rw (own d on) refl) in
        rw (here, same) (omega (arith, rest))
    | inr other ↦
        let apart : (c == o.channel) ≡ false = turned c o.channel other in
        let off : next c ≡ false = false_from_ne_true (next c) (λ on. no_truth (c == o.channel) (own c on) apart) in
        let rest = reserve_first items next (with_channel (is_this (Some c)) o.channel) c os (λ d on. rw (own d on) refl) off (rw (apart, eq-eqb c c refl) refl) in
        rw (other, apart) (omega (arith, rest))
  ]
    where
      turned : (m n : ℕ) → (n == m) ≡ false → (m == n) ≡ false
      turned m n off = elim (cases_Bool (m == n)) [ inl on ↦ no_truth (n == m) (eq-eqb n m (sym (eqb-true m n on))) off | inr same ↦ same ]

  tenures_within : (zone : ZoneLine) (os : List OccurrenceView) (counts : ℕ → ℕ) (t : TenureView) → IsAt counts os → IsCurrent counts t
      → cost_of_all ws (tenures_from zone counts t os) ≤ past_cost counts t t.owner + (reserve items (is_this t.owner) os + suc (length os))
  tenures_within zone [] counts t at current = omega (arith, last_cost counts t at current)
  tenures_within zone (o ∷ os) counts t at current =
      by_test (changes_hands zone o)
      (tenures_within zone os (counted counts o.channel) (tenure_after zone counts o) (next_at counts o os at) (after_current counts zone o))
      (tenures_within zone os (counted counts o.channel) t (next_at counts o os at) (stays_current counts t o.channel current))
    where
      by_test : (b : Bool)
          → cost_of_all ws (tenures_from zone (counted counts o.channel) (tenure_after zone counts o) os)
          ≤ past_cost (counted counts o.channel) (tenure_after zone counts o) (tenure_after zone counts o).owner + (reserve items (is_this (tenure_after zone counts o).owner) os + suc (length os))
          → cost_of_all ws (tenures_from zone (counted counts o.channel) t os) ≤ past_cost (counted counts o.channel) t t.owner + (reserve items (is_this t.owner) os + suc (length os))
          → cost_of_all ws (cond b (tenure_until counts t o ∷ tenures_from zone (counted counts o.channel) (tenure_after zone counts o) os) (tenures_from zone (counted counts o.channel) t os))
          ≤ past_cost counts t t.owner + (reserve items (is_this t.owner) (o ∷ os) + suc (length (o ∷ os)))
      by_test true changed same =
          omega (
            arith,
            changed,
            after_past counts zone o,
            until_cost counts t o (o ∷ os) at current,
            hands_cost (is_this (tenure_after zone counts o).owner) o os t.owner (after_owner zone o),
          )
      by_test false changed same =
          let wider = reserve_wider items (is_this t.owner) (with_channel (is_this t.owner) o.channel) os (λ d on. with_more (d == o.channel) (is_this t.owner d) on) in
          omega (arith, same, stay_cost counts t o os at current, wider)
        where
          with_more : (p q : Bool) → q ≡ true → cond p true q ≡ true
          with_more true q on = refl
          with_more false q on = on

-- the tenures of a zone cost at most all events, and once for each tenure
pub tenures_cost : (items : List (List Item)) (zone : ZoneLine) (t : TenureView) (os : List OccurrenceView) → t.upto ≡ None → t.from ≡ 0
    → cost_of_all (λ c. weights items c os) (tenures_from zone (λ c. 0) t os) ≤ events_cost items os + suc (length os)
tenures_cost items zone t os lasts first =
    let within = tenures_within items (λ c. weights items c os) zone os (λ c. 0) t (λ c. refl) (record { lasts = lasts; begun = λ c is. omega arith }) in
    omega (arith, within, nothing t.owner, reserve_within items (is_this t.owner) os)
  where
    nothing : (p : Option ℕ) → past_cost items (λ c. weights items c os) (λ c. 0) t p ≡ 0
    nothing None = refl
    nothing (Some c) = let none : 0 - t.from ≡ 0 = omega arith in rw none refl
