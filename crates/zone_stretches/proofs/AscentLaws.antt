-- The stretches of a zone come one after another: each begins with the event with which the one before it ends, and ends with a later one.
use Rattle.std.proofs.Common.{◌≡◌, ◌∙◌, inl, inr, ℕ, zero, suc, ◌+◌, ◌-◌, ◌<◌, ◌≤◌, ◌==◌, ◌||◌, Bool, true, false, cond, List, [], ◌∷◌, ◌++◌, map, take, drop, filter, Option, None, Some, All, refl, sym, ap, subst, append_assoc, append-nil, arith, if◌then◌else◌}
use Rattle.std.specs.Prelude.{⊤, unwrap_or}
use Rattle.std.specs.List.{flat_map}
use Rattle.std.specs.Option.{option_map_or}
use Rattle.std.proofs.lemmas.Bool.{cases_Bool, eqb-true, eq-eqb, or_cases}
use Rattle.std.proofs.lemmas.List.{drop-drop}
use Rattle.std.proofs.lemmas.List.Elements.{All-cons, All-head, All-nil, All-tail}
use Rattle.axis_sets.specs.Positions.{stands}
use Rattle.axis_sets.specs.Sets.{has}
use Rattle.board_laws.proofs.Zones.{zones_first}
use Rattle.board_laws.specs.Zones.{Zones}
use Rattle.job_types.specs.Job.{JobView}
use Rattle.job_types.specs.Zones.{has_axis}
use Rattle.job_types.specs.declared.job.ZoneLine.{ZoneLine}
use Rattle.order_clocks.proofs.WholeLaws.{running_moves}
use Rattle.order_clocks.specs.Before.{FreedAxis, InChannel, moment}
use Rattle.order_clocks.specs.Clocked.{moves_in}
use Rattle.order_clocks.specs.Happenings.{Freed, gives, happening_at}
use Rattle.sync_types.proofs.BoardTests.{no_truth}
use Rattle.sync_types.proofs.FreeTakings.{first_robs_nobody}
use Rattle.sync_types.proofs.Links.{are_one_alike}
use Rattle.sync_types.specs.Boards.{Board, first_board, is_this}
use Rattle.sync_types.specs.Events.{AreOne}
use Rattle.sync_types.specs.Runs.{ComesFrom}
use Rattle.sync_types.specs.Turns.{AreOfRunning, Move}
use Rattle.sync_types.specs.Views.{RunView, StartView}
use Rattle.sync_types.specs.declared.Item.{Item}
use Rattle.sync_types.specs.declared.runs.EventId.{EventId}
use Rattle.sync_types.specs.declared.verdicts.StretchKind.TheVariants.{Free}
use Rattle.zone_stretches.proofs.EventLaws.{AreRising, InSteps, IsTold, all_told, in_steps, own_name, rising}
use Rattle.zone_stretches.proofs.HandLaws.{HandsAre, carry_from, carry_to, run_hands}
use Rattle.zone_stretches.proofs.StretchLaws.{each_zone_time}
use Rattle.zone_stretches.specs.Occurrences.{OccurrenceView, occurrences_from, occurrences_of}
use Rattle.zone_stretches.specs.SoundStretches.{AreInOrder, IsAfter, IsZoneOf, StretchesAscend}
use Rattle.zone_stretches.specs.Spans.{SpanStartView, Span, beginning_after, entry_of_beginning, first_beginning, span_to_end, span_until, spans_from, spans_of}
use Rattle.zone_stretches.specs.Stretches.{StretchView, spans_between, spans_in, spans_until, stretch_between, stretch_of_span, stretches_held_by, stretches_in_tenure, stretches_of_zone}
use Rattle.zone_stretches.specs.Tenures.{TenureView, carry, changes_hands, counted, first_tenure, tenure_after, tenure_until, tenures_from, tenures_of}

-- ---- parts of lists

take_next : {A : Type 0} (k : ℕ) (ys rest : List A) (y : A) → drop k ys ≡ y ∷ rest → take (suc k) ys ≡ take k ys ++ y ∷ []
take_next zero [] rest y is = absurd cc
take_next zero (x ∷ xs) rest y is = let same : x ≡ y = cc in ap (λ z. z ∷ []) same
take_next (suc k) [] rest y is = absurd cc
take_next {A} (suc k) (x ∷ xs) rest y is = ap (λ (zs : List A). x ∷ zs) (take_next k xs rest y is)

take_last : {A : Type 0} (k : ℕ) (ys : List A) (y : A) → drop k ys ≡ y ∷ [] → ys ≡ take k ys ++ y ∷ []
take_last zero ys y is = is
take_last (suc k) [] y is = absurd cc
take_last {A} (suc k) (x ∷ xs) y is = ap (λ (zs : List A). x ∷ zs) (take_last k xs y is)

drop_next : {A : Type 0} (n : ℕ) (xs ys : List A) (y : A) → drop n xs ≡ y ∷ ys → drop (suc n) xs ≡ ys
drop_next zero [] ys y is = absurd cc
drop_next zero (x ∷ xs) ys y is = let same : xs ≡ ys = cc in same
drop_next (suc n) [] ys y is = absurd cc
drop_next (suc n) (x ∷ xs) ys y is = drop_next n xs ys y is

drop_rest : {A : Type 0} (from n : ℕ) (xs : List A) → from ≤ n → drop (n - from) (drop from xs) ≡ drop n xs
drop_rest from n xs up = let all : from + (n - from) ≡ n = omega arith in drop-drop (n - from) from xs ∙ ap (λ (k : ℕ). drop k xs) all

map-append : {A C : Type 0} (f : A → C) (xs ys : List A) → map f (xs ++ ys) ≡ map f xs ++ map f ys
map-append f [] ys = refl
map-append f (x ∷ xs) ys = ap (λ (rest : List _). f x ∷ rest) (map-append f xs ys)

-- where the last span ends
until_end : (last : Option EventId) (spans : List Span) (span : Span) → spans_until last (spans ++ span ∷ []) ≡ spans ++ record span { last = last } ∷ []
until_end last [] span = refl
until_end last (one ∷ []) span = refl
until_end last (one ∷ next ∷ spans) span = ap (λ (rest : List Span). one ∷ rest) (until_end last (next ∷ spans) span)

turned : (m n : ℕ) → (n == m) ≡ false → (m == n) ≡ false
turned m n off = elim (cases_Bool (m == n)) [ inl on ↦ no_truth (n == m) (eq-eqb n m (sym (eqb-true m n on))) off | inr same ↦ same ]

-- ---- the stretches as the events come

-- how the time begins that nobody holds the zone
abbrev freed_beginning : OccurrenceView → SpanStartView
freed_beginning o = record { kind = Free; line = unwrap_or o.line 0; at = stands o.at; on = has o.on; first = Some o.name }

-- the time of each channel after an event
abbrev begun : (ℕ → SpanStartView) → OccurrenceView → ℕ → SpanStartView
begun times o c = if c == o.channel then beginning_after (times c) o else times c

-- the last span of a tenure ends with the tenure by itself
abbrev pub EndsItself : (ℕ → List Span) → TenureView → Type 0
EndsItself spans t = (c : ℕ) → t.owner ≡ Some c → spans_in (spans c) t ≡ spans_between (spans c) t.from t.upto

module _ (job : JobView) (zone : ZoneLine) (items : List (List Item)) where
  -- the stretch that is current, as one event ends it, or as it lasts
  abbrev ended : (ℕ → SpanStartView) → SpanStartView → Option ℕ → EventId → StretchView
  ended times free None e = stretch_between job zone None free (Some e) (entry_of_beginning free) []
  ended times free (Some c) e = stretch_of_span job zone c (span_until items (times c) e)

  abbrev lasting : (ℕ → SpanStartView) → SpanStartView → Option ℕ → StretchView
  lasting times free None = stretch_between job zone None free None (entry_of_beginning free) []
  lasting times free (Some c) = stretch_of_span job zone c (span_to_end (times c))

  -- the stretches from the current one on
  abbrev line : (ℕ → SpanStartView) → SpanStartView → Option ℕ → List OccurrenceView → List StretchView
  line times free owner [] = lasting times free owner ∷ []
  line times free owner (o ∷ os) =
      if changes_hands zone o
      then ended times free owner o.name ∷ line (begun times o) (freed_beginning o) (cond (carry zone o.takes) (Some o.channel) None) os
      else cond (is_this owner o.channel) (ended times free owner o.name ∷ line (begun times o) free owner os) (line (begun times o) free owner os)

  -- so many events of each channel have been, and each channel's time has begun so
  abbrev AreAt : (ℕ → List Span) → (ℕ → ℕ) → (ℕ → SpanStartView) → List OccurrenceView → Type 0
  AreAt spans counts times os = (c : ℕ) → drop (counts c) (spans c) ≡ spans_from items (times c) (filter (λ o. o.channel == c) os)

  -- a tenure that lasts, and has begun
  record IsCurrent (counts : ℕ → ℕ) (t : TenureView) : Type 0 where
    lasts : t.upto ≡ None
    unended : t.last ≡ None
    begun_at : (c : ℕ) → t.owner ≡ Some c → t.from ≤ counts c

  -- the stretches that have ended in it
  abbrev past : (ℕ → List Span) → (ℕ → ℕ) → TenureView → Option ℕ → List StretchView
  past spans counts t None = []
  past spans counts t (Some c) = map (stretch_of_span job zone c) (take (counts c - t.from) (drop t.from (spans c)))

  spans_here : (begins : SpanStartView) (c : ℕ) (o : OccurrenceView) (os : List OccurrenceView) → o.channel ≡ c
      → spans_from items begins (filter (λ p. p.channel == c) (o ∷ os)) ≡ span_until items begins o.name ∷ spans_from items (beginning_after begins o) (filter (λ p. p.channel == c) os)
  spans_here begins c o os same = rw (eq-eqb o.channel c same) refl

  spans_other : (begins : SpanStartView) (c : ℕ) (o : OccurrenceView) (os : List OccurrenceView) → (o.channel == c) ≡ false
      → spans_from items begins (filter (λ p. p.channel == c) (o ∷ os)) ≡ spans_from items begins (filter (λ p. p.channel == c) os)
  spans_other begins c o os other = rw other refl

  next_at : (spans : ℕ → List Span) (counts : ℕ → ℕ) (times : ℕ → SpanStartView) (o : OccurrenceView) (os : List OccurrenceView) → AreAt spans counts times (o ∷ os) → AreAt spans (counted counts o.channel) (begun times o) os
  next_at spans counts times o os at d = elim (cases_Bool (d == o.channel)) [
    | inl here ↦
        let same : o.channel ≡ d = sym (eqb-true d o.channel here) in
        rw here (drop_next (counts d) (spans d) (spans_from items (beginning_after (times d) o) (filter (λ p. p.channel == d) os)) (span_until items (times d) o.name) (at d ∙ spans_here (times d) d o os same))
    | inr other ↦ rw other (at d ∙ spans_other (times d) d o os (turned o.channel d other))
  ]

  -- ---- the stretches of the tenures are those of the line

  last_is : (spans : ℕ → List Span) (counts : ℕ → ℕ) (times : ℕ → SpanStartView) (t : TenureView) → AreAt spans counts times [] → IsCurrent counts t
      → stretches_held_by job zone spans t t.owner ≡ past spans counts t t.owner ++ lasting times t.begins t.owner ∷ []
  last_is spans counts times t at current = by_owner t.owner refl
    where
      by_owner : (p : Option ℕ) → t.owner ≡ p → stretches_held_by job zone spans t p ≡ past spans counts t p ++ lasting times t.begins p ∷ []
      by_owner None is = rw current.unended refl
      by_owner (Some c) is =
          let left : drop (counts c - t.from) (drop t.from (spans c)) ≡ span_to_end (times c) ∷ [] = drop_rest t.from (counts c) (spans c) (current.begun_at c is) ∙ at c in
          let whole : drop t.from (spans c) ≡ take (counts c - t.from) (drop t.from (spans c)) ++ span_to_end (times c) ∷ [] = take_last (counts c - t.from) (drop t.from (spans c)) (span_to_end (times c)) left in
          rw (current.lasts, current.unended) (ap (map (stretch_of_span job zone c)) (ap (spans_until None) whole ∙ until_end None (take (counts c - t.from) (drop t.from (spans c))) (span_to_end (times c))) ∙ map-append (stretch_of_span job zone c) (take (counts c - t.from) (drop t.from (spans c))) (span_to_end (times c) ∷ []))

  -- the span that an event of its channel ends
  span_last : (spans : ℕ → List Span) (counts : ℕ → ℕ) (times : ℕ → SpanStartView) (from c : ℕ) (o : OccurrenceView) (os : List OccurrenceView) → AreAt spans counts times (o ∷ os) → from ≤ counts c → o.channel ≡ c
      → take (suc (counts c) - from) (drop from (spans c)) ≡ take (counts c - from) (drop from (spans c)) ++ span_until items (times c) o.name ∷ []
  span_last spans counts times from c o os at up same =
      let more : suc (counts c) - from ≡ suc (counts c - from) = omega arith in
      let left : drop (counts c - from) (drop from (spans c)) ≡ span_until items (times c) o.name ∷ spans_from items (beginning_after (times c) o) (filter (λ p. p.channel == c) os) =
      drop_rest from (counts c) (spans c) up ∙ (at c ∙ spans_here (times c) c o os same) in
      rw more (take_next (counts c - from) (drop from (spans c)) (spans_from items (beginning_after (times c) o) (filter (λ p. p.channel == c) os)) (span_until items (times c) o.name) left)

  span_ends : (spans : ℕ → List Span) (counts : ℕ → ℕ) (times : ℕ → SpanStartView) (from c : ℕ) (o : OccurrenceView) (os : List OccurrenceView) → AreAt spans counts times (o ∷ os) → from ≤ counts c → o.channel ≡ c
      → map (stretch_of_span job zone c) (take (suc (counts c) - from) (drop from (spans c)))
      ≡ map (stretch_of_span job zone c) (take (counts c - from) (drop from (spans c))) ++ stretch_of_span job zone c (span_until items (times c) o.name) ∷ []
  span_ends spans counts times from c o os at up same =
      ap (map (stretch_of_span job zone c)) (span_last spans counts times from c o os at up same)
      ∙ map-append (stretch_of_span job zone c) (take (counts c - from) (drop from (spans c))) (span_until items (times c) o.name ∷ [])

  -- it ends with the tenure too
  span_until_is : (spans : ℕ → List Span) (counts : ℕ → ℕ) (times : ℕ → SpanStartView) (from c : ℕ) (o : OccurrenceView) (os : List OccurrenceView) → AreAt spans counts times (o ∷ os) → from ≤ counts c → o.channel ≡ c
      → spans_until (Some o.name) (take (suc (counts c) - from) (drop from (spans c))) ≡ take (suc (counts c) - from) (drop from (spans c))
  span_until_is spans counts times from c o os at up same =
      let last = span_last spans counts times from c o os at up same in
      ap (spans_until (Some o.name)) last ∙ until_end (Some o.name) (take (counts c - from) (drop from (spans c))) (span_until items (times c) o.name) ∙ sym last

  until_is : (spans : ℕ → List Span) (counts : ℕ → ℕ) (times : ℕ → SpanStartView) (t : TenureView) (o : OccurrenceView) (os : List OccurrenceView) → AreAt spans counts times (o ∷ os) → IsCurrent counts t
      → ((c : ℕ) → t.owner ≡ Some c → o.channel ≡ c)
      → stretches_held_by job zone spans (tenure_until counts t o) t.owner ≡ past spans counts t t.owner ++ ended times t.begins t.owner o.name ∷ []
  until_is spans counts times t o os at current own = by_owner t.owner refl
    where
      by_owner : (p : Option ℕ) → t.owner ≡ p
          → stretches_held_by job zone spans (record t { upto = Some (option_map_or counts p 0); last = Some o.name }) p ≡ past spans counts t p ++ ended times t.begins p o.name ∷ []
      by_owner None is = refl
      by_owner (Some c) is =
          ap (map (stretch_of_span job zone c)) (span_until_is spans counts times t.from c o os at (current.begun_at c is) (own c is))
          ∙ span_ends spans counts times t.from c o os at (current.begun_at c is) (own c is)

  stay_is : (spans : ℕ → List Span) (counts : ℕ → ℕ) (times : ℕ → SpanStartView) (t : TenureView) (o : OccurrenceView) (os : List OccurrenceView) → AreAt spans counts times (o ∷ os) → IsCurrent counts t
      → past spans (counted counts o.channel) t t.owner ≡ past spans counts t t.owner ++ cond (is_this t.owner o.channel) (ended times t.begins t.owner o.name ∷ []) []
  stay_is spans counts times t o os at current = by_owner t.owner refl
    where
      by_owner : (p : Option ℕ) → t.owner ≡ p
          → past spans (counted counts o.channel) t p ≡ past spans counts t p ++ cond (is_this p o.channel) (ended times t.begins p o.name ∷ []) []
      by_owner None is = refl
      by_owner (Some c) is = elim (cases_Bool (c == o.channel)) [
        | inl here ↦ rw here (span_ends spans counts times t.from c o os at (current.begun_at c is) (sym (eqb-true c o.channel here)))
        | inr other ↦ rw other (sym (append-nil (map (stretch_of_span job zone c) (take (counts c - t.from) (drop t.from (spans c))))))
      ]

  stays_current : (counts : ℕ → ℕ) (t : TenureView) (d : ℕ) → IsCurrent counts t → IsCurrent (counted counts d) t
  stays_current counts t d current = record { lasts = current.lasts; unended = current.unended; begun_at = λ c is. by_test (c == d) c (current.begun_at c is) }
    where
      by_test : (b : Bool) (c : ℕ) → t.from ≤ counts c → t.from ≤ cond b (suc (counts c)) (counts c)
      by_test true c up = omega arith
      by_test false c up = up

  after_current : (counts : ℕ → ℕ) (o : OccurrenceView) → IsCurrent (counted counts o.channel) (tenure_after zone counts o)
  after_current counts o = record { lasts = refl; unended = refl; begun_at = λ c is. by_takes (carry zone o.takes) c is }
    where
      by_takes : (b : Bool) (c : ℕ) → cond b (Some o.channel) None ≡ Some c → suc (counts o.channel) ≤ counted counts o.channel c
      by_takes true c is =
          let same : o.channel ≡ c = cc in
          let here : (c == o.channel) ≡ true = eq-eqb c o.channel (sym same) in
          let alike : counts o.channel ≡ counts c = ap counts same in
          rw here (omega arith)
      by_takes false c is = absurd cc

  after_past : (spans : ℕ → List Span) (counts : ℕ → ℕ) (o : OccurrenceView) → past spans (counted counts o.channel) (tenure_after zone counts o) (tenure_after zone counts o).owner ≡ []
  after_past spans counts o = by_takes (carry zone o.takes)
    where
      by_takes : (b : Bool) → past spans (counted counts o.channel) (tenure_after zone counts o) (cond b (Some o.channel) None) ≡ []
      by_takes true =
          let here : (o.channel == o.channel) ≡ true = eq-eqb o.channel o.channel refl in
          let none : suc (counts o.channel) - suc (counts o.channel) ≡ 0 = omega arith in
          rw (here, none) refl
      by_takes false = refl

  -- where hands change, who holds the zone lets it go
  change_own : (owner : Option ℕ) (o : OccurrenceView) → changes_hands zone o ≡ true → (carry zone o.frees ≡ true → owner ≡ Some o.channel) → (carry zone o.takes ≡ true → owner ≡ None)
      → (c : ℕ) → owner ≡ Some c → o.channel ≡ c
  change_own owner o changes frees takes c is = elim (or_cases (carry zone o.frees) (carry zone o.takes) changes) [
    | inl let_go ↦ let same : Some o.channel ≡ Some c = sym (frees let_go) ∙ is in cc
    | inr taken ↦ let bad : None ≡ Some c = sym (takes taken) ∙ is in absurd cc
  ]

  line_is : (spans : ℕ → List Span) (os : List OccurrenceView) (counts : ℕ → ℕ) (times : ℕ → SpanStartView) (t : TenureView) → AreAt spans counts times os → IsCurrent counts t → HandsAre zone t.owner os
      → flat_map (stretches_in_tenure job zone spans) (tenures_from zone counts t os) ≡ past spans counts t t.owner ++ line times t.begins t.owner os
  line_is spans [] counts times t at current hands = append-nil (stretches_in_tenure job zone spans t) ∙ last_is spans counts times t at current
  line_is spans (o ∷ os) counts times t at current hands =
      by_test (changes_hands zone o) refl
      (line_is spans os (counted counts o.channel) (begun times o) (tenure_after zone counts o) (next_at spans counts times o os at) (after_current counts o))
      (line_is spans os (counted counts o.channel) (begun times o) t (next_at spans counts times o os at) (stays_current counts t o.channel current))
    where
      by_test : (b : Bool) → changes_hands zone o ≡ b
          → (HandsAre zone (tenure_after zone counts o).owner os
          → flat_map (stretches_in_tenure job zone spans) (tenures_from zone (counted counts o.channel) (tenure_after zone counts o) os)
          ≡ past spans (counted counts o.channel) (tenure_after zone counts o) (tenure_after zone counts o).owner ++ line (begun times o) (freed_beginning o) (tenure_after zone counts o).owner os)
          → (HandsAre zone t.owner os
          → flat_map (stretches_in_tenure job zone spans) (tenures_from zone (counted counts o.channel) t os) ≡ past spans (counted counts o.channel) t t.owner ++ line (begun times o) t.begins t.owner os)
          → flat_map (stretches_in_tenure job zone spans) (cond b (tenure_until counts t o ∷ tenures_from zone (counted counts o.channel) (tenure_after zone counts o) os) (tenures_from zone (counted counts o.channel) t os))
          ≡ past spans counts t t.owner ++ cond b (ended times t.begins t.owner o.name ∷ line (begun times o) (freed_beginning o) (tenure_after zone counts o).owner os)
          (cond (is_this t.owner o.channel) (ended times t.begins t.owner o.name ∷ line (begun times o) t.begins t.owner os) (line (begun times o) t.begins t.owner os))
      by_test true changes changed same =
          let next : HandsAre zone (tenure_after zone counts o).owner os = rw changes at hands.3 in
          let rest = changed next ∙ ap (λ (xs : List StretchView). xs ++ line (begun times o) (freed_beginning o) (tenure_after zone counts o).owner os) (after_past spans counts o) in
          rw (until_is spans counts times t o os at current (change_own t.owner o changes hands.0 hands.2), rest)
          (append_assoc (past spans counts t t.owner) (ended times t.begins t.owner o.name ∷ []) (line (begun times o) (freed_beginning o) (tenure_after zone counts o).owner os))
      by_test false changes changed same =
          let next : HandsAre zone t.owner os = rw changes at hands.3 in
          same next ∙ rw (stay_is spans counts times t o os at current) (by_channel (is_this t.owner o.channel))
        where
          by_channel : (d : Bool) → (past spans counts t t.owner ++ cond d (ended times t.begins t.owner o.name ∷ []) []) ++ line (begun times o) t.begins t.owner os
              ≡ past spans counts t t.owner ++ cond d (ended times t.begins t.owner o.name ∷ line (begun times o) t.begins t.owner os) (line (begun times o) t.begins t.owner os)
          by_channel true = append_assoc (past spans counts t t.owner) (ended times t.begins t.owner o.name ∷ []) (line (begun times o) t.begins t.owner os)
          by_channel false = append_assoc (past spans counts t t.owner) [] (line (begun times o) t.begins t.owner os)

  -- ---- a channel's span ends where it lets the zone go

  last_itself : (spans : ℕ → List Span) (counts : ℕ → ℕ) (times : ℕ → SpanStartView) (t : TenureView) → AreAt spans counts times [] → IsCurrent counts t → EndsItself spans t
  last_itself spans counts times t at current c is =
      let left : drop (counts c - t.from) (drop t.from (spans c)) ≡ span_to_end (times c) ∷ [] = drop_rest t.from (counts c) (spans c) (current.begun_at c is) ∙ at c in
      let whole : drop t.from (spans c) ≡ take (counts c - t.from) (drop t.from (spans c)) ++ span_to_end (times c) ∷ [] = take_last (counts c - t.from) (drop t.from (spans c)) (span_to_end (times c)) left in
      rw (current.lasts, current.unended) (ap (spans_until None) whole ∙ until_end None (take (counts c - t.from) (drop t.from (spans c))) (span_to_end (times c)) ∙ sym whole)

  until_itself : (spans : ℕ → List Span) (counts : ℕ → ℕ) (times : ℕ → SpanStartView) (t : TenureView) (o : OccurrenceView) (os : List OccurrenceView) → AreAt spans counts times (o ∷ os) → IsCurrent counts t
      → ((c : ℕ) → t.owner ≡ Some c → o.channel ≡ c) → EndsItself spans (tenure_until counts t o)
  until_itself spans counts times t o os at current own c is = by_owner t.owner is
    where
      by_owner : (p : Option ℕ) → p ≡ Some c
          → spans_until (Some o.name) (take (suc (option_map_or counts p 0) - t.from) (drop t.from (spans c))) ≡ take (suc (option_map_or counts p 0) - t.from) (drop t.from (spans c))
      by_owner None none = absurd cc
      by_owner (Some d) some =
          let same : c ≡ d = cc in
          subst (λ (e : ℕ). spans_until (Some o.name) (take (suc (counts e) - t.from) (drop t.from (spans c))) ≡ take (suc (counts e) - t.from) (drop t.from (spans c))) same
          (span_until_is spans counts times t.from c o os at (current.begun_at c is) (own c is))

  all_itself : (spans : ℕ → List Span) (os : List OccurrenceView) (counts : ℕ → ℕ) (times : ℕ → SpanStartView) (t : TenureView) → AreAt spans counts times os → IsCurrent counts t → HandsAre zone t.owner os
      → All (EndsItself spans) (tenures_from zone counts t os)
  all_itself spans [] counts times t at current hands = All-cons (EndsItself spans) t [] (last_itself spans counts times t at current) (All-nil (EndsItself spans))
  all_itself spans (o ∷ os) counts times t at current hands =
      by_test (changes_hands zone o) refl
      (all_itself spans os (counted counts o.channel) (begun times o) (tenure_after zone counts o) (next_at spans counts times o os at) (after_current counts o))
      (all_itself spans os (counted counts o.channel) (begun times o) t (next_at spans counts times o os at) (stays_current counts t o.channel current))
    where
      by_test : (b : Bool) → changes_hands zone o ≡ b
          → (HandsAre zone (tenure_after zone counts o).owner os → All (EndsItself spans) (tenures_from zone (counted counts o.channel) (tenure_after zone counts o) os))
          → (HandsAre zone t.owner os → All (EndsItself spans) (tenures_from zone (counted counts o.channel) t os))
          → All (EndsItself spans) (cond b (tenure_until counts t o ∷ tenures_from zone (counted counts o.channel) (tenure_after zone counts o) os) (tenures_from zone (counted counts o.channel) t os))
      by_test true changes changed same =
          All-cons (EndsItself spans) (tenure_until counts t o) (tenures_from zone (counted counts o.channel) (tenure_after zone counts o) os)
          (until_itself spans counts times t o os at current (change_own t.owner o changes hands.0 hands.2)) (changed (rw changes at hands.3))
      by_test false changes changed same = same (rw changes at hands.3)

  -- ---- the line is in order

  module _ (b : Board) (moves : List Move) where
    -- the event with which a channel's time has begun is before each event of the channel to come
    abbrev Since : Option EventId → ℕ → List OccurrenceView → Type 0
    Since None c os = ⊤
    Since (Some e) c os = (x : EventId) × (x.channel ≡ c) × AreOne b moves e x × All (λ o. o.channel ≡ c → moment x < moment (own_name o)) os

    -- an act has let the axes of the zone go, and none has since
    record IsFreed (n : ℕ) (e : EventId) : Type 0 where
      act : e.go ≡ false
      early : e.step < n
      one : AreOne b moves e e
      given : (x : ℕ) → has_axis zone x ≡ true → gives (happening_at b moves e.step) (Freed x) ≡ true
      none_later : (x : ℕ) → has_axis zone x ≡ true → (k : ℕ) → e.step < k → k < n → gives (happening_at b moves k) (Freed x) ≡ false

    abbrev FreeSince : ℕ → Option EventId → Type 0
    FreeSince n None = ⊤
    FreeSince n (Some e) = IsFreed n e

    record InLine (n : ℕ) (times : ℕ → SpanStartView) (free : SpanStartView) (owner : Option ℕ) (os : List OccurrenceView) : Type 0 where
      told : All (IsTold b moves) os
      steps : InSteps n os
      rising : AreRising os
      hands : HandsAre zone owner os
      since : (c : ℕ) → Since (times c).first c os
      freed : owner ≡ None → FreeSince n free.first

    abbrev first_now : (ℕ → SpanStartView) → SpanStartView → Option ℕ → Option EventId
    first_now times free None = free.first
    first_now times free (Some c) = (times c).first

    ended_in_order : (times : ℕ → SpanStartView) (free : SpanStartView) (owner : Option ℕ) (e : EventId) (rest : List StretchView) → IsAfter b moves (first_now times free owner) e → AreInOrder b moves (Some e) rest
        → AreInOrder b moves (first_now times free owner) (ended times free owner e ∷ rest)
    ended_in_order times free None e rest goes order = (refl, (goes, order))
    ended_in_order times free (Some c) e rest goes order = (refl, (goes, order))

    lasting_in_order : (times : ℕ → SpanStartView) (free : SpanStartView) (owner : Option ℕ) → AreInOrder b moves (first_now times free owner) (lasting times free owner ∷ [])
    lasting_in_order times free None = (refl, refl)
    lasting_in_order times free (Some c) = (refl, refl)

    -- from one event of a channel on to its next
    channel_goes : (first : Option EventId) (c : ℕ) (o : OccurrenceView) (os : List OccurrenceView) → IsTold b moves o → Since first c (o ∷ os) → o.channel ≡ c → IsAfter b moves first o.name
    channel_goes None c o os told since same = tt
    channel_goes (Some e) c o os told since same = (
      [],
      record {
        from = since.0;
        to = own_name o;
        left = since.2;
        right = (are_one_alike b moves o.name (own_name o) o.name).either_way told.own;
        rule = InChannel (since.1 ∙ sym same) (All-head (λ p. p.channel ≡ c → moment since.0 < moment (own_name p)) o os since.3 same);
      },
    )

    -- from the act that let the axes go on to who takes them
    free_goes : (first : Option EventId) (n : ℕ) (o : OccurrenceView) → IsTold b moves o → FreeSince n first → suc o.name.step ≡ n → carry zone o.takes ≡ true → IsAfter b moves first o.name
    free_goes None n o told freed here on = tt
    free_goes (Some e) n o told freed here on =
        let w = carry_from zone o.takes on in (
          [],
          record {
            from = e;
            to = own_name o;
            left = freed.one;
            right = (are_one_alike b moves o.name (own_name o) o.name).either_way told.own;
            rule = FreedAxis w.0 (record {
              act = freed.act;
              going = told.goes w.0 w.2;
              rests = told.rests w.0 w.2;
              last = record {
                given = freed.given w.0 w.1;
                up = omega (arith, freed.early, here);
                none_later = λ k after upto. freed.none_later w.0 w.1 k after (omega (arith, here));
              };
            });
          },
        )

    -- ---- one event of the line

    own_since : (times : ℕ → SpanStartView) (o : OccurrenceView) (os : List OccurrenceView) → IsTold b moves o → AreRising (o ∷ os) → ((c : ℕ) → Since (times c).first c (o ∷ os)) → (c : ℕ) → Since (begun times o c).first c os
    own_since times o os told rising since c = elim (cases_Bool (c == o.channel)) [
      | inl here ↦
          let same : c ≡ o.channel = eqb-true c o.channel here in
          rw here (own_name o, sym same, told.own, subst (λ (d : ℕ). All (λ p. p.channel ≡ d → moment (own_name o) < moment (own_name p)) os) (sym same) rising.0)
      | inr other ↦ rw other (later (times c).first (since c))
    ]
      where
        later : (first : Option EventId) → Since first c (o ∷ os) → Since first c os
        later None s = tt
        later (Some e) s = (s.0, s.1, s.2, All-tail (λ p. p.channel ≡ c → moment s.0 < moment (own_name p)) o os s.3)

    -- the steps to come
    abbrev next_step : ℕ → Bool → ℕ
    next_step n go = cond go n (suc n)

    steps_next : (n : ℕ) (o : OccurrenceView) (os : List OccurrenceView) → InSteps n (o ∷ os) → InSteps (next_step n o.name.go) os
    steps_next n o os (inl (acts, step, rest)) = rw acts rest
    steps_next n o os (inr (goes, step, rest)) = rw goes rest

    step_of_act : (n : ℕ) (o : OccurrenceView) (os : List OccurrenceView) → InSteps n (o ∷ os) → o.name.go ≡ false → o.name.step ≡ n
    step_of_act n o os (inl (acts, step, rest)) act = step
    step_of_act n o os (inr (goes, step, rest)) act = no_truth o.name.go goes act

    step_of_going : (n : ℕ) (o : OccurrenceView) (os : List OccurrenceView) → InSteps n (o ∷ os) → o.name.go ≡ true → suc o.name.step ≡ n
    step_of_going n o os (inl (acts, step, rest)) go = no_truth o.name.go go acts
    step_of_going n o os (inr (goes, step, rest)) go = step

    -- where nobody lets the axes go they stay free
    free_next : (n : ℕ) (first : Option EventId) (o : OccurrenceView) (os : List OccurrenceView) → IsTold b moves o → InSteps n (o ∷ os) → carry zone o.frees ≡ false → FreeSince n first → FreeSince (next_step n o.name.go) first
    free_next n None o os told steps off freed = tt
    free_next n (Some e) o os told steps off freed = by_go o.name.go refl
      where
        quiet : o.name.go ≡ false → (x : ℕ) → has_axis zone x ≡ true → (k : ℕ) → e.step < k → k < suc n → gives (happening_at b moves k) (Freed x) ≡ false
        quiet acts x on k after below = elim (cases_Bool (k == n)) [
          | inl here ↦
              let same : o.name.step ≡ k = step_of_act n o os steps acts ∙ sym (eqb-true k n here) in
              subst (λ (j : ℕ). gives (happening_at b moves j) (Freed x) ≡ false) same (told.frees acts x ∙ none x on)
          | inr other ↦ freed.none_later x on k after (below_of k other below)
        ]
          where
            none : (x : ℕ) → has_axis zone x ≡ true → o.frees x ≡ false
            none x on = elim (cases_Bool (o.frees x)) [ inl is ↦ no_truth (carry zone o.frees) (carry_to zone o.frees x on is) off | inr is ↦ is ]

            below_of : (k : ℕ) → (k == n) ≡ false → k < suc n → k < n
            below_of k other below = let apart : k ≡ n → ⊥ = λ e. no_truth (k == n) (eq-eqb k n e) other in omega arith

        by_go : (go : Bool) → o.name.go ≡ go → IsFreed (next_step n go) e
        by_go true goes = freed
        by_go false acts =
            let low = freed.early in
            record { act = freed.act; early = omega arith; one = freed.one; given = freed.given; none_later = quiet acts }

    -- an act that lets the axes go
    newly_freed : (n : ℕ) (o : OccurrenceView) (os : List OccurrenceView) → IsTold b moves o → InSteps n (o ∷ os) → (carry zone o.frees ≡ true → (x : ℕ) → has_axis zone x ≡ true → o.frees x ≡ true)
        → carry zone o.frees ≡ true → IsFreed (next_step n o.name.go) o.name
    newly_freed n o os told steps all on = by_go o.name.go refl
      where
        by_go : (go : Bool) → o.name.go ≡ go → IsFreed (next_step n go) o.name
        by_go true goes = let w = carry_from zone o.frees on in no_truth (o.frees w.0) w.2 (told.keeps goes w.0)
        by_go false acts =
            let here = step_of_act n o os steps acts in
            record {
              act = acts;
              early = omega (arith, here);
              one = (are_one_alike b moves o.name o.name o.name).itself told.own.first;
              given = λ x axis. told.frees acts x ∙ all on x axis;
              none_later = λ x axis k after below. absurd (omega (arith, here));
            }

    line_in_order : (os : List OccurrenceView) (n : ℕ) (times : ℕ → SpanStartView) (free : SpanStartView) (owner : Option ℕ) → InLine n times free owner os → AreInOrder b moves (first_now times free owner) (line times free owner os)
    line_in_order [] n times free owner is = lasting_in_order times free owner
    line_in_order (o ∷ os) n times free owner is =
        by_test (changes_hands zone o) refl
        (line_in_order os (next_step n o.name.go) (begun times o) (freed_beginning o) (cond (carry zone o.takes) (Some o.channel) None))
        (line_in_order os (next_step n o.name.go) (begun times o) free owner)
      where
        told : IsTold b moves o
        told = All-head (IsTold b moves) o os is.told

        since : (c : ℕ) → Since (begun times o c).first c os
        since = own_since times o os (All-head (IsTold b moves) o os is.told) is.rising is.since

        -- who holds the zone goes on to this event, or who takes it goes on from its being let go
        goes : (p : Option ℕ) → owner ≡ p → ((c : ℕ) → p ≡ Some c → o.channel ≡ c) → (p ≡ None → carry zone o.takes ≡ true) → IsAfter b moves (first_now times free p) o.name
        goes None same own taken =
            let on = taken refl in
            let w = carry_from zone o.takes on in
            free_goes free.first n o (All-head (IsTold b moves) o os is.told) (is.freed same) (step_of_going n o os is.steps ((All-head (IsTold b moves) o os is.told).goes w.0 w.2)) on
        goes (Some c) same own taken = channel_goes (times c).first c o os (All-head (IsTold b moves) o os is.told) (is.since c) (own c refl)

        begun_own : (c : ℕ) → o.channel ≡ c → (begun times o c).first ≡ Some o.name
        begun_own c same = rw (eq-eqb c o.channel (sym same)) refl

        changed_first : (t : Bool) → first_now (begun times o) (freed_beginning o) (cond t (Some o.channel) None) ≡ Some o.name
        changed_first true = begun_own o.channel refl
        changed_first false = refl

        by_test : (t : Bool) → changes_hands zone o ≡ t
            → (InLine (next_step n o.name.go) (begun times o) (freed_beginning o) (cond (carry zone o.takes) (Some o.channel) None) os
            → AreInOrder b moves (first_now (begun times o) (freed_beginning o) (cond (carry zone o.takes) (Some o.channel) None)) (line (begun times o) (freed_beginning o) (cond (carry zone o.takes) (Some o.channel) None) os))
            → (InLine (next_step n o.name.go) (begun times o) free owner os → AreInOrder b moves (first_now (begun times o) free owner) (line (begun times o) free owner os))
            → AreInOrder b moves (first_now times free owner)
            (cond t (ended times free owner o.name ∷ line (begun times o) (freed_beginning o) (cond (carry zone o.takes) (Some o.channel) None) os)
            (cond (is_this owner o.channel) (ended times free owner o.name ∷ line (begun times o) free owner os) (line (begun times o) free owner os)))
        by_test true changes changed same =
            ended_in_order times free owner o.name (line (begun times o) (freed_beginning o) (cond (carry zone o.takes) (Some o.channel) None) os)
            (goes owner refl (change_own owner o changes is.hands.0 is.hands.2) taken)
            (subst (λ (first : Option EventId). AreInOrder b moves first (line (begun times o) (freed_beginning o) (cond (carry zone o.takes) (Some o.channel) None) os)) (changed_first (carry zone o.takes))
            (changed (record {
              told = All-tail (IsTold b moves) o os is.told;
              steps = steps_next n o os is.steps;
              rising = is.rising.1;
              hands = rw changes at is.hands.3;
              since = since;
              freed = λ none. freed_now (carry zone o.takes) refl none;
            })))
          where
            taken : owner ≡ None → carry zone o.takes ≡ true
            taken none = elim (or_cases (carry zone o.frees) (carry zone o.takes) changes) [
              | inl let_go ↦ let bad : None ≡ Some o.channel = sym none ∙ is.hands.0 let_go in absurd cc
              | inr on ↦ on
            ]

            freed_now : (t : Bool) → carry zone o.takes ≡ t → cond t (Some o.channel) None ≡ None → IsFreed (next_step n o.name.go) o.name
            freed_now true on bad = absurd cc
            freed_now false off none = elim (or_cases (carry zone o.frees) (carry zone o.takes) changes) [
              | inl let_go ↦ newly_freed n o os (All-head (IsTold b moves) o os is.told) is.steps is.hands.1 let_go
              | inr on ↦ no_truth (carry zone o.takes) on off
            ]
        by_test false changes changed same = by_owner owner refl (same (record {
          told = All-tail (IsTold b moves) o os is.told;
          steps = steps_next n o os is.steps;
          rising = is.rising.1;
          hands = rw changes at is.hands.3;
          since = since;
          freed = λ none. free_next n free.first o os (All-head (IsTold b moves) o os is.told) is.steps (neither (carry zone o.frees) (carry zone o.takes) changes) (is.freed none);
        }))
          where
            neither : (p q : Bool) → (p || q) ≡ false → p ≡ false
            neither true q off = no_truth true refl off
            neither false q off = refl

            by_owner : (p : Option ℕ) → owner ≡ p → AreInOrder b moves (first_now (begun times o) free p) (line (begun times o) free p os)
                → AreInOrder b moves (first_now times free p) (cond (is_this p o.channel) (ended times free p o.name ∷ line (begun times o) free p os) (line (begun times o) free p os))
            by_owner None none order = order
            by_owner (Some c) some order = elim (cases_Bool (c == o.channel)) [
              | inl here ↦
                  let mine : o.channel ≡ c = sym (eqb-true c o.channel here) in
                  rw here (ended_in_order times free (Some c) o.name (line (begun times o) free (Some c) os) (goes (Some c) some (λ d e. mine ∙ only c d e) (λ bad. absurd cc))
                  (subst (λ (first : Option EventId). AreInOrder b moves first (line (begun times o) free (Some c) os)) (begun_own c mine) order))
              | inr other ↦ rw other (subst (λ (first : Option EventId). AreInOrder b moves first (line (begun times o) free (Some c) os)) (kept c other) order)
            ]
              where
                only : (c d : ℕ) → Some c ≡ Some d → c ≡ d
                only c d e = cc

                kept : (c : ℕ) → (c == o.channel) ≡ false → (begun times o c).first ≡ (times c).first
                kept c other = rw other refl

-- ---- the stretches of a run

zone_ascends : (job : JobView) (start : StartView) (run : RunView) (zone : ZoneLine) → ComesFrom start run → IsZoneOf start zone
    → AreInOrder (first_board start) (moves_in run.entries) None (stretches_of_zone job run.items (occurrences_of (first_board start) (moves_in run.entries)) zone)
unfolding stretches_of_zone spans_of tenures_of occurrences_of
zone_ascends job start run zone comes is =
    let b : Board = first_board start in
    let moves : List Move = moves_in run.entries in
    let os : List OccurrenceView = occurrences_from b 0 moves in
    let running : AreOfRunning b moves = running_moves run.entries b comes.entries in
    let hands : HandsAre zone zone.holder os = subst (λ (p : Option ℕ). HandsAre zone p os) is.holder (run_hands moves b zone 0 (first_robs_nobody start) (zones_first start comes.sound) is.axes) in
    let same : flat_map (stretches_in_tenure job zone (spans_of job run.items os)) (tenures_from zone (λ c. 0) (first_tenure job zone) os)
    ≡ line job zone run.items (first_beginning job) (first_tenure job zone).begins zone.holder os =
    line_is job zone run.items (spans_of job run.items os) os (λ c. 0) (first_beginning job) (first_tenure job zone) (λ c. refl)
    (record { lasts = refl; unended = refl; begun_at = λ c owns. omega arith }) hands
    ∙ ap (λ (xs : List StretchView). xs ++ line job zone run.items (first_beginning job) (first_tenure job zone).begins zone.holder os) (nothing_past zone.holder) in
    let order : AreInOrder b moves (first_now job zone run.items b moves (first_beginning job) (first_tenure job zone).begins zone.holder) (line job zone run.items (first_beginning job) (first_tenure job zone).begins zone.holder os) =
    line_in_order job zone run.items b moves os 0 (first_beginning job) (first_tenure job zone).begins zone.holder (record {
      told = all_told b moves running;
      steps = in_steps moves b 0;
      rising = rising moves b 0 running;
      hands = hands;
      since = λ c. tt;
      freed = λ none. tt;
    }) in
    subst (λ (xs : List StretchView). AreInOrder b moves None xs) (sym same)
    (subst (λ (first : Option EventId). AreInOrder b moves first (line job zone run.items (first_beginning job) (first_tenure job zone).begins zone.holder os)) (begins_first zone.holder) order)
  where
    nothing_past : (p : Option ℕ) → past job zone run.items (spans_of job run.items (occurrences_from (first_board start) 0 (moves_in run.entries))) (λ c. 0) (first_tenure job zone) p ≡ []
    nothing_past None = refl
    nothing_past (Some c) = refl

    begins_first : (p : Option ℕ) → first_now job zone run.items (first_board start) (moves_in run.entries) (first_beginning job) (first_tenure job zone).begins p ≡ None
    begins_first None = refl
    begins_first (Some c) = refl

-- In a run each tenure ends with the event with which the last of its owner's spans ends anyway: only a channel itself lets go of what it holds.
pub spans_end_with_tenures : (job : JobView) (start : StartView) (items : List (List Item)) (moves : List Move) (zone : ZoneLine) → Zones (first_board start) → IsZoneOf start zone
    → All (EndsItself (spans_of job items (occurrences_of (first_board start) moves))) (tenures_of job (occurrences_of (first_board start) moves) zone)
unfolding spans_of tenures_of occurrences_of
spans_end_with_tenures job start items moves zone zones is =
    let os : List OccurrenceView = occurrences_from (first_board start) 0 moves in
    let hands : HandsAre zone zone.holder os = subst (λ (p : Option ℕ). HandsAre zone p os) is.holder (run_hands moves (first_board start) zone 0 (first_robs_nobody start) zones is.axes) in
    all_itself job zone items (spans_of job items os) os (λ c. 0) (first_beginning job) (first_tenure job zone) (λ c. refl)
    (record { lasts = refl; unended = refl; begun_at = λ c owns. omega arith }) hands

pub stretches_ascend : (job : JobView) (start : StartView) (run : RunView) → StretchesAscend job start run
stretches_ascend job start run zones comes =
    each_zone_time job (first_board start) run (λ time. AreInOrder (first_board start) (moves_in run.entries) None time.stretches) (IsZoneOf start) (λ zone is. zone_ascends job start run zone comes is) zones
