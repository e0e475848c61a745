-- Each event of a run has its lowest name.
use Rattle.axis_sets.specs.declared.limits.TheConstants.{CHANNEL_LIMIT, CHANNEL_PLACES}
use Rattle.std.proofs.Common.{◌≡◌, ◌⊎◌, ◌∙◌, inl, inr, ℕ, zero, suc, ◌+◌, ◌<◌, ◌≤◌, ◌==◌, ◌&&◌, ◌||◌, Bool, true, false, cond, List, [], ◌∷◌, ◌++◌, map, filter, Option, None, Some, All, refl, sym, ap, subst, arith}
use Rattle.std.specs.Prelude.{IfSome, unwrap_or}
use Rattle.std.specs.List.{range_with_len}
use Rattle.std.proofs.lemmas.Bool.{cases_Bool, and_parts, and_from, eqb-true, eq-eqb}
use Rattle.std.proofs.lemmas.List.Elements.{All-nil, All-cons, All-head, All-tail, All-append, All-map, All-weaker, All-filter}
use Rattle.job_types.specs.Job.{JobView}
use Rattle.job_types.specs.declared.job.ZoneLine.{ZoneLine}
use Rattle.order_clocks.specs.Chains.{IsIn}
use Rattle.order_clocks.specs.Clocked.{moves_in}
use Rattle.order_clocks.specs.Groups.{labels}
use Rattle.order_clocks.specs.Happenings.{happening_of}
use Rattle.order_clocks.proofs.CounterLaws.{in_filter}
use Rattle.order_clocks.proofs.DepartLaws.{takings_take}
use Rattle.order_clocks.proofs.GroupLaws.{chained_from, chained_to}
use Rattle.order_clocks.proofs.MemberLaws.{in_append}
use Rattle.zone_stretches.proofs.StretchLaws.{HoldsOf, each_stretch, each_time}
use Rattle.zone_stretches.specs.Occurrences.{OccurrenceView, act_of, going_on_of, lowest_of_event, occurrences_in, occurrences_from, occurrences_of}
use Rattle.zone_stretches.specs.SoundStretches.{HasLowNames, EndsAreLowestNames}
use Rattle.zone_stretches.specs.Spans.{SpanStartView, beginning_after, first_beginning, span_to_end, span_until, spans_from, spans_of}
use Rattle.zone_stretches.specs.Stretches.{free_stretch, stretches_of_zone}
use Rattle.zone_stretches.specs.Tenures.{TenureView, changes_hands, counted, first_tenure, tenure_after, tenure_until, tenures_from, tenures_of}
use Rattle.sync_types.proofs.BoardTests.{no_truth, first_passes}
use Rattle.sync_types.specs.BoardActions.{after_own_part, channels_started}
use Rattle.sync_types.specs.BoardAlarms.{alarm_of}
use Rattle.sync_types.specs.Boards.{AtMarks, AtAxes, State, IsHolding, Board, among, channel_numbers}
use Rattle.sync_types.specs.Events.{Pair, ArePaired, IsChain, AreLinked, IsThere, IsEvent, AreJoined, IsLowestName, channels_in, goings_at, name_each_other, name_each_other_at, names_at, number_of, pairs_with, pairs_between, pairs_of}
use Rattle.sync_types.specs.GoingOn.{Going, first_of, goes_at_once, goers_at_once, after_goes, all_takings, going_of_start, going_at_once, goings_on, waits_for_axes}
use Rattle.sync_types.specs.Turns.{Move, after_step, goings_in_step}
use Rattle.sync_types.specs.Views.{RunView}
use Rattle.sync_types.specs.declared.Item.{Item}
use Rattle.sync_types.specs.declared.Step.{Step}
use Rattle.sync_types.specs.declared.runs.EventId.{EventId}

-- ---- only those that wait for marks name each other

abbrev at_marks : State → Bool
at_marks (IsHolding (AtMarks number named) line) = true
at_marks other = false

names_marks : (s : State) (m d : ℕ) → names_at s m d ≡ true → at_marks s ≡ true
names_marks (IsHolding (AtMarks number named) line) m d on = refl
names_marks other m d on = no_truth false on refl

both_marks : (g h : Going) → name_each_other g h ≡ true → (at_marks g.from ≡ true) × (at_marks h.from ≡ true)
both_marks g h on = by_number (number_of g.from) on
  where
    by_number : (o : Option ℕ) → name_each_other_at o g h ≡ true → (at_marks g.from ≡ true) × (at_marks h.from ≡ true)
    by_number (Some m) on =
        let parts = and_parts (names_at g.from m h.channel) (names_at h.from m g.channel) on in
        (names_marks g.from m h.channel parts.0, names_marks h.from m g.channel parts.1)
    by_number None on = no_truth false on refl

-- what holds of the channel of each of them
abbrev EachMarks : (ℕ → Type 0) → List Going → Type 0
EachMarks P gs = (g : Going) → IsIn g gs → at_marks g.from ≡ true → P g.channel

paired_parts : (ps qs : List Pair) (c d : ℕ) → ArePaired (ps ++ qs) c d → ArePaired ps c d ⊎ ArePaired qs c d
paired_parts [] qs c d h = inr h
paired_parts (p ∷ ps) qs c d (inl h) = inl (inl h)
paired_parts (p ∷ ps) qs c d (inr (inl h)) = inl (inr (inl h))
paired_parts (p ∷ ps) qs c d (inr (inr h)) = elim (paired_parts ps qs c d h) [ inl l ↦ inl (inr (inr l)) | inr r ↦ inr r ]

with_hold : (P : ℕ → Type 0) (g : Going) (hs : List Going) → (at_marks g.from ≡ true → P g.channel) → EachMarks P hs → (c d : ℕ) → ArePaired (pairs_with g hs) c d → P c × P d
with_hold P g [] one each c d paired = absurd paired
with_hold P g (h ∷ hs) one each c d paired = by_test (name_each_other g h) refl paired (with_hold P g hs one (λ k within. each k (inr within)) c d)
  where
    by_test : (t : Bool) → name_each_other g h ≡ t → ArePaired (map (λ k. record { one = g.channel; two = k.channel }) (cond t (h ∷ filter (name_each_other g) hs) (filter (name_each_other g) hs))) c d
        → (ArePaired (pairs_with g hs) c d → P c × P d) → P c × P d
    by_test true on (inl e) rest =
        let marks = both_marks g h on in
        (subst P e.0 (one marks.0), subst P e.1 (each h (inl refl) marks.1))
    by_test true on (inr (inl e)) rest =
        let marks = both_marks g h on in
        (subst P e.1 (each h (inl refl) marks.1), subst P e.0 (one marks.0))
    by_test true on (inr (inr more)) rest = rest more
    by_test false off more rest = rest more

between_hold : (P : ℕ → Type 0) (gs hs : List Going) → EachMarks P gs → EachMarks P hs → (c d : ℕ) → ArePaired (pairs_between gs hs) c d → P c × P d
between_hold P [] hs each other c d paired = absurd paired
between_hold P (g ∷ gs) hs each other c d paired = elim (paired_parts (pairs_with g hs) (pairs_between gs hs) c d paired) [
  | inl one ↦ with_hold P g hs (each g (inl refl)) other c d one
  | inr more ↦ between_hold P gs hs (λ k within. each k (inr within)) other c d more
]

chain_hold : (P : ℕ → Type 0) (ps : List Pair) → ((c d : ℕ) → ArePaired ps c d → P c × P d) → (es : List ℕ) (c d : ℕ) → IsChain ps c es d → P c × P d
chain_hold P ps each [] c d paired = each c d paired
chain_hold P ps each (e ∷ es) c d path = ((each c e path.0).0, (chain_hold P ps each es e d path.1).1)

-- ---- they are channels of the machine

abbrev IsWithin : ℕ → Type 0
IsWithin c = (1 ≤ c) × (c < CHANNEL_PLACES)

pub in_range : (n a c : ℕ) → IsIn c (range_with_len a n) → (a ≤ c) × (c < a + n)
in_range zero a c within = absurd within
in_range (suc n) a c (inl same) = (omega arith, omega arith)
in_range (suc n) a c (inr more) = let rest = in_range n (a + 1) c more in (omega (arith, rest.0), omega (arith, rest.1))

axes_not_marks : (s : State) → waits_for_axes s ≡ true → at_marks s ≡ false
axes_not_marks (IsHolding (AtAxes from_standing axes) line) on = refl
axes_not_marks other on = no_truth false on refl

pub in_mapped : {A C : Type 0} (f : A → C) (y : C) (xs : List A) → IsIn y (map f xs) → (x : A) × (IsIn x xs × (y ≡ f x))
in_mapped f y [] within = absurd within
in_mapped f y (x ∷ xs) (inl e) = (x, (inl refl, e))
in_mapped f y (x ∷ xs) (inr more) = let w = in_mapped f y xs more in (w.0, (inr w.1.0, w.1.1))

marks_within : (b : Board) (starts : List ℕ) → EachMarks IsWithin (goings_on b starts)
marks_within b starts g within on = elim ((in_append g started (at_once ++ takers)).0 within) [
  | inl first ↦
      let w = in_mapped (going_of_start b) g starts first in
      no_truth (at_marks g.from) on (ap (λ (k : Going). at_marks k.from) w.1.1)
  | inr rest ↦ elim ((in_append g at_once takers).0 rest) [
    | inl goer ↦
        let w = in_mapped (going_at_once b) g (goers_at_once b) goer in
        let there = in_filter (λ c. goes_at_once b (b.state c)) channel_numbers w.0 w.1.0 in
        subst IsWithin (sym (ap (λ (k : Going). k.channel) w.1.1)) (in_range CHANNEL_LIMIT 1 w.0 there.0)
    | inr taker ↦ no_truth (at_marks g.from) on (axes_not_marks g.from (takings_take CHANNEL_LIMIT (after_goes b) g taker).waits)
  ]
]
  where
    started : List Going
    started = map (going_of_start b) starts

    at_once : List Going
    at_once = map (going_at_once b) (goers_at_once b)

    takers : List Going
    takers = (all_takings (after_goes b)).goings

-- ---- the lowest channel of an event

first_within : (p : ℕ → Bool) (n a k : ℕ) → first_of (filter p (range_with_len a n)) ≡ Some k → (a ≤ k) × (k < a + n)
first_within p zero a k is = absurd cc
first_within p (suc n) a k is = by_test (p a) is (first_within p n (a + 1) k)
  where
    by_test : (t : Bool) → first_of (cond t (a ∷ filter p (range_with_len (a + 1) n)) (filter p (range_with_len (a + 1) n))) ≡ Some k
        → (first_of (filter p (range_with_len (a + 1) n)) ≡ Some k → ((a + 1) ≤ k) × (k < (a + 1) + n)) → (a ≤ k) × (k < a + suc n)
    by_test true e rest = let same : a ≡ k = cc in (omega arith, omega arith)
    by_test false e rest = let w = rest e in (omega (arith, w.0), omega (arith, w.1))

first_least : (p : ℕ → Bool) (n a k d : ℕ) → first_of (filter p (range_with_len a n)) ≡ Some k → a ≤ d → d < a + n → p d ≡ true → k ≤ d
first_least p zero a k d is up below on = absurd (omega arith)
first_least p (suc n) a k d is up below on = by_test (p a) refl is (first_least p n (a + 1) k d)
  where
    by_test : (t : Bool) → p a ≡ t → first_of (cond t (a ∷ filter p (range_with_len (a + 1) n)) (filter p (range_with_len (a + 1) n))) ≡ Some k
        → (first_of (filter p (range_with_len (a + 1) n)) ≡ Some k → (a + 1) ≤ d → d < (a + 1) + n → p d ≡ true → k ≤ d) → k ≤ d
    by_test true here e rest = let same : a ≡ k = cc in omega arith
    by_test false here e rest = elim (cases_Bool (a == d)) [
      | inl same ↦ no_truth (p d) on (rw (eqb-true a d same) at here)
      | inr other ↦ rest e (later (a == d) other refl) (omega arith) on
    ]
      where
        later : (t : Bool) → t ≡ false → (a == d) ≡ t → (a + 1) ≤ d
        later t off is = next (λ e. no_truth (a == d) (eq-eqb a d e) (is ∙ off))
          where
            next : ((a ≡ d) → ⊥) → (a + 1) ≤ d
            next apart = omega arith

first_none : (p : ℕ → Bool) (n a d : ℕ) → first_of (filter p (range_with_len a n)) ≡ None → a ≤ d → d < a + n → p d ≡ false
first_none p zero a d none up below = absurd (omega arith)
first_none p (suc n) a d none up below = by_test (p a) refl none (first_none p n (a + 1) d)
  where
    by_test : (t : Bool) → p a ≡ t → first_of (cond t (a ∷ filter p (range_with_len (a + 1) n)) (filter p (range_with_len (a + 1) n))) ≡ None
        → (first_of (filter p (range_with_len (a + 1) n)) ≡ None → (a + 1) ≤ d → d < (a + 1) + n → p d ≡ false) → p d ≡ false
    by_test true here e rest = let bad : Some a ≡ None = e in absurd cc
    by_test false here e rest = elim (cases_Bool (a == d)) [
      | inl same ↦ rw (eqb-true a d same) at here
      | inr other ↦ rest e (next (λ e. no_truth (a == d) (eq-eqb a d e) other)) (omega arith)
    ]
      where
        next : ((a ≡ d) → ⊥) → (a + 1) ≤ d
        next apart = omega arith

-- a channel names its event: no channel that goes on as the same event is below it
pub record IsLowAmong (goings : List Going) (c k : ℕ) : Type 0 where
  pub there : among (channels_in goings) k ≡ true
  pub linked : AreLinked (pairs_of goings) k c
  pub least : (d : ℕ) → among (channels_in goings) d ≡ true → AreLinked (pairs_of goings) k d → k ≤ d

low_among : (goings : List Going) → EachMarks IsWithin goings → (c : ℕ) → among (channels_in goings) c ≡ true → IsLowAmong goings c (lowest_of_event goings c)
low_among goings marks c going = by_first (first_of (filter together channel_numbers)) refl
  where
    together : ℕ → Bool
    together d = among (channels_in goings) d && (labels (pairs_of goings) d == labels (pairs_of goings) c)

    linked_within : (k d : ℕ) (es : List ℕ) → IsChain (pairs_of goings) k es d → IsWithin k × IsWithin d
    linked_within k d es path = chain_hold IsWithin (pairs_of goings) (between_hold IsWithin goings goings marks marks) es k d path

    by_first : (o : Option ℕ) → first_of (filter (λ d. among (channels_in goings) d && (labels (pairs_of goings) d == labels (pairs_of goings) c)) channel_numbers) ≡ o → IsLowAmong goings c (unwrap_or o c)
    by_first (Some k) is =
        let passes = and_parts (among (channels_in goings) k) (labels (pairs_of goings) k == labels (pairs_of goings) c)
        (first_passes (λ d. among (channels_in goings) d && (labels (pairs_of goings) d == labels (pairs_of goings) c)) channel_numbers k is) in
        record {
          there = passes.0;
          linked = chained_from (pairs_of goings) k c (eqb-true (labels (pairs_of goings) k) (labels (pairs_of goings) c) passes.1);
          least = λ d on linked. elim linked [
            | inl same ↦ omega arith
            | inr chain ↦
                let d_in = (linked_within k d chain.0 chain.1).1 in
                let alike : labels (pairs_of goings) d ≡ labels (pairs_of goings) c = sym (chained_to (pairs_of goings) k d (inr chain)) ∙ eqb-true (labels (pairs_of goings) k) (labels (pairs_of goings) c) passes.1 in
                first_least (λ x. among (channels_in goings) x && (labels (pairs_of goings) x == labels (pairs_of goings) c)) CHANNEL_LIMIT 1 k d is d_in.0 (omega (arith, d_in.1))
                (and_from (among (channels_in goings) d) (labels (pairs_of goings) d == labels (pairs_of goings) c) on (eq-eqb (labels (pairs_of goings) d) (labels (pairs_of goings) c) alike))
          ];
        }
    by_first None is = record {
      there = going;
      linked = inl refl;
      least = λ d on linked. elim linked [
        | inl same ↦ omega arith
        | inr chain ↦
            let c_in = (linked_within c d chain.0 chain.1).0 in
            no_truth (among (channels_in goings) c && (labels (pairs_of goings) c == labels (pairs_of goings) c))
            (and_from (among (channels_in goings) c) (labels (pairs_of goings) c == labels (pairs_of goings) c) going (eq-eqb (labels (pairs_of goings) c) (labels (pairs_of goings) c) refl))
            (first_none (λ x. among (channels_in goings) x && (labels (pairs_of goings) x == labels (pairs_of goings) c)) CHANNEL_LIMIT 1 c is c_in.0 (omega (arith, c_in.1)))
      ];
    }

pub low_in_step : (b : Board) (c : ℕ) (step : Step) (d : ℕ) → among (channels_in (goings_in_step b c step)) d ≡ true → IsLowAmong (goings_in_step b c step) d (lowest_of_event (goings_in_step b c step) d)
low_in_step b c step d going = low_among (goings_in_step b c step) (marks_within (after_own_part b c step) (channels_started (alarm_of b c step.action) step.action)) d going

pub listed : (gs : List Going) (g : Going) → IsIn g gs → among (channels_in gs) g.channel ≡ true
listed [] g within = absurd within
listed (h ∷ gs) g (inl e) = rw (eq-eqb h.channel g.channel (ap (λ (k : Going). k.channel) (sym e))) refl
listed (h ∷ gs) g (inr later) = or_second (h.channel == g.channel) (among (channels_in gs) g.channel) (listed gs g later)
  where
    or_second : (p q : Bool) → q ≡ true → (p || q) ≡ true
    or_second true q on = refl
    or_second false q on = on

-- ---- the events of a run

-- an event has its lowest name, where steps are counted from this one on
abbrev NamedFrom : Board → List Move → ℕ → EventId → Type 0
NamedFrom b moves i e = (k : ℕ) × (e.step ≡ i + k) × IsLowestName b moves (record { step = k; channel = e.channel; go = e.go })

there_going : (b : Board) (moves : List Move) (f : EventId) → f.go ≡ true → IsEvent b moves f → among (channels_in (goings_at b moves f.step)) f.channel ≡ true
there_going b moves f goes event = subst (λ g. IsThere b moves f g) goes event

act_named : (b : Board) (m : Move) (ms : List Move) → IsLowestName b (m ∷ ms) (record { step = 0; channel = m.channel; go = false })
act_named b m ms = record { event = refl; lowest = λ f one. let same : m.channel ≡ f.channel = one.joined in omega arith }

going_named : (b : Board) (m : Move) (ms : List Move) (c : ℕ) → among (channels_in (goings_in_step b m.channel m.step)) c ≡ true
    → IsLowestName b (m ∷ ms) (record { step = 0; channel = lowest_of_event (goings_in_step b m.channel m.step) c; go = true })
going_named b m ms c going =
    let low = low_in_step b m.channel m.step c going in
    record {
      event = low.there;
      lowest = λ f one. low.least f.channel
          (subst (λ (i : ℕ). among (channels_in (goings_at b (m ∷ ms) i)) f.channel ≡ true) (sym one.step) (there_going b (m ∷ ms) f (sym one.go) one.second))
          one.joined;
    }

-- an event of the steps after the first
module _ (b : Board) (m : Move) (ms : List Move) where
  later_there : (k c : ℕ) (g go : Bool) → IsThere (after_step b m.channel m.step) ms (record { step = k; channel = c; go = g }) go → IsThere b (m ∷ ms) (record { step = suc k; channel = c; go = g }) go
  later_there k c g true there = there
  later_there k c g false there = there

  earlier_there : (k c : ℕ) (g go : Bool) → IsThere b (m ∷ ms) (record { step = suc k; channel = c; go = g }) go → IsThere (after_step b m.channel m.step) ms (record { step = k; channel = c; go = g }) go
  earlier_there k c g true there = there
  earlier_there k c g false there = there

  earlier_joined : (k : ℕ) (e f : EventId) (go : Bool) → e.step ≡ suc k → AreJoined b (m ∷ ms) e f go
      → AreJoined (after_step b m.channel m.step) ms (record { step = k; channel = e.channel; go = e.go }) (record { step = k; channel = f.channel; go = f.go }) go
  earlier_joined k e f true step joined = subst (λ (i : ℕ). AreLinked (pairs_of (goings_at b (m ∷ ms) i)) e.channel f.channel) step joined
  earlier_joined k e f false step joined = joined

  later_named : (k c : ℕ) (go : Bool) → IsLowestName (after_step b m.channel m.step) ms (record { step = k; channel = c; go = go }) → IsLowestName b (m ∷ ms) (record { step = suc k; channel = c; go = go })
  later_named k c go low = record {
    event = later_there k c go go low.event;
    lowest = λ f one. low.lowest (record { step = k; channel = f.channel; go = f.go }) (record {
      first = low.event;
      second = earlier_there k f.channel f.go f.go (there_at f one.step one.second);
      step = refl;
      go = one.go;
      joined = earlier_joined k (record { step = suc k; channel = c; go = go }) f go refl one.joined;
    });
  }
    where
      there_at : (f : EventId) → suc k ≡ f.step → IsEvent b (m ∷ ms) f → IsThere b (m ∷ ms) (record { step = suc k; channel = f.channel; go = f.go }) f.go
      there_at f step event = subst (λ (i : ℕ). IsThere b (m ∷ ms) (record { step = i; channel = f.channel; go = f.go }) f.go) (sym step) event

names_from : (ms : List Move) (b : Board) (i : ℕ) → All (λ o. NamedFrom b ms i o.name) (occurrences_from b i ms)
names_from [] b i = All-nil (λ o. NamedFrom b [] i o.name)
names_from (m ∷ ms) b i =
    All-append (λ o. NamedFrom b (m ∷ ms) i o.name) (occurrences_in i m.step (happening_of b m.channel m.step)) (occurrences_from (after_step b m.channel m.step) (suc i) ms)
    (All-cons (λ o. NamedFrom b (m ∷ ms) i o.name) (act_of i m.step (happening_of b m.channel m.step)) (map (going_on_of i goings) goings)
    (0, here, act_named b m ms)
    (All-map (λ o. NamedFrom b (m ∷ ms) i o.name) (going_on_of i goings) goings (each_going goings (λ g within. within))))
    (All-weaker (λ o. NamedFrom (after_step b m.channel m.step) ms (suc i) o.name) (λ o. NamedFrom b (m ∷ ms) i o.name)
    (λ o named. let past : o.name.step ≡ i + suc named.0 = omega (arith, named.1) in (suc named.0, past, later_named b m ms named.0 o.name.channel o.name.go named.2))
    (occurrences_from (after_step b m.channel m.step) (suc i) ms) (names_from ms (after_step b m.channel m.step) (suc i)))
  where
    goings : List Going
    goings = goings_in_step b m.channel m.step

    here : i ≡ i + 0
    here = omega arith

    each_going : (gs : List Going) → ((g : Going) → IsIn g gs → IsIn g (goings_in_step b m.channel m.step)) → All (λ g. NamedFrom b (m ∷ ms) i (going_on_of i (goings_in_step b m.channel m.step) g).name) gs
    each_going [] within = All-nil (λ g. NamedFrom b (m ∷ ms) i (going_on_of i (goings_in_step b m.channel m.step) g).name)
    each_going (g ∷ gs) within =
        All-cons (λ g. NamedFrom b (m ∷ ms) i (going_on_of i (goings_in_step b m.channel m.step) g).name) g gs
        (0, (let same : i ≡ i + 0 = omega arith in same), going_named b m ms g.channel (listed (goings_in_step b m.channel m.step) g (within g (inl refl))))
        (each_going gs (λ h there. within h (inr there)))

abbrev pub AreNamed : Board → List Move → List OccurrenceView → Type 0
AreNamed b moves os = All (λ o. IsLowestName b moves o.name) os

-- each event of a run has its lowest name
pub occurrences_named : (b : Board) (moves : List Move) → AreNamed b moves (occurrences_of b moves)
unfolding occurrences_of
occurrences_named b moves =
    All-weaker (λ o. NamedFrom b moves 0 o.name) (λ o. IsLowestName b moves o.name)
    (λ o named. let same : named.0 ≡ o.name.step = omega (arith, named.1) in
    subst (λ (k : ℕ). IsLowestName b moves (record { step = k; channel = o.name.channel; go = o.name.go })) same named.2)
    (occurrences_from b 0 moves) (names_from moves b 0)

-- ---- spans, tenures and stretches begin and end with them

record HasNames (b : Board) (moves : List Move) (begins : SpanStartView) (until : Option EventId) : Type 0 where
  first : IfSome begins.first (IsLowestName b moves)
  last : IfSome until (IsLowestName b moves)

spans_named : (b : Board) (moves : List Move) (items : List (List Item)) (begins : SpanStartView) (os : List OccurrenceView) → IfSome begins.first (IsLowestName b moves) → AreNamed b moves os
    → All (λ span. HasNames b moves span.begins span.last) (spans_from items begins os)
spans_named b moves items begins [] first named =
    All-cons (λ span. HasNames b moves span.begins span.last) (span_to_end begins) [] (record { first = first; last = tt }) (All-nil (λ span. HasNames b moves span.begins span.last))
spans_named b moves items begins (o ∷ os) first named =
    let here = All-head (λ o. IsLowestName b moves o.name) o os named in
    All-cons (λ span. HasNames b moves span.begins span.last) (span_until items begins o.name) (spans_from items (beginning_after begins o) os) (record { first = first; last = here })
    (spans_named b moves items (beginning_after begins o) os here (All-tail (λ o. IsLowestName b moves o.name) o os named))

tenures_named : (b : Board) (moves : List Move) (zone : ZoneLine) (counts : ℕ → ℕ) (t : TenureView) (os : List OccurrenceView) → HasNames b moves t.begins t.last → AreNamed b moves os
    → All (λ t. HasNames b moves t.begins t.last) (tenures_from zone counts t os)
tenures_named b moves zone counts t [] names named = All-cons (λ t. HasNames b moves t.begins t.last) t [] names (All-nil (λ t. HasNames b moves t.begins t.last))
tenures_named b moves zone counts t (o ∷ os) names named =
    by_test (changes_hands zone o)
    (tenures_named b moves zone (counted counts o.channel) (tenure_after zone counts o) os (record { first = here; last = tt }) rest)
    (tenures_named b moves zone (counted counts o.channel) t os names rest)
  where
    here : IsLowestName b moves o.name
    here = All-head (λ o. IsLowestName b moves o.name) o os named

    rest : AreNamed b moves os
    rest = All-tail (λ o. IsLowestName b moves o.name) o os named

    by_test : (c : Bool) → All (λ t. HasNames b moves t.begins t.last) (tenures_from zone (counted counts o.channel) (tenure_after zone counts o) os)
        → All (λ t. HasNames b moves t.begins t.last) (tenures_from zone (counted counts o.channel) t os)
        → All (λ t. HasNames b moves t.begins t.last) (cond c (tenure_until counts t o ∷ tenures_from zone (counted counts o.channel) (tenure_after zone counts o) os) (tenures_from zone (counted counts o.channel) t os))
    by_test true changed same =
        All-cons (λ t. HasNames b moves t.begins t.last) (tenure_until counts t o) (tenures_from zone (counted counts o.channel) (tenure_after zone counts o) os)
        (record { first = names.first; last = All-head (λ o. IsLowestName b moves o.name) o os named }) changed
    by_test false changed same = same

zone_named : (job : JobView) (b : Board) (moves : List Move) (items : List (List Item)) (zone : ZoneLine) → All (HasLowNames b moves) (stretches_of_zone job items (occurrences_of b moves) zone)
unfolding spans_of tenures_of
zone_named job b moves items zone =
    each_stretch job items (occurrences_of b moves) zone (HasLowNames b moves)
    (λ c. All-weaker (λ span. HasNames b moves span.begins span.last) (HoldsOf job zone (HasLowNames b moves) c)
    (λ span names. (record { first = names.first; last = names.last }, λ t free. record { first = names.first; last = free.last })) (spans_of job items (occurrences_of b moves) c)
    (spans_named b moves items (first_beginning job c) (filter (λ o. o.channel == c) (occurrences_of b moves)) tt
    (All-filter (λ o. o.channel == c) (λ o. IsLowestName b moves o.name) (occurrences_of b moves) (occurrences_named b moves))))
    (All-weaker (λ t. HasNames b moves t.begins t.last) (λ t. HasLowNames b moves (free_stretch job zone t))
    (λ t names. record { first = names.first; last = names.last }) (tenures_of job (occurrences_of b moves) zone)
    (tenures_named b moves zone (λ c. 0) (first_tenure job zone) (occurrences_of b moves) (record { first = tt; last = tt }) (occurrences_named b moves)))

pub ends_are_lowest_names : (job : JobView) (b : Board) (run : RunView) → EndsAreLowestNames job b run
ends_are_lowest_names job b run = each_time job b run (λ time. All (HasLowNames b (moves_in run.entries)) time.stretches) (λ zone. zone_named job b (moves_in run.entries) run.items zone)
