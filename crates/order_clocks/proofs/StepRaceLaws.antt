-- The races between two steps are those between their events.
use Rattle.order_clocks.specs.declared.events.TheConstants.{EVENT_PLACES}
use Rattle.axis_sets.specs.declared.limits.TheConstants.{CHANNEL_PLACES}
use Rattle.std.proofs.Common.{◌≡◌, ℕ, suc, ◌<◌, ◌↔◌, Bool, true, false, inl, inr, List, Option, Some, None, slice_index_or, refl, sym, ap, ◌∙◌, arith}
use Rattle.std.proofs.lemmas.Bool.{cases_lt, cases_eq, true≢false}
use Rattle.counter_rows.specs.Rows.{count_of}
use Rattle.counter_rows.specs.declared.table.StepClocks.{StepClocks}
use Rattle.order_clocks.specs.Courses.{Course, IsEventIn}
use Rattle.order_clocks.specs.Pairs.{left_by, IsRaceBetween, IsEventOf, IsActEvent, IsGoEvent, IsGoAt, IsActAt, AreEvents, IsKnownStep, IsLeastWith}
use Rattle.order_clocks.specs.Steps.{act_name, go_name}
use Rattle.order_clocks.specs.Tracks.{Tracks, IsRacyAt, IsStepRace, IsEarlierRace}
use Rattle.step_deeds.specs.declared.deed.StepEvents.{StepEvents}
use Rattle.order_clocks.specs.declared.events.Event.{Event}
use Rattle.order_clocks.specs.declared.pairs.RaceTiming.TheVariants.{Later}
use Rattle.order_clocks.proofs.ApartLaws.{apart_from, apart_to}
use Rattle.order_clocks.proofs.PairLaws.{least_none, least_both, least_same}
use Rattle.step_deeds.proofs.HoldLaws.{past_gone}
use Rattle.sync_types.specs.Boards.{among}
use Rattle.sync_types.specs.declared.runs.EventId.{EventId}
use Rattle.sync_types.specs.declared.runs.Race.{Race}
use Rattle.step_deeds.specs.Holds.{goes_in}

equal_tests : (b d : Bool) → b ≡ d → (b ≡ true) ↔ (d ≡ true)
equal_tests b d e = ((λ on. sym e ∙ on), (λ on. e ∙ on))

act_named : (run : Course) (tracks : Tracks) (i : ℕ) (deed : StepEvents) (rows : StepClocks) (e : Event) → IsKnownStep run tracks i deed rows → IsActEvent deed rows.act e → IsEventOf run tracks (act_name i deed.channel) e
act_named run tracks i deed rows e known act = record {
  event = known.is.actor;
  channel = act.channel;
  line = act.line ∙ sym known.tracked.act_line;
  row = λ x. ap (λ (r : List ℕ). count_of r x) act.row_is ∙ known.are.act x;
  left = λ t. equal_tests (left_by e t) (tracks.leaves (act_name i deed.channel) t) (act.left t ∙ sym (known.tracked.act_leaves t));
  minded = λ t. ((λ on. (known.tracked.act_minds t).1 ((act.minded t).0 on)), (λ on. (act.minded t).1 ((known.tracked.act_minds t).0 on)));
}

go_named : (run : Course) (tracks : Tracks) (i c : ℕ) (deed : StepEvents) (rows : StepClocks) (e : Event) → IsKnownStep run tracks i deed rows → IsGoEvent deed.goes rows.goes c e → IsEventOf run tracks (go_name i c) e
go_named run tracks i c deed rows e known go =
    let here : goes_in deed c ≡ true = go.goes_there in
    record {
      event = known.is.goers c ∙ here;
      channel = go.channel;
      line = go.line ∙ sym (known.tracked.go_line c here);
      row = λ x. ap (λ (r : List ℕ). count_of r x) go.row_is ∙ known.are.goes c x (known.is.goers c ∙ here);
      left = λ t. equal_tests (left_by e t) (tracks.leaves (go_name i c) t) (go.left t ∙ sym (known.tracked.go_leaves c t here));
      minded = λ t. ((λ on. (known.tracked.go_minds c t here).1 ((go.minded t).0 on)), (λ on. (go.minded t).1 ((known.tracked.go_minds c t here).0 on)));
    }

-- a name for each event of the list
pub record HasName (run : Course) (tracks : Tracks) (i : ℕ) (e : Event) : Type 0 where
  pub name : EventId
  pub step : name.step ≡ i
  pub is : IsEventOf run tracks name e

pub event_named : (run : Course) (tracks : Tracks) (i k : ℕ) (deed : StepEvents) (rows : StepClocks) (events : List (Option Event)) (e : Event) → IsKnownStep run tracks i deed rows → AreEvents deed rows events
    → k < EVENT_PLACES → slice_index_or events k None ≡ Some e → HasName run tracks i e
event_named run tracks i k deed rows events e known are below there = elim (cases_eq k 0) [
  | inl first ↦
      let bad : None ≡ Some e = sym are.none ∙ (ap (λ (n : ℕ). slice_index_or events n None) (sym first) ∙ there) in
      absurd (cc)
  | inr later ↦ elim (cases_lt k CHANNEL_PLACES) [
    | inl low ↦
        let at : IsGoEvent deed.goes rows.goes k e = rw there at (are.go k (omega arith) low) in
        record { name = go_name i k; step = refl; is = go_named run tracks i k deed rows e known at }
    | inr high ↦
        let last : k ≡ CHANNEL_PLACES = omega arith in
        let here : slice_index_or events CHANNEL_PLACES None ≡ Some e = rw last at there in
        let at : IsActEvent deed rows.act e = rw here at are.act in
        record { name = act_name i deed.channel; step = refl; is = act_named run tracks i deed rows e known at }
  ]
]

-- an event of the list for each name
pub record HasPlace (run : Course) (tracks : Tracks) (events : List (Option Event)) (name : EventId) : Type 0 where
  pub place : ℕ
  pub within : place < EVENT_PLACES
  pub event : Event
  pub there : slice_index_or events place None ≡ Some event
  pub is : IsEventOf run tracks name event

act_found : (run : Course) (tracks : Tracks) (i : ℕ) (deed : StepEvents) (rows : StepClocks) (events : List (Option Event)) (found : Option Event) → slice_index_or events CHANNEL_PLACES None ≡ found
    → IsKnownStep run tracks i deed rows → IsActAt deed rows.act found → HasPlace run tracks events (act_name i deed.channel)
act_found run tracks i deed rows events (Some e) there known act = record { place = CHANNEL_PLACES; within = omega arith; event = e; there = there; is = act_named run tracks i deed rows e known act }
act_found run tracks i deed rows events None there known act = absurd act

go_found : (run : Course) (tracks : Tracks) (i c : ℕ) (deed : StepEvents) (rows : StepClocks) (events : List (Option Event)) (found : Option Event) → slice_index_or events c None ≡ found → c < CHANNEL_PLACES
    → IsKnownStep run tracks i deed rows → goes_in deed c ≡ true → IsGoAt deed.goes rows.goes c found → HasPlace run tracks events (go_name i c)
go_found run tracks i c deed rows events (Some e) there below known here go = record { place = c; within = omega arith; event = e; there = there; is = go_named run tracks i c deed rows e known go }
go_found run tracks i c deed rows events None there below known here go = absurd (true≢false (sym here ∙ go))

pub named_event : (run : Course) (tracks : Tracks) (deed : StepEvents) (rows : StepClocks) (events : List (Option Event)) (i j c : ℕ) (g : Bool) → IsKnownStep run tracks i deed rows → AreEvents deed rows events
    → j ≡ i → IsEventIn run (record { step = j; channel = c; go = g }) → HasPlace run tracks events (record { step = j; channel = c; go = g })
named_event run tracks deed rows events i j c true known are same event =
    let here : among (run.goers i) c ≡ true = rw same at event in
    let goes : goes_in deed c ≡ true = sym (known.is.goers c) ∙ here in
    let size = known.size in
    let below : c < CHANNEL_PLACES = elim (cases_lt c CHANNEL_PLACES) [ inl low ↦ low | inr high ↦ absurd (true≢false (sym goes ∙ past_gone deed.goes c (omega arith))) ] in
    let above : 0 < c = elim (cases_eq c 0) [ inl none ↦ absurd (true≢false (sym goes ∙ (ap (λ (n : ℕ). goes_in deed n) none ∙ known.from_one))) | inr some ↦ omega arith ] in
    rw same (go_found run tracks i c deed rows events (slice_index_or events c None) refl below known goes (are.go c above below))
named_event run tracks deed rows events i j c false known are same event =
    let here : c ≡ deed.channel = sym event ∙ (ap (λ (k : ℕ). run.actor k) same ∙ known.is.actor) in
    rw (same, here) (act_found run tracks i deed rows events (slice_index_or events CHANNEL_PLACES None) refl known are.act)

pub step_races : (run : Course) (tracks : Tracks) (j i : ℕ) (early late : StepEvents) (early_rows late_rows : StepClocks) (earlies lates : List (Option Event)) (race : Race)
    → IsKnownStep run tracks j early early_rows → IsKnownStep run tracks i late late_rows → AreEvents early early_rows earlies → AreEvents late late_rows lates → j < i
    → IsRaceBetween Later earlies lates EVENT_PLACES race ↔ IsStepRace run tracks j i race
step_races run tracks j i early late early_rows late_rows earlies lates race known_early known_late are_early are_late less = (to, back)
  where
    to : IsRaceBetween Later earlies lates EVENT_PLACES race → IsStepRace run tracks j i race
    to r =
        let b = event_named run tracks i r.place late late_rows lates r.late known_late are_late r.within r.there in
        let o = r.race_of in
        let a = event_named run tracks j o.place early early_rows earlies o.early known_early are_early o.within o.there in
        let sa = a.step in
        let sb = b.step in
        record {
          early = a.name;
          late = b.name;
          early_step = a.step;
          late_step = b.step;
          apart = apart_from run tracks a.name b.name o.early r.late race a.is b.is (omega arith) o.race_of;
        }

    back : IsStepRace run tracks j i race → IsRaceBetween Later earlies lates EVENT_PLACES race
    back r =
        let p = r.apart.apart in
        let a = named_event run tracks early early_rows earlies j r.early.step r.early.channel r.early.go known_early are_early r.early_step p.first in
        let b = named_event run tracks late late_rows lates i r.late.step r.late.channel r.late.go known_late are_late r.late_step p.second in
        record {
          place = b.place;
          within = b.within;
          late = b.event;
          there = b.there;
          race_of = record {
            place = a.place;
            within = a.within;
            early = a.event;
            there = a.there;
            race_of = apart_to run tracks r.early r.late a.event b.event race a.is b.is r.apart;
          };
        }

-- the races of a step with the steps before it
pub earlier_start : (run : Course) (tracks : Tracks) (i : ℕ) (old : Option Race) → IsLeastWith (IsEarlierRace run tracks 0 i) old old
earlier_start run tracks i old = least_none (IsEarlierRace run tracks 0 i) old (λ q r. let w = r.within in absurd (omega arith))

pub earlier_step : (run : Course) (tracks : Tracks) (j i : ℕ) (old mid new : Option Race) → IsLeastWith (IsEarlierRace run tracks j i) old mid → IsLeastWith (IsStepRace run tracks j i) mid new
    → IsLeastWith (IsEarlierRace run tracks (suc j) i) old new
earlier_step run tracks j i old mid new first second = least_both (IsEarlierRace run tracks j i) (IsStepRace run tracks j i) (IsEarlierRace run tracks (suc j) i) old mid new
    (λ q r. elim (cases_lt r.step j) [
      | inl less ↦ inl (record { step = r.step; within = less; race_of = r.race_of })
      | inr more ↦
          let w = r.within in
          let same : r.step ≡ j = omega arith in
          inr (rw same at r.race_of)
    ])
    (λ q s. elim s [
      | inl r ↦ let w = r.within in record { step = r.step; within = omega arith; race_of = r.race_of }
      | inr p ↦ record { step = j; within = omega arith; race_of = p }
    ])
    first second

pub racy_earlier : (run : Course) (tracks : Tracks) (i : ℕ) (race : Race) → IsEarlierRace run tracks i i race → IsRacyAt run tracks i
racy_earlier run tracks i race r =
    let s = r.race_of in
    record { early = s.early; late = s.late; trace = s.apart.trace; step = s.late_step; apart = s.apart.apart }

pub none_earlier : (run : Course) (tracks : Tracks) (i : ℕ) (old : Option Race) → (IsRacyAt run tracks i → ⊥) → IsLeastWith (IsEarlierRace run tracks i i) old old
none_earlier run tracks i old none = least_none (IsEarlierRace run tracks i i) old (λ q r. none (racy_earlier run tracks i q r))

-- one earlier step more, as its events give it
pub earlier_more : (run : Course) (tracks : Tracks) (j i : ℕ) (early late : StepEvents) (early_rows late_rows : StepClocks) (earlies lates : List (Option Event)) (old mid new : Option Race)
    → IsKnownStep run tracks j early early_rows → IsKnownStep run tracks i late late_rows → AreEvents early early_rows earlies → AreEvents late late_rows lates → j < i
    → IsLeastWith (IsEarlierRace run tracks j i) old mid → IsLeastWith (IsRaceBetween Later earlies lates EVENT_PLACES) mid new → IsLeastWith (IsEarlierRace run tracks (suc j) i) old new
earlier_more run tracks j i early late early_rows late_rows earlies lates old mid new known_early known_late are_early are_late less first second =
    earlier_step run tracks j i old mid new first
    (least_same (IsRaceBetween Later earlies lates EVENT_PLACES) (IsStepRace run tracks j i) mid new
    (λ q. step_races run tracks j i early late early_rows late_rows earlies lates q known_early known_late are_early are_late less) second)
