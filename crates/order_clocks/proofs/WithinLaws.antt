-- The races of one step: those with a wait that goes on, those of two that go on, and those with an earlier step.
use Rattle.order_clocks.specs.declared.events.TheConstants.{EVENT_PLACES}
use Rattle.axis_sets.specs.declared.limits.TheConstants.{CHANNEL_PLACES}
use Rattle.std.proofs.Common.{◌≡◌, ℕ, ◌<◌, ◌⊎◌, ◌↔◌, ◌==◌, Bool, true, false, inl, inr, List, Option, Some, None, length, slice_index_or, refl, sym, ap, ◌∙◌, arith}
use Rattle.std.proofs.lemmas.Bool.{cases_Bool, cases_lt, cases_eq, eqb-true, eq-eqb, and_parts, and_from, true≢false, false≢true}
use Rattle.std.proofs.lemmas.Option.{none-some}
use Rattle.std.proofs.Math.ListN.{get_or-eq_default}
use Rattle.axis_sets.specs.Sets.{has, members_of}
use Rattle.axis_sets.proofs.SetLaws.{list_any-members_of}
use Rattle.counter_rows.specs.declared.table.StepClocks.{StepClocks}
use Rattle.order_clocks.specs.Chains.{IsIn}
use Rattle.order_clocks.specs.CourseOf.{course_of}
use Rattle.order_clocks.specs.Happenings.{happening_at, going_of, line_in}
use Rattle.order_clocks.specs.LastPlaces.{leaves_of}
use Rattle.order_clocks.specs.Pairs.{AreEvents, AreUnlike, AreWaits, IsActEvent, IsGoAt, IsGoEvent, IsKnownStep, IsLeastWith, IsMet, IsRaceBetween, IsWaitAt, IsWaitEvent}
use Rattle.order_clocks.specs.RaceOrder.{letter_c, letter_d, letter_f}
use Rattle.order_clocks.specs.Races.{IsRace, line_at}
use Rattle.order_clocks.specs.TracedRaces.{IsTracedRace, Lowered, Took, Apart, StillWaits, Differ, StillAsks}
use Rattle.order_clocks.specs.Reading.{AreHolds, IsOnlyOne}
use Rattle.order_clocks.specs.Tracks.{IsEarlierRace, tracks_of}
use Rattle.order_clocks.specs.Watching.{IsGoing, IsGoingOf, IsRead, hold_shown, wait_in, wait_shown}
use Rattle.step_deeds.specs.declared.deed.StepEvents.{StepEvents}
use Rattle.step_deeds.specs.declared.deed.Wakeup.{Wakeup}
use Rattle.step_deeds.specs.declared.deed.Hold as code
use Rattle.step_deeds.specs.declared.deed.Hold.TheVariants.{Marks, Ends, Axes}
use Rattle.step_deeds.specs.declared.deed.WaitAt.{WaitAt}
use Rattle.order_clocks.specs.declared.events.Event.{Event}
use Rattle.step_deeds.specs.declared.named.NamedMarks.{NamedMarks}
use Rattle.order_clocks.specs.declared.pairs.RaceTiming.TheVariants.{Together, Waiting}
use Rattle.order_clocks.proofs.OrderLaws.{event_from, event_in, event_within, order_from, order_in}
use Rattle.order_clocks.proofs.PairLaws.{least_both, least_same}
use Rattle.order_clocks.proofs.RaceCases.{races_agree}
use Rattle.step_deeds.proofs.HoldLaws.{past_gone}
use Rattle.order_clocks.proofs.StepRaceLaws.{event_named, named_event}
use Rattle.order_clocks.proofs.TellLaws.{going_within}
use Rattle.order_clocks.proofs.TrackLaws.{going_is, held_line, line_by, state_line}
use Rattle.sync_types.specs.Boards.{Hold, AtMarks, AtEnds, AtAxes, State, IsHolding, Board, among}
use Rattle.sync_types.specs.GoingOn.{Going}
use Rattle.sync_types.specs.Turns.{Move}
use Rattle.sync_types.specs.declared.runs.Race.{Race}
use Rattle.step_deeds.specs.Holds.{asks_of_hold, departure_of, goes_in, is_given, line_of, marks_in, marks_of_hold, named_marks, waits_in}

-- states and waits
holding : (s : State) (hold : Hold) (line : ℕ) → wait_in s ≡ Some (hold, line) → s ≡ IsHolding hold line
holding (IsHolding h l) hold line e =
    let pair : (h, l) ≡ (hold, line) = cc in
    let one : h ≡ hold = ap (λ (p : Hold × ℕ). p.0) pair in
    let two : l ≡ line = ap (λ (p : Hold × ℕ). p.1) pair in
    rw (one, two) refl
holding other hold line e = absurd (none-some (hold, line) e)

same_race : (case a b c d x y z w : ℕ) → a ≡ x → b ≡ y → c ≡ z → d ≡ w
    → (let one : Race = record { case = case; first = (a, b); second = (c, d) } in one) ≡ record { case = case; first = (x, y); second = (z, w) }
same_race case a b c d x y z w one two three four = rw (one, two, three, four) refl

apart_back : (a b c d : ℕ) → (a == b) ≡ false → a ≡ c → b ≡ d → (d == c) ≡ false
apart_back a b c d off one two = elim (cases_Bool (d == c)) [
  | inl on ↦ absurd (true≢false (sym (eq-eqb a b (one ∙ (sym (eqb-true d c on) ∙ sym two))) ∙ off))
  | inr same ↦ same
]

-- a going and its event
record IsGoer (gs : List Going) (g : Going) (e : Event) : Type 0 where
  gone : Wakeup
  within : IsIn g gs
  channel : g.channel ≡ e.channel
  is : IsGoing gone g
  took : (x : ℕ) → has e.took x ≡ among g.took x
  line : e.line ≡ line_in g.from
  needs : e.needs ≡ marks_in gone.held

goer_of : (gs : List Going) (deed : StepEvents) (rows : StepClocks) (p : ℕ) (e : Event) (gone : Wakeup) (g : Going) → IsGoEvent deed.goes rows.goes p e → departure_of deed p ≡ Some gone → going_of gs p ≡ Some g → IsGoing gone g → g.channel ≡ p
    → IsGoer gs g e
goer_of gs deed rows p e gone g at dep found is same = record {
  gone = gone;
  within = (going_within gs p g found).0;
  channel = same ∙ sym at.channel;
  is = is;
  took = λ x. at.left (Took x) ∙ (ap (λ (d : Option Wakeup). leaves_of p d (Took x)) dep ∙ is.took x);
  line = at.line ∙ (ap line_of dep ∙ (held_line gone.held ∙ (ap line_by is.from ∙ sym (state_line g.from))));
  needs = at.needs ∙ ap named_marks dep;
}

-- each event is the act, or one that goes on
goer_there : (b : Board) (ms : List Move) (i p : ℕ) (deed : StepEvents) (rows : StepClocks) (events : List (Option Event)) (e : Event) → IsRead deed (happening_at b ms i) → AreEvents deed rows events
    → p < EVENT_PLACES → slice_index_or events p None ≡ Some e → IsActEvent deed rows.act e ⊎ ((g : Going) × IsGoer (happening_at b ms i).goings g e)
goer_there b ms i p deed rows events e read are below there = elim (cases_eq p 0) [
  | inl first ↦
      absurd (none-some e (sym are.none ∙ (ap (λ (n : ℕ). slice_index_or events n None) (sym first) ∙ there)))
  | inr later ↦ elim (cases_lt p CHANNEL_PLACES) [
    | inl low ↦
        let at : IsGoEvent deed.goes rows.goes p e = rw there at (are.go p (omega arith) low) in
        let w = going_is (happening_at b ms i).goings p (departure_of deed p) (going_of (happening_at b ms i).goings p) refl (read.goings p) at.goes_there in
        inr (w.1.0, goer_of (happening_at b ms i).goings deed rows p e w.0 w.1.0 at w.1.1.0 w.1.1.1.0 w.1.1.1.1.0 w.1.1.1.1.1)
    | inr high ↦
        let last : p ≡ CHANNEL_PLACES = omega arith in
        let here : slice_index_or events CHANNEL_PLACES None ≡ Some e = rw last at there in
        inl (rw here at are.act)
  ]
]

-- each that goes on has its event
record HasGoer (gs : List Going) (events : List (Option Event)) (g : Going) : Type 0 where
  place : ℕ
  within : place < EVENT_PLACES
  event : Event
  there : slice_index_or events place None ≡ Some event
  goer : IsGoer gs g event

goer_event : (b : Board) (ms : List Move) (i c : ℕ) (deed : StepEvents) (rows : StepClocks) (events : List (Option Event)) (g : Going) → IsRead deed (happening_at b ms i) → AreEvents deed rows events
    → goes_in deed 0 ≡ false → length deed.goes ≡ CHANNEL_PLACES → going_of (happening_at b ms i).goings c ≡ Some g → HasGoer (happening_at b ms i).goings events g
goer_event b ms i c deed rows events g read are none size found = by_departure (departure_of deed c) refl (rw found at (read.goings c))
  where
    by_departure : (d : Option Wakeup) → departure_of deed c ≡ d → IsGoingOf d (Some g) → HasGoer (happening_at b ms i).goings events g
    by_departure None dep is = absurd is
    by_departure (Some gone) dep is =
        let goes : goes_in deed c ≡ true = ap is_given dep in
        let below : c < CHANNEL_PLACES = elim (cases_lt c CHANNEL_PLACES) [ inl low ↦ low | inr high ↦ absurd (true≢false (sym goes ∙ past_gone deed.goes c (omega arith))) ] in
        let above : 0 < c = elim (cases_eq c 0) [ inl zero_it ↦ absurd (true≢false (sym goes ∙ (ap (λ (n : ℕ). goes_in deed n) zero_it ∙ none))) | inr some ↦ omega arith ] in
        by_event (slice_index_or events c None) refl (are.go c above below)
      where
        by_event : (o : Option Event) → slice_index_or events c None ≡ o → IsGoAt deed.goes rows.goes c o → HasGoer (happening_at b ms i).goings events g
        by_event (Some e) there at =
            let goes : goes_in deed c ≡ true = ap is_given dep in
            let below : c < CHANNEL_PLACES = elim (cases_lt c CHANNEL_PLACES) [ inl low ↦ low | inr high ↦ absurd (true≢false (sym goes ∙ past_gone deed.goes c (omega arith))) ] in
            record { place = c; within = omega arith; event = e; there = there; goer = goer_of (happening_at b ms i).goings deed rows c e gone g at dep found is (going_within (happening_at b ms i).goings c g found).1 }
        by_event None there at = absurd (true≢false (sym (ap is_given dep) ∙ at))

-- what equal waits have in common
some_inside : {A : Type 0} {x y : A} → Some x ≡ Some y → x ≡ y
some_inside {A} {x} {y} e = cc

wait_inside : (p q : Hold × ℕ) → Some p ≡ Some q → p.0 ≡ q.0
wait_inside p q e = ap (λ (w : Hold × ℕ). w.0) (some_inside e)

wait_line : (p q : Hold × ℕ) → Some p ≡ Some q → p.1 ≡ q.1
wait_line p q e = ap (λ (w : Hold × ℕ). w.1) (some_inside e)

same_marks : (k m : ℕ) (one two : List ℕ) → AtMarks k one ≡ AtMarks m two → (k ≡ m) × (one ≡ two)
same_marks k m one two e = (let number : k ≡ m = cc in number, let named : one ≡ two = cc in named)

same_axes : (s t : Bool) (one two : List ℕ) → AtAxes s one ≡ AtAxes t two → one ≡ two
same_axes s t one two e = cc

ends_apart : (one : List ℕ) (m : ℕ) (two : List ℕ) → AtEnds one ≡ AtMarks m two → ⊥
ends_apart one m two e = cc

axes_apart : (s : Bool) (one : List ℕ) (m : ℕ) (two : List ℕ) → AtAxes s one ≡ AtMarks m two → ⊥
axes_apart s one m two e = cc

ends_of_axes : (one : List ℕ) (s : Bool) (two : List ℕ) → AtEnds one ≡ AtAxes s two → ⊥
ends_of_axes one s two e = cc

-- the wait of a channel and its event
record HasWait (waits : List (Option Event)) (d : ℕ) (hold : Hold) (line : ℕ) : Type 0 where
  below : d < EVENT_PLACES
  held : WaitAt
  hold_is : hold_shown held.hold ≡ hold
  line_is : held.line ≡ line
  event : Event
  there : slice_index_or waits d None ≡ Some event
  is : IsWaitEvent held d event

wait_event : (b : Board) (ms : List Move) (i d line : ℕ) (hold : Hold) (holds : List (Option WaitAt)) (waits : List (Option Event)) → AreHolds b ms i holds → length holds ≡ CHANNEL_PLACES → AreWaits holds waits
    → (happening_at b ms i).after d ≡ IsHolding hold line → HasWait waits d hold line
wait_event b ms i d line hold holds waits are size waited after = by_hold (slice_index_or holds d None) refl
  where
    shown : wait_shown (slice_index_or holds d None) ≡ Some (hold, line)
    shown = are.hold d ∙ ap wait_in after

    by_hold : (o : Option WaitAt) → slice_index_or holds d None ≡ o → HasWait waits d hold line
    by_hold None there = absurd (none-some (hold, line) (ap wait_shown (sym there) ∙ shown))
    by_hold (Some held) there =
        let same : Some (hold_shown held.hold, held.line) ≡ Some (hold, line) = ap wait_shown (sym there) ∙ shown in
        let one = wait_inside (hold_shown held.hold, held.line) (hold, line) same in
        let two = wait_line (hold_shown held.hold, held.line) (hold, line) same in
        let below : d < CHANNEL_PLACES = elim (cases_lt d CHANNEL_PLACES) [ inl low ↦ low | inr high ↦ absurd (none-some held (sym (get_or-eq_default holds None (omega arith)) ∙ there)) ] in
        let above : 0 < d = elim (cases_eq d 0) [
          | inl zero_it ↦ absurd (none-some held (sym are.none ∙ (ap (λ (n : ℕ). slice_index_or holds n None) (sym zero_it) ∙ there)))
          | inr some ↦ omega arith
        ] in
        by_event held one two (slice_index_or waits d None) refl (rw there at (waited.wait d above below)) below
      where
        by_event : (held : WaitAt) → hold_shown held.hold ≡ hold → held.line ≡ line → (o : Option Event) → slice_index_or waits d None ≡ o → IsWaitAt (Some held) d o → d < CHANNEL_PLACES → HasWait waits d hold line
        by_event held one two None there at below = absurd at
        by_event held one two (Some e) there at below = record { below = omega arith; held = held; hold_is = one; line_is = two; event = e; there = there; is = at }

-- marks by their waits
marks_from : (held : Option WaitAt) (n : ℕ) (named : List Bool) → marks_in held ≡ Some (record { number = n; named = named }) → (line : ℕ) × (wait_shown held ≡ Some (AtMarks n (members_of named), line))
marks_from (Some held) n named e = by_hold held.hold held.line e
  where
    by_hold : (h : code.Hold) (line : ℕ) → marks_in (Some (record { hold = h; line = line })) ≡ Some (record { number = n; named = named }) → (at : ℕ) × (wait_shown (Some (record { hold = h; line = line })) ≡ Some (AtMarks n (members_of named), at))
    by_hold (Marks k others) line same =
        let inside : (let one : NamedMarks = record { number = k; named = others } in one) ≡ record { number = n; named = named } = cc in
        let number : k ≡ n = ap (λ (w : NamedMarks). w.number) inside in
        let set : others ≡ named = ap (λ (w : NamedMarks). w.named) inside in
        (line, rw (number, set) refl)
    by_hold (Ends others) line same = absurd (none-some (let one : NamedMarks = record { number = n; named = named } in one) (same))
    by_hold (Axes others) line same = absurd (none-some (let one : NamedMarks = record { number = n; named = named } in one) (same))
marks_from None n named e = absurd (none-some (let one : NamedMarks = record { number = n; named = named } in one) (e))

marks_to : (held : Option WaitAt) (m line : ℕ) (named : List ℕ) → wait_shown held ≡ Some (AtMarks m named, line) → (set : List Bool) × ((marks_in held ≡ Some (record { number = m; named = set })) × (members_of set ≡ named))
marks_to (Some held) m line named e = by_hold held.hold held.line e
  where
    by_hold : (h : code.Hold) (l : ℕ) → wait_shown (Some (record { hold = h; line = l })) ≡ Some (AtMarks m named, line)
        → (set : List Bool) × ((marks_in (Some (record { hold = h; line = l })) ≡ Some (record { number = m; named = set })) × (members_of set ≡ named))
    by_hold (Marks k others) l same =
        let inside = same_marks k m (members_of others) named (wait_inside (AtMarks k (members_of others), l) (AtMarks m named, line) same) in
        (others, (rw inside.0 refl, inside.1))
    by_hold (Ends others) l same = absurd (ends_apart (members_of others) m named (wait_inside (AtEnds (members_of others), l) (AtMarks m named, line) same))
    by_hold (Axes others) l same = absurd (axes_apart false (members_of others) m named (wait_inside (AtAxes false (members_of others), l) (AtMarks m named, line) same))
marks_to None m line named e = absurd (none-some (AtMarks m named, line) (e))

-- all that is known of a step
pub record IsTold (b : Board) (ms : List Move) (i : ℕ) (deed : StepEvents) (rows : StepClocks) (events waits : List (Option Event)) (holds : List (Option WaitAt)) : Type 0 where
  pub inside : i < length ms
  pub read : IsRead deed (happening_at b ms i)
  pub alone : (g : Going) → IsIn g (happening_at b ms i).goings → IsOnlyOne (happening_at b ms i).goings g
  pub known : IsKnownStep (course_of b ms) (tracks_of b ms) i deed rows
  pub are : AreEvents deed rows events
  pub held : AreHolds b ms i holds
  pub size : length holds ≡ CHANNEL_PLACES
  pub waited : AreWaits holds waits

-- c and f
waiting_is : (b : Board) (ms : List Move) (i : ℕ) (deed : StepEvents) (rows : StepClocks) (events waits : List (Option Event)) (holds : List (Option WaitAt)) (race : Race) → IsTold b ms i deed rows events waits holds
    → IsRaceBetween Waiting events waits EVENT_PLACES race → IsTracedRace b ms i race
waiting_is b ms i deed rows events waits holds race told r = elim (cases_eq r.place 0) [
  | inl first ↦
      absurd (none-some r.late (sym told.waited.first ∙ (ap (λ (n : ℕ). slice_index_or waits n None) (sym first) ∙ r.there)))
  | inr later ↦ elim (cases_lt r.place CHANNEL_PLACES) [
    | inl low ↦ by_hold (slice_index_or holds r.place None) refl (rw r.there at (told.waited.wait r.place (omega arith) low))
    | inr high ↦
        let within = r.within in
        let last : r.place ≡ CHANNEL_PLACES = omega arith in
        absurd (none-some r.late (sym told.waited.last ∙ (ap (λ (n : ℕ). slice_index_or waits n None) (sym last) ∙ r.there)))
  ]
]
  where
    lowered : (hold : code.Hold) (c m line : ℕ) → (happening_at b ms i).after r.place ≡ IsHolding (hold_shown hold) line → r.late.line ≡ line → r.late.channel ≡ r.place → r.late.waits ≡ marks_of_hold hold
        → IsMet r.race_of.early r.late (Lowered c m) → (r.race_of.early.channel == r.late.channel) ≡ false
        → race ≡ record { case = letter_c; first = (r.race_of.early.channel, r.race_of.early.line); second = (r.late.channel, r.late.line) } → IsTracedRace b ms i race
    lowered (Marks n named) c m line after at channel waits_are met other is =
        let a = event_named (course_of b ms) (tracks_of b ms) i r.race_of.place deed rows events r.race_of.early told.known told.are r.race_of.within r.race_of.there in
        let left = and_parts (has r.race_of.early.lowers m) (c == r.race_of.early.channel) met.left in
        let minded = and_parts (n == m) (has named c) (ap (λ (w : Option NamedMarks). waits_in w m c) (sym waits_are) ∙ met.minded) in
        let number : n ≡ m = eqb-true n m minded.0 in
        let named_it : c ≡ a.name.channel = eqb-true c r.race_of.early.channel left.1 ∙ a.is.channel in
        let step = a.step in
        StillWaits a.name r.place m line (members_of named) a.step (event_from b ms a.name (rw (sym step) at told.inside) a.is.event)
        ((a.is.left (Lowered a.name.channel m)).0 (and_from (has r.race_of.early.lowers m) (a.name.channel == r.race_of.early.channel) left.0 (eq-eqb a.name.channel r.race_of.early.channel (sym a.is.channel))))
        (apart_back r.race_of.early.channel r.late.channel a.name.channel r.place other a.is.channel channel)
        (after ∙ ap (λ (k : ℕ). IsHolding (AtMarks k (members_of named)) line) number)
        (list_any-members_of named a.name.channel ∙ rw (sym named_it) minded.1)
        (is ∙ same_race letter_c r.race_of.early.channel r.race_of.early.line r.late.channel r.late.line a.name.channel (line_at b ms a.name) r.place line a.is.channel a.is.line channel at)
    lowered (Ends named) c m line after at channel waits_are met other is = absurd (false≢true (ap (λ (w : Option NamedMarks). waits_in w m c) (sym waits_are) ∙ met.minded))
    lowered (Axes axes) c m line after at channel waits_are met other is = absurd (false≢true (ap (λ (w : Option NamedMarks). waits_in w m c) (sym waits_are) ∙ met.minded))

    taken : (hold : code.Hold) (x line : ℕ) → (happening_at b ms i).after r.place ≡ IsHolding (hold_shown hold) line → r.late.line ≡ line → r.late.channel ≡ r.place → ((y : ℕ) → has r.late.asks y ≡ asks_of_hold hold y)
        → IsMet r.race_of.early r.late (Took x) → (r.race_of.early.channel == r.late.channel) ≡ false
        → race ≡ record { case = letter_f; first = (r.race_of.early.channel, r.race_of.early.line); second = (r.late.channel, r.late.line) } → IsTracedRace b ms i race
    taken (Axes axes) x line after at channel asks met other is = elim (goer_there b ms i r.race_of.place deed rows events r.race_of.early told.read told.are r.race_of.within r.race_of.there) [
      | inl act ↦ absurd (false≢true (sym (act.left (Took x)) ∙ met.left))
      | inr w ↦
          let goer = w.1 in
          StillAsks w.0 r.place x line false (members_of axes) goer.within (sym (goer.took x) ∙ met.left)
          (apart_back r.race_of.early.channel r.late.channel w.0.channel r.place other (sym goer.channel) channel)
          after (list_any-members_of axes x ∙ (sym (asks x) ∙ met.minded))
          (is ∙ same_race letter_f r.race_of.early.channel r.race_of.early.line r.late.channel r.late.line w.0.channel (line_in w.0.from) r.place line (sym goer.channel) goer.line channel at)
    ]
    taken (Marks n named) x line after at channel asks met other is = absurd (false≢true (sym (asks x) ∙ met.minded))
    taken (Ends named) x line after at channel asks met other is = absurd (false≢true (sym (asks x) ∙ met.minded))

    by_hold : (o : Option WaitAt) → slice_index_or holds r.place None ≡ o → IsWaitAt o r.place (Some r.late) → IsTracedRace b ms i race
    by_hold None there at = absurd at
    by_hold (Some held) there at =
        let after : (happening_at b ms i).after r.place ≡ IsHolding (hold_shown held.hold) held.line =
        holding ((happening_at b ms i).after r.place) (hold_shown held.hold) held.line (sym (told.held.hold r.place) ∙ ap wait_shown there) in
        let pair = r.race_of.race_of in
        elim pair.met [
          | inl c ↦ lowered held.hold c.0.0 c.0.1 held.line after at.line at.channel at.waits c.0.2 pair.other c.1
          | inr f ↦ taken held.hold f.0.0 held.line after at.line at.channel at.asks f.0.1 pair.other f.1
        ]

-- d
together_is : (b : Board) (ms : List Move) (i : ℕ) (deed : StepEvents) (rows : StepClocks) (events waits : List (Option Event)) (holds : List (Option WaitAt)) (race : Race) → IsTold b ms i deed rows events waits holds
    → IsRaceBetween Together events events EVENT_PLACES race → IsTracedRace b ms i race
together_is b ms i deed rows events waits holds race told r = by_needs r.race_of.early.needs r.late.needs refl refl r.race_of.race_of.unlike
  where
    of_goer : (p : ℕ) (e : Event) (w : NamedMarks) → p < EVENT_PLACES → slice_index_or events p None ≡ Some e → e.needs ≡ Some w → (g : Going) × IsGoer (happening_at b ms i).goings g e
    of_goer p e w below there needs = elim (goer_there b ms i p deed rows events e told.read told.are below there) [
      | inl act ↦ absurd (none-some w (sym act.needs ∙ needs))
      | inr found ↦ found
    ]

    from_is : (g : Going) (e : Event) (n : ℕ) (named : List Bool) → IsGoer (happening_at b ms i).goings g e → e.needs ≡ Some (record { number = n; named = named }) → (line : ℕ) × ((g.from ≡ IsHolding (AtMarks n (members_of named)) line) × (e.line ≡ line))
    from_is g e n named goer needs =
        let w = marks_from goer.gone.held n named (sym goer.needs ∙ needs) in
        let state = holding g.from (AtMarks n (members_of named)) w.0 (sym goer.is.from ∙ w.1) in
        (w.0, (state, goer.line ∙ ap line_in state))

    by_needs : (one two : Option NamedMarks) → r.race_of.early.needs ≡ one → r.late.needs ≡ two → AreUnlike one two r.race_of.early.channel r.late.channel → IsTracedRace b ms i race
    by_needs None two first second unlike = absurd unlike
    by_needs (Some one) None first second unlike = absurd unlike
    by_needs (Some one) (Some two) first second unlike =
        let g = of_goer r.race_of.place r.race_of.early one r.race_of.within r.race_of.there first in
        let h = of_goer r.place r.late two r.within r.there second in
        let at = from_is g.0 r.race_of.early one.number one.named g.1 first in
        let on = from_is h.0 r.late two.number two.named h.1 second in
        let number : two.number ≡ one.number = sym unlike.0 in
        Differ g.0 h.0 one.number at.0 on.0 unlike.1.1.0 (members_of one.named) (members_of two.named) g.1.within h.1.within at.1.0
        (on.1.0 ∙ ap (λ (k : ℕ). IsHolding (AtMarks k (members_of two.named)) on.0) number)
        (list_any-members_of one.named h.0.channel ∙ rw h.1.channel unlike.1.0)
        (λ same. unlike.1.1.1 (rw (g.1.channel, h.1.channel, list_any-members_of one.named unlike.1.1.0, list_any-members_of two.named unlike.1.1.0) at same))
        (r.race_of.race_of.is ∙ same_race letter_d r.late.channel r.late.line r.race_of.early.channel r.race_of.early.line h.0.channel on.0 g.0.channel at.0 (sym h.1.channel) on.1.1 (sym g.1.channel) at.1.1)

-- a, b, e and g
earlier_is : (b : Board) (ms : List Move) (i : ℕ) (race : Race) → i < length ms → IsEarlierRace (course_of b ms) (tracks_of b ms) i i race → IsTracedRace b ms i race
earlier_is b ms i race inside r =
    let s = r.race_of in
    let a = s.apart.apart in
    let late = s.late_step in
    let early = a.step in
    Apart s.early s.late s.apart.trace s.late_step (record {
      first = event_from b ms s.early (omega arith) a.first;
      second = event_from b ms s.late (omega arith) a.second;
      step = a.step;
      channels = a.channels;
      left = a.left;
      minded = a.minded;
      unordered = λ path. a.unordered (order_in b ms s.early s.late path);
    }) s.apart.is

-- each race of the step is one of them
race_is : (b : Board) (ms : List Move) (i : ℕ) (deed : StepEvents) (rows : StepClocks) (events waits : List (Option Event)) (holds : List (Option WaitAt)) (race : Race) → IsTold b ms i deed rows events waits holds
    → IsTracedRace b ms i race → (IsRaceBetween Waiting events waits EVENT_PLACES race ⊎ IsRaceBetween Together events events EVENT_PLACES race) ⊎ IsEarlierRace (course_of b ms) (tracks_of b ms) i i race
race_is b ms i deed rows events waits holds race told (Apart early late trace step apart is) =
    let before = apart.step in
    inr (record {
      step = early.step;
      within = omega arith;
      race_of = record {
        early = early;
        late = late;
        early_step = refl;
        late_step = step;
        apart = record {
          trace = trace;
          apart = record {
            first = event_in b ms early apart.first;
            second = event_in b ms late apart.second;
            step = apart.step;
            channels = apart.channels;
            left = apart.left;
            minded = apart.minded;
            unordered = λ path. apart.unordered (order_from b ms early late (event_within b ms late apart.second) path);
          };
          is = is;
        };
      };
    })
race_is b ms i deed rows events waits holds race told (StillWaits lowering d m line named step event left other after names is) =
    let e = named_event (course_of b ms) (tracks_of b ms) deed rows events i lowering.step lowering.channel lowering.go told.known told.are step (event_in b ms lowering event) in
    let w = wait_event b ms i d line (AtMarks m named) holds waits told.held told.size told.waited after in
    let set = marks_to (Some w.held) m line named (rw (w.hold_is, w.line_is) refl) in
    let waits_are : w.event.waits ≡ Some (record { number = m; named = set.0 }) = w.is.waits ∙ (marks_same w.held ∙ set.1.0) in
    inl (inl (record {
      place = d;
      within = w.below;
      late = w.event;
      there = w.there;
      race_of = record {
        place = e.place;
        within = e.within;
        early = e.event;
        there = e.there;
        race_of = record {
          other = apart_back d lowering.channel w.event.channel e.event.channel other (sym w.is.channel) (sym e.is.channel);
          met = inl (
            (
              lowering.channel,
              m,
              record {
                left = (e.is.left (Lowered lowering.channel m)).1 left;
                minded = rw waits_are (and_from (m == m) (has set.0 lowering.channel) (eq-eqb m m refl) (sym (list_any-members_of set.0 lowering.channel) ∙ (ap (λ (ns : List ℕ). among ns lowering.channel) set.1.1 ∙ names)));
              },
            ),
            is ∙ same_race letter_c lowering.channel (line_at b ms lowering) d line e.event.channel e.event.line w.event.channel w.event.line (sym e.is.channel) (sym e.is.line) (sym w.is.channel) (sym (w.is.line ∙ w.line_is)),
          );
        };
      };
    }))
  where
    marks_same : (held : WaitAt) → marks_of_hold held.hold ≡ marks_in (Some held)
    marks_same held = by_hold held.hold held.line
      where
        by_hold : (h : code.Hold) (l : ℕ) → marks_of_hold h ≡ marks_in (Some (record { hold = h; line = l }))
        by_hold (Marks n named) l = refl
        by_hold (Ends named) l = refl
        by_hold (Axes axes) l = refl
race_is b ms i deed rows events waits holds race told (Differ g h m line other_line x named other_named in_g in_h from_g from_h names differ is) =
    let og = told.alone g in_g in
    let oh = told.alone h in_h in
    let eg = goer_event b ms i g.channel deed rows events og.other told.read told.are told.known.from_one told.known.size og.found in
    let eh = goer_event b ms i h.channel deed rows events oh.other told.read told.are told.known.from_one told.known.size oh.found in
    let cg : eg.event.channel ≡ g.channel = sym eg.goer.channel ∙ (going_within (happening_at b ms i).goings g.channel og.other og.found).1 in
    let ch : eh.event.channel ≡ h.channel = sym eh.goer.channel ∙ (going_within (happening_at b ms i).goings h.channel oh.other oh.found).1 in
    let sg = marks_to eg.goer.gone.held m line named (eg.goer.is.from ∙ (og.from ∙ ap wait_in from_g)) in
    let sh = marks_to eh.goer.gone.held m other_line other_named (eh.goer.is.from ∙ (oh.from ∙ ap wait_in from_h)) in
    let lg : eg.event.line ≡ line = eg.goer.line ∙ (state_line og.other.from ∙ (ap line_by (og.from ∙ ap wait_in from_g) ∙ sym (state_line (IsHolding (AtMarks m named) line)))) in
    let lh : eh.event.line ≡ other_line = eh.goer.line ∙ (state_line oh.other.from ∙ (ap line_by (oh.from ∙ ap wait_in from_h) ∙ sym (state_line (IsHolding (AtMarks m other_named) other_line)))) in
    inl (inr (record {
      place = eh.place;
      within = eh.within;
      late = eh.event;
      there = eh.there;
      race_of = record {
        place = eg.place;
        within = eg.within;
        early = eg.event;
        there = eg.there;
        race_of = record {
          unlike = rw (eg.goer.needs ∙ sg.1.0, eh.goer.needs ∙ sh.1.0, cg, ch) (
            refl,
            (
              sym (list_any-members_of sg.0 h.channel) ∙ (ap (λ (ns : List ℕ). among ns h.channel) sg.1.1 ∙ names),
              (
                x,
                λ same. differ (rw (
                  sym (list_any-members_of sg.0 x) ∙ ap (λ (ns : List ℕ). among ns x) sg.1.1,
                  sym (list_any-members_of sh.0 x) ∙ ap (λ (ns : List ℕ). among ns x) sh.1.1,
                ) at same),
              ),
            ),
          );
          is = is ∙ same_race letter_d h.channel other_line g.channel line eh.event.channel eh.event.line eg.event.channel eg.event.line (sym ch) (sym lh) (sym cg) (sym lg);
        };
      };
    }))
race_is b ms i deed rows events waits holds race told (StillAsks g d x line from_standing axes in_g took other after asked is) =
    let og = told.alone g in_g in
    let eg = goer_event b ms i g.channel deed rows events og.other told.read told.are told.known.from_one told.known.size og.found in
    let cg : eg.event.channel ≡ g.channel = sym eg.goer.channel ∙ (going_within (happening_at b ms i).goings g.channel og.other og.found).1 in
    let lg : eg.event.line ≡ line_in g.from = eg.goer.line ∙ (state_line og.other.from ∙ (ap line_by og.from ∙ sym (state_line g.from))) in
    let w = wait_event b ms i d line (AtAxes from_standing axes) holds waits told.held told.size told.waited after in
    inl (inl (record {
      place = d;
      within = w.below;
      late = w.event;
      there = w.there;
      race_of = record {
        place = eg.place;
        within = eg.within;
        early = eg.event;
        there = eg.there;
        race_of = record {
          other = apart_back d g.channel w.event.channel eg.event.channel other (sym w.is.channel) (sym cg);
          met = inr (
            (
              x,
              record {
                left = eg.goer.took x ∙ og.took x took;
                minded = w.is.asks x ∙ asks_from w.held.hold w.hold_is;
              },
            ),
            is ∙ same_race letter_f g.channel (line_in g.from) d line eg.event.channel eg.event.line w.event.channel w.event.line (sym cg) (sym lg) (sym w.is.channel) (sym (w.is.line ∙ w.line_is)),
          );
        };
      };
    }))
  where
    asks_from : (h : code.Hold) → hold_shown h ≡ AtAxes from_standing axes → asks_of_hold h x ≡ true
    asks_from (Axes set) e = let same = same_axes false from_standing (members_of set) axes e in sym (list_any-members_of set x) ∙ (ap (λ (ns : List ℕ). among ns x) same ∙ asked)
    asks_from (Marks n named) e = absurd (axes_apart from_standing axes n (members_of named) (sym e))
    asks_from (Ends named) e = absurd (ends_of_axes (members_of named) from_standing axes e)

-- the races of the step
pub step_is : (b : Board) (ms : List Move) (i : ℕ) (deed : StepEvents) (rows : StepClocks) (events waits : List (Option Event)) (holds : List (Option WaitAt)) → IsTold b ms i deed rows events waits holds → (race : Race)
    → ((IsRaceBetween Waiting events waits EVENT_PLACES race ⊎ IsRaceBetween Together events events EVENT_PLACES race) ⊎ IsEarlierRace (course_of b ms) (tracks_of b ms) i i race) ↔ IsRace b ms i race
step_is b ms i deed rows events waits holds told race = (
  (λ r. elim r [
    | inl one ↦ elim one [
      | inl waiting ↦ (races_agree b ms i race).1 (waiting_is b ms i deed rows events waits holds race told waiting)
      | inr together ↦ (races_agree b ms i race).1 (together_is b ms i deed rows events waits holds race told together)
    ]
    | inr earlier ↦ (races_agree b ms i race).1 (earlier_is b ms i race told.inside earlier)
  ]),
  (λ r. race_is b ms i deed rows events waits holds race told ((races_agree b ms i race).0 r)),
)

pub step_least : (b : Board) (ms : List Move) (i : ℕ) (deed : StepEvents) (rows : StepClocks) (events waits : List (Option Event)) (holds : List (Option WaitAt)) (mid new : Option Race) → IsTold b ms i deed rows events waits holds
    → IsLeastWith (λ race. IsRaceBetween Waiting events waits EVENT_PLACES race ⊎ IsRaceBetween Together events events EVENT_PLACES race) None mid → IsLeastWith (IsEarlierRace (course_of b ms) (tracks_of b ms) i i) mid new
    → IsLeastWith (IsRace b ms i) None new
step_least b ms i deed rows events waits holds mid new told first second =
    least_same (λ race. (IsRaceBetween Waiting events waits EVENT_PLACES race ⊎ IsRaceBetween Together events events EVENT_PLACES race) ⊎ IsEarlierRace (course_of b ms) (tracks_of b ms) i i race) (IsRace b ms i) None new
    (step_is b ms i deed rows events waits holds told)
    (least_both (λ race. IsRaceBetween Waiting events waits EVENT_PLACES race ⊎ IsRaceBetween Together events events EVENT_PLACES race) (IsEarlierRace (course_of b ms) (tracks_of b ms) i i)
    (λ race. (IsRaceBetween Waiting events waits EVENT_PLACES race ⊎ IsRaceBetween Together events events EVENT_PLACES race) ⊎ IsEarlierRace (course_of b ms) (tracks_of b ms) i i race) None mid new (λ q s. s) (λ q s. s) first second)
