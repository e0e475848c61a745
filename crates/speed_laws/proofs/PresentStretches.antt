-- Each zone is in a stretch of the run that speaks for all that is current.
use Rattle.std.proofs.Common.{◌≡◌, ◌⊎◌, ◌∙◌, ℕ, zero, suc, ◌+◌, ◌-◌, ◌<◌, ◌≤◌, Bool, true, false, ◌==◌, List, [], ◌∷◌, All, filter, map, take, drop, slice_get, Contains, Option, None, Some, IfSome, inl, inr, refl, sym, ap, subst, arith}
use Rattle.std.proofs.lemmas.List.Elements.{All-contains, All-head, All-tail}
use Rattle.channel_machine.specs.StartStates.{start_of}
use Rattle.job_types.specs.Job.{JobView}
use Rattle.job_types.specs.Zones.{zones_in_order}
use Rattle.job_types.specs.declared.job.ZoneLine.{ZoneLine}
use Rattle.number_laws.proofs.Lists.{SomeOf, SomeOf-flat_map, SomeOf-map, SomeOf-weaker}
use Rattle.schedule_laws.specs.Schedules.{IsQuietRun, IsRunOf, moves_by}
use Rattle.speed_laws.proofs.ComparedPairs.{IsCurrent}
use Rattle.speed_laws.proofs.PastEvents.{first_are_past, is_past, kept_holds, made_counts, others_are_not}
use Rattle.speed_laws.proofs.PresentSpans.{PresentSpan, present_span}
use Rattle.speed_laws.proofs.PresentTenures.{BeginsWithLast, BegunBy, EndedBy, IsPresent, holder_known, present_tenure}
use Rattle.speed_laws.proofs.RunBoards.{run_board_first}
use Rattle.speed_laws.proofs.StartZones.{zones_start}
use Rattle.speed_laws.specs.Cuts.{ZonesHavePresentStretches, is_made}
use Rattle.speed_laws.specs.Doings.{Doings}
use Rattle.speed_laws.specs.Histories.{items_by}
use Rattle.sync_types.specs.Boards.{among, channel_numbers, first_board}
use Rattle.sync_types.specs.Events.{IsLowestName}
use Rattle.sync_types.specs.Runs.{first_stage, stage_after}
use Rattle.sync_types.specs.declared.runs.EventId.{EventId}
use Rattle.zone_stretches.proofs.AscentLaws.{EndsItself, spans_end_with_tenures}
use Rattle.zone_stretches.proofs.NameLaws.{occurrences_named}
use Rattle.zone_stretches.specs.Occurrences.{OccurrenceView, occurrences_of}
use Rattle.zone_stretches.specs.SoundStretches.{IsZoneOf}
use Rattle.zone_stretches.specs.Spans.{Span, spans_of}
use Rattle.zone_stretches.specs.Stretches.{StretchView, free_stretch, spans_between, stretch_of_span, stretches_held_by, stretches_in_tenure, stretches_of_zone}
use Rattle.zone_stretches.specs.Tenures.{TenureView, first_tenure, tenures_of}

-- ---- a span of a tenure

some_at : (xs : List Span) (k : ℕ) (x : Span) → slice_get xs k ≡ Some x → SomeOf (λ y. y ≡ x) xs
some_at [] k x is = absurd cc
some_at (y ∷ xs) zero x is = let same : y ≡ x = cc in inl same
some_at (y ∷ xs) (suc k) x is = inr (some_at xs k x is)

at_dropped : (xs : List Span) (from k : ℕ) (x : Span) → slice_get xs (from + k) ≡ Some x → slice_get (drop from xs) k ≡ Some x
at_dropped xs zero k x is = let same : k ≡ 0 + k = omega arith in ap (slice_get xs) same ∙ is
at_dropped [] (suc from) k x is = let same : suc (from + k) ≡ suc from + k = omega arith in let bad : None ≡ Some x = ap (slice_get []) same ∙ is in absurd cc
at_dropped (y ∷ xs) (suc from) k x is = let same : suc (from + k) ≡ suc from + k = omega arith in at_dropped xs from k x (ap (slice_get (y ∷ xs)) same ∙ is)

at_taken : (xs : List Span) (n k : ℕ) (x : Span) → k < n → slice_get xs k ≡ Some x → slice_get (take n xs) k ≡ Some x
at_taken xs zero k x below is = absurd (omega (arith, below))
at_taken [] (suc n) k x below is = absurd cc
at_taken (y ∷ xs) (suc n) zero x below is = is
at_taken (y ∷ xs) (suc n) (suc k) x below is = at_taken xs n k x (omega (arith, below)) is

in_between : (spans : List Span) (from n : ℕ) (upto : Option ℕ) (span : Span) → slice_get spans n ≡ Some span → from ≤ n → IfSome upto (λ u. n ≤ u) → SomeOf (λ s. s ≡ span) (spans_between spans from upto)
in_between spans from n upto span is low high =
    let same : from + (n - from) ≡ n = omega (arith, low) in
    let dropped = at_dropped spans from (n - from) span (ap (slice_get spans) same ∙ is) in
    by_end upto high dropped
  where
    by_end : (upto : Option ℕ) → IfSome upto (λ u. n ≤ u) → slice_get (drop from spans) (n - from) ≡ Some span → SomeOf (λ s. s ≡ span) (spans_between spans from upto)
    by_end None high dropped = some_at (drop from spans) (n - from) span dropped
    by_end (Some u) high dropped = some_at (take (suc u - from) (drop from spans)) (n - from) span (at_taken (drop from spans) (suc u - from) (n - from) span (omega (arith, low, high)) dropped)

-- one of these, of all of which more is known
some_where : (P Q R : TenureView → Type 0) → ((t : TenureView) → P t → Q t → R t) → (ts : List TenureView) → SomeOf P ts → All Q ts → SomeOf R ts
some_where P Q R each [] some all = absurd some
some_where P Q R each (t ∷ ts) (inl here) all = inl (each t here (All-head Q t ts all))
some_where P Q R each (t ∷ ts) (inr there) all = inr (some_where P Q R each ts there (All-tail Q t ts all))

-- ---- the stretch

module _ (job : JobView) (doings : Doings) (qs rs : List ℕ) (quiet : IsQuietRun doings.script (start_of job) qs) (run : IsRunOf doings.script (start_of job) rs) (zone : ZoneLine) (there : IsZoneOf (start_of job) zone)
    (known : (c : ℕ) → (stage_after doings.script (first_stage (start_of job)) rs).board.holder zone.zone ≡ Some c → among channel_numbers c ≡ true) where
  abbrev events : List OccurrenceView
  events = occurrences_of (first_board (start_of job)) (moves_by doings.script (start_of job) qs)

  abbrev counts : ℕ → ℕ
  counts = made_counts doings.script (start_of job) qs rs quiet run

  abbrev holder : Option ℕ
  holder = (stage_after doings.script (first_stage (start_of job)) rs).board.holder zone.zone

  abbrev pub Named : EventId → Type 0
  Named = IsLowestName (first_board (start_of job)) (moves_by doings.script (start_of job) qs)

  abbrev pub past : EventId → Bool
  past = is_past (first_board (start_of job)) (moves_by doings.script (start_of job) qs) (made_counts doings.script (start_of job) qs rs quiet run)

  -- it is the present span of the channel that holds the zone, or the time since nobody holds it
  abbrev pub IsNow : StretchView → Type 0
  IsNow stretch =
      ((c : ℕ) × ((stage_after doings.script (first_stage (start_of job)) rs).board.holder zone.zone ≡ Some c) × (span : PresentSpan job doings qs rs quiet run c) × (stretch ≡ stretch_of_span job zone c span.span))
      ⊎ (((stage_after doings.script (first_stage (start_of job)) rs).board.holder zone.zone ≡ None)
      × (t : TenureView) × IsPresent (occurrences_of (first_board (start_of job)) (moves_by doings.script (start_of job) qs)) (first_tenure job zone) (made_counts doings.script (start_of job) qs rs quiet run) None t
      × (stretch ≡ free_stretch job zone t)
      × BeginsWithLast (occurrences_of (first_board (start_of job)) (moves_by doings.script (start_of job) qs)) (occurrences_of (first_board (start_of job)) (moves_by doings.script (start_of job) rs)) zone (first_tenure job zone).begins t)

  abbrev Wanted : StretchView → Type 0
  Wanted stretch = IsCurrent Named past stretch × IsNow stretch

  abbrev spans : ℕ → List Span
  spans = spans_of job (items_by doings (first_stage (start_of job)) qs) events

  abbrev Present : TenureView → Type 0
  Present = IsPresent events (first_tenure job zone) counts holder

  abbrev BeginsLast : TenureView → Type 0
  BeginsLast = BeginsWithLast events (occurrences_of (first_board (start_of job)) (moves_by doings.script (start_of job) rs)) zone (first_tenure job zone).begins

  held_now : (c : ℕ) → holder ≡ Some c → (t : TenureView) → Present t → EndsItself spans t → SomeOf Wanted (stretches_in_tenure job zone spans t)
  held_now c is t present ends =
      let now = present_span job doings qs rs quiet run c (known c is) in
      let held = present.held c is in
      let between = in_between (spans c) t.from (counts c) t.upto now.span now.there held.0 held.1 in
      subst (λ (o : Option ℕ). SomeOf Wanted (stretches_held_by job zone spans t o)) (sym (present.owner ∙ is))
      (subst (λ (xs : List Span). SomeOf Wanted (map (stretch_of_span job zone c) xs)) (sym (ends c (present.owner ∙ is)))
      (SomeOf-map Wanted (stretch_of_span job zone c) (spans_between (spans c) t.from t.upto)
      (SomeOf-weaker (λ s. s ≡ now.span) (λ s. Wanted (stretch_of_span job zone c s))
      (λ s same. subst (λ (s : Span). Wanted (stretch_of_span job zone c s)) (sym same) (record { begun = now.begun; not_over = now.not_over }, inl (c, is, now, refl)))
      (spans_between (spans c) t.from t.upto) between)))

  named : (c k : ℕ) (o : OccurrenceView) → slice_get (filter (λ p. p.channel == c) events) k ≡ Some o → Named o.name
  named c k o is = kept_holds (λ p. Named p.name) (λ p. p.channel == c) events k o (occurrences_named (first_board (start_of job)) (moves_by doings.script (start_of job) qs)) is

  free_now : holder ≡ None → (t : TenureView) → Present t → BeginsLast t → SomeOf Wanted (stretches_in_tenure job zone spans t)
  free_now is t present begins =
      subst (λ (o : Option ℕ). SomeOf Wanted (stretches_held_by job zone spans t o)) (sym (present.owner ∙ is))
      (inl (record { begun = by_begin present.begins; not_over = by_end (present.ends is) }, inr (is, t, subst (λ (o : Option ℕ). IsPresent events (first_tenure job zone) counts o t) is present, refl, begins)))
    where
      by_begin : (t.begins ≡ (first_tenure job zone).begins) ⊎ BegunBy events counts t → IfSome t.begins.first (λ e. Named e × (past e ≡ true))
      by_begin (inl same) = subst (λ b. IfSome b.first (λ e. Named e × (past e ≡ true))) (sym same) tt
      by_begin (inr by) =
          let one = by.counted in
          let made = by.made in
          subst (λ (o : Option EventId). IfSome o (λ e. Named e × (past e ≡ true))) (sym by.first)
          (named by.place.channel (by.place.place - 1) by.event by.at, first_are_past doings.script (start_of job) qs rs quiet run by.place.channel (by.place.place - 1) by.event by.at (omega (arith, one, made)))

      by_end : (t.last ≡ None) ⊎ EndedBy events counts t → IfSome t.last (λ e. Named e × (past e ≡ false))
      by_end (inl none) = subst (λ (o : Option EventId). IfSome o (λ e. Named e × (past e ≡ false))) (sym none) tt
      by_end (inr by) =
          let later = by.not_made in
          subst (λ (o : Option EventId). IfSome o (λ e. Named e × (past e ≡ false))) (sym by.last)
          (named by.place.channel (by.place.place - 1) by.event by.at, others_are_not doings.script (start_of job) qs rs quiet run by.place.channel (by.place.place - 1) by.event by.at (omega (arith, later)) by.known)

  pub zone_now : SomeOf (λ stretch. IsCurrent Named past stretch × IsNow stretch)
      (stretches_of_zone job (items_by doings (first_stage (start_of job)) qs) (occurrences_of (first_board (start_of job)) (moves_by doings.script (start_of job) qs)) zone)
  unfolding stretches_of_zone
  zone_now =
      SomeOf-flat_map Wanted (stretches_in_tenure job zone spans) (tenures_of job events zone)
      (some_where (λ t. Present t × BeginsLast t) (EndsItself spans) (λ t. SomeOf Wanted (stretches_in_tenure job zone spans t)) (by_holder holder refl) (tenures_of job events zone)
      (present_tenure job doings.script qs rs quiet run zone there)
      (spans_end_with_tenures job (start_of job) (items_by doings (first_stage (start_of job)) qs) (moves_by doings.script (start_of job) qs) zone (run_board_first (start_of job) quiet.sound).zones there))
    where
      by_holder : (o : Option ℕ) → holder ≡ o → (t : TenureView) → Present t × BeginsLast t → EndsItself spans t → SomeOf Wanted (stretches_in_tenure job zone spans t)
      by_holder None is t found ends = free_now is t found.0 found.1
      by_holder (Some c) is t found ends = held_now c is t found.0 ends

-- ---- as a law

one_of : {X : Type 0} (P : X → Type 0) (xs : List X) → SomeOf P xs → (x : X) × Contains xs x × P x
one_of P [] some = absurd some
one_of P (x ∷ xs) (inl here) = (x, (0, omega arith, refl), here)
one_of P (x ∷ xs) (inr there) = let r = one_of P xs there in (r.0, (suc r.1.0, (let inside = r.1.1 in omega (arith, inside)), r.1.2), r.2)

second_holds : (P Q : EventId → Type 0) (o : Option EventId) → IfSome o (λ e. P e × Q e) → IfSome o Q
second_holds P Q None both = tt
second_holds P Q (Some e) both = both.1

pub zones_have_present_stretches : (job : JobView) (doings : Doings) (qs rs : List ℕ) (zone : ZoneLine) → ZonesHavePresentStretches job doings qs rs zone
zones_have_present_stretches job doings qs rs zone sound quiet run in_job =
    let there : IsZoneOf (start_of job) zone = All-contains (IsZoneOf (start_of job)) (zones_in_order job) zone (zones_start job sound) in_job in
    let known = holder_known (start_of job) doings.script rs zone quiet.sound quiet.numbers run there in
    let found = one_of (λ stretch. IsCurrent (Named job doings qs rs quiet run zone there known) (past job doings qs rs quiet run zone there known) stretch × IsNow job doings qs rs quiet run zone there known stretch)
    (stretches_of_zone job (items_by doings (first_stage (start_of job)) qs) (occurrences_of (first_board (start_of job)) (moves_by doings.script (start_of job) qs)) zone)
    (zone_now job doings qs rs quiet run zone there known) in
    record {
      stretch = found.0;
      there = found.1;
      present = record {
        begun = second_holds (Named job doings qs rs quiet run zone there known) (λ e. is_made doings.script (start_of job) qs rs e ≡ true) found.0.first found.2.0.begun;
        not_over = second_holds (Named job doings qs rs quiet run zone there known) (λ e. is_made doings.script (start_of job) qs rs e ≡ false) found.0.last found.2.0.not_over;
        holder = of_holder there known found.0 found.2.1;
      };
    }
  where
    of_holder : (there : IsZoneOf (start_of job) zone) (known : (c : ℕ) → (stage_after doings.script (first_stage (start_of job)) rs).board.holder zone.zone ≡ Some c → among channel_numbers c ≡ true) (stretch : StretchView)
        → IsNow job doings qs rs quiet run zone there known stretch → stretch.name.channel ≡ (stage_after doings.script (first_stage (start_of job)) rs).board.holder zone.zone
    of_holder there known stretch (inl held) = ap (λ (s : StretchView). s.name.channel) held.3 ∙ sym held.1
    of_holder there known stretch (inr free) = ap (λ (s : StretchView). s.name.channel) free.3 ∙ sym free.0
