-- A zone that nobody holds stands, and is on or off, as its present tenure begins.
use Rattle.std.proofs.Common.{◌≡◌, ◌⊎◌, ◌∙◌, ℕ, ℤ, suc, pos, ◌-◌, Bool, true, false, cond, ◌==◌, List, [], ◌∷◌, ◌++◌, map, filter, find, slice_get, Option, None, Some, unwrap_or, inl, inr, refl, sym, ap, subst}
use Rattle.std.specs.Option.{option_map}
use Rattle.std.proofs.lemmas.Bool.{cases_Bool, eq-eqb}
use Rattle.std.proofs.lemmas.Option.{same_Some, slice_get-map, slice_get_within}
use Rattle.axis_sets.specs.Positions.{position_of, stands}
use Rattle.axis_sets.specs.Sets.{has}
use Rattle.board_laws.proofs.Takings.{IsOf}
use Rattle.board_laws.specs.Machine.{Place}
use Rattle.channel_machine.specs.StartStates.{start_of}
use Rattle.job_types.specs.Axes.{start_position}
use Rattle.job_types.specs.Job.{JobView}
use Rattle.job_types.specs.SoundJob.{IsSoundJob}
use Rattle.job_types.specs.Zones.{has_axis}
use Rattle.job_types.specs.declared.job.ZoneLine.{ZoneLine}
use Rattle.number_laws.proofs.Lists.{SomeOf, SomeOf-weaker, slice_get-append_left}
use Rattle.order_clocks.proofs.MemberLaws.{in_append}
use Rattle.order_clocks.specs.Chains.{IsIn}
use Rattle.order_clocks.specs.Happenings.{axes_freed, happening_of}
use Rattle.schedule_laws.specs.Schedules.{IsQuietRun, IsRunOf, moves_by}
use Rattle.speed_laws.proofs.ComparedPairs.{IsCurrent}
use Rattle.speed_laws.proofs.Grants.{position_is}
use Rattle.speed_laws.proofs.PastEvents.{is_past, made_counts}
use Rattle.speed_laws.proofs.PresentSpans.{PresentSpan, spoken_first}
use Rattle.speed_laws.proofs.PresentStretches.{IsNow, zone_now}
use Rattle.speed_laws.proofs.PresentTenures.{BeginsWithLast, IsPresent, holder_known, present_tenure}
use Rattle.speed_laws.proofs.RunBoards.{IsRunBoard, run_board_first, run_board_step}
use Rattle.speed_laws.proofs.StepEvents.{taken}
use Rattle.speed_laws.proofs.StretchBoxes.{first_on}
use Rattle.speed_laws.proofs.SwitchedZones.{on_after_step}
use Rattle.speed_laws.proofs.ZoneTenures.{At, BeginsBy, IsPlaceOf, last_hand}
use Rattle.speed_laws.specs.Doings.{Doings}
use Rattle.speed_laws.specs.Histories.{Telling, items_by, telling_of}
use Rattle.sync_types.proofs.BoardTests.{no_truth}
use Rattle.sync_types.proofs.Replays.{run_is_replay}
use Rattle.sync_types.specs.BoardActions.{after_own_part, after_part, channels_started, ownership_after, position_or_zero}
use Rattle.sync_types.specs.BoardAlarms.{alarm_of}
use Rattle.sync_types.specs.Boards.{Board, FreeAt, among, channel_numbers, first_board, is_running, is_this, ownership_of}
use Rattle.sync_types.specs.Events.{IsLowestName}
use Rattle.sync_types.specs.GoingOn.{Going, after_goes, all_takings, going_at_once, going_of_start, goers_at_once}
use Rattle.sync_types.specs.Runs.{first_stage, stage_after}
use Rattle.sync_types.specs.Starts.{IsSound, first_owner, first_position}
use Rattle.sync_types.specs.Turns.{AreOfRunning, Move, after_moves, after_step, goings_in_step}
use Rattle.sync_types.specs.declared.Step.{Step}
use Rattle.zone_stretches.proofs.HandLaws.{IsFor, carry_to, owner_next, owners_next, release_frees, release_holds, step_hands}
use Rattle.zone_stretches.proofs.HandLaws.{carry_none}
use Rattle.zone_stretches.specs.Occurrences.{OccurrenceView, act_of, going_on_of, occurrences_in, occurrences_from, occurrences_of}
use Rattle.zone_stretches.specs.SoundStretches.{IsZoneOf}
use Rattle.zone_stretches.specs.Spans.{SpanStartView, is_on_at_first}
use Rattle.zone_stretches.specs.Stretches.{StretchView, free_stretch, stretch_of_span, stretches_of_zone}
use Rattle.zone_stretches.specs.Tenures.{TenureView, carry, changes_hands, first_tenure, tenures_of}

-- ---- those that go on in a step

module _ (zone : ZoneLine) (i : ℕ) (all : List Going) where
  -- who takes axes of the zone holds it, and nobody who goes on lets it go
  takes_next : (owner : Option ℕ) (g : Going) → carry zone (among g.took) ≡ true → owner_next zone owner (going_on_of i all g) ≡ Some g.channel
  takes_next owner g on = rw (carry_none zone, on) refl

  stays_next : (owner : Option ℕ) (g : Going) → carry zone (among g.took) ≡ false → owner_next zone owner (going_on_of i all g) ≡ owner
  stays_next owner g off = rw (carry_none zone, off) refl

  stays_held : (gs : List Going) (c : ℕ) → owners_next zone (Some c) (map (going_on_of i all) gs) ≡ None → ⊥
  stays_held [] c none = cc
  stays_held (g ∷ gs) c none = elim (cases_Bool (carry zone (among g.took))) [
    | inl on ↦ stays_held gs g.channel (ap (λ (w : Option ℕ). owners_next zone w (map (going_on_of i all) gs)) (sym (takes_next (Some c) g on)) ∙ none)
    | inr off ↦ stays_held gs c (ap (λ (w : Option ℕ). owners_next zone w (map (going_on_of i all) gs)) (sym (stays_next (Some c) g off)) ∙ none)
  ]

  -- where nobody holds it after them, nobody held it before them and none of them takes it
  none_takes : (gs : List Going) (owner : Option ℕ) → owners_next zone owner (map (going_on_of i all) gs) ≡ None → (owner ≡ None) × ((g : Going) → IsIn g gs → carry zone (among g.took) ≡ false)
  none_takes [] owner none = (none, λ g within. absurd within)
  none_takes (g ∷ gs) owner none = elim (cases_Bool (carry zone (among g.took))) [
    | inl on ↦ absurd (stays_held gs g.channel (ap (λ (w : Option ℕ). owners_next zone w (map (going_on_of i all) gs)) (sym (takes_next owner g on)) ∙ none))
    | inr off ↦
        let rest = none_takes gs owner (ap (λ (w : Option ℕ). owners_next zone w (map (going_on_of i all) gs)) (sym (stays_next owner g off)) ∙ none) in
        (rest.0, λ h within. elim within [ inl same ↦ ap (λ (k : Going). carry zone (among k.took)) same ∙ off | inr later ↦ rest.1 h later ])
  ]

  last_stays : (gs : List Going) (last : Option OccurrenceView) → ((g : Going) → IsIn g gs → carry zone (among g.took) ≡ false) → last_hand zone last (map (going_on_of i all) gs) ≡ last
  last_stays [] last off = refl
  last_stays (g ∷ gs) last off =
      let here : changes_hands zone (going_on_of i all g) ≡ false = rw (carry_none zone, off g (inl refl)) refl in
      ap (λ (t : Bool). last_hand zone (cond t (Some (going_on_of i all g)) last) (map (going_on_of i all) gs)) here ∙ last_stays gs last (λ h within. off h (inr within))

last_append : (zone : ZoneLine) (last : Option OccurrenceView) (os ps : List OccurrenceView) → last_hand zone last (os ++ ps) ≡ last_hand zone (last_hand zone last os) ps
last_append zone last [] ps = refl
last_append zone last (o ∷ os) ps = last_append zone (cond (changes_hands zone o) (Some o) last) os ps

-- who takes axes is one of those that go on
in_goings : (b : Board) (p : ℕ) (step : Step) (g : Going) → IsOf g (all_takings (after_goes (after_own_part b p step))).goings → IsIn g (goings_in_step b p step)
in_goings b p step g within =
    let part : Board = after_own_part b p step in
    let takers : List Going = (all_takings (after_goes part)).goings in
    (in_append g (map (going_of_start part) (channels_started (alarm_of b p step.action) step.action)) (map (going_at_once part) (goers_at_once part) ++ takers)).1
    (inr ((in_append g (map (going_at_once part) (goers_at_once part)) takers).1 (inr (to_in takers within))))
  where
    to_in : (gs : List Going) → IsOf g gs → IsIn g gs
    to_in [] within = absurd within
    to_in (h ∷ gs) (inl e) = inl e
    to_in (h ∷ gs) (inr later) = inr (to_in gs later)

-- ---- how a free zone stands

module _ (job : JobView) (zone : ZoneLine) where
  -- by the event in which it changed hands last, or as the job begins
  abbrev pub stands_by : Option OccurrenceView → ℕ → ℤ
  stands_by None = start_position job
  stands_by (Some o) = stands o.at

  abbrev pub is_on_by : Option OccurrenceView → ℕ → Bool
  is_on_by None = is_on_at_first job
  is_on_by (Some o) = has o.on

  pub record StandsBy (last : Option OccurrenceView) (b : Board) : Type 0 where
    pub at : (axis : ℕ) → has_axis zone axis ≡ true → b.axis axis ≡ FreeAt (stands_by last axis)
    pub on : is_on_by last zone.zone ≡ b.is_on zone.zone

  -- the board has it so while nobody holds it
  abbrev pub IsFreeBy : Option OccurrenceView → Board → Type 0
  IsFreeBy last b = b.holder zone.zone ≡ None → StandsBy last b

  module _ (b : Board) (p i : ℕ) (step : Step) (zs : IsRunBoard b) (running : is_running (b.state p) ≡ true) (for : IsFor zone b) where
    abbrev act : OccurrenceView
    act = act_of i step (happening_of b p step)

    -- an axis that the act lets go stands where its step tells
    part_axis : (x : ℕ) → (after_own_part b p step).axis x ≡ cond (among (happening_of b p step).frees x) (FreeAt (position_or_zero (position_of step.at x))) (b.axis x)
    unfolding ownership_after
    part_axis x = by_alarm (alarm_of b p step.action)
      where
        by_alarm : (a : Option ℕ) → (after_part b p step a).axis x ≡ cond (among (axes_freed a step.action) x) (FreeAt (position_or_zero (position_of step.at x))) (b.axis x)
        by_alarm (Some code) = refl
        by_alarm None = refl

    told_position : (o : Option ℤ) → position_or_zero o ≡ unwrap_or o (pos 0)
    told_position None = refl
    told_position (Some position) = refl

    module _ (free : (after_step b p step).holder zone.zone ≡ None) where
      quiet : (owner_next zone (b.holder zone.zone) act ≡ None) × ((g : Going) → IsIn g (goings_in_step b p step) → carry zone (among g.took) ≡ false)
      quiet =
          let move : Move = record { channel = p; step = step } in
          none_takes zone i (goings_in_step b p step) (goings_in_step b p step) (owner_next zone (b.holder zone.zone) act) ((step_hands b move zone i zs.robs_nobody zs.zones for).1 ∙ free)

      -- an axis that nobody takes is as the act leaves it
      axis_stays : (x : ℕ) → has_axis zone x ≡ true → (after_step b p step).axis x ≡ (after_own_part b p step).axis x
      axis_stays x carries = elim ((taken b p step zs running).axis x) [
        | inl same ↦ same
        | inr some ↦ no_truth (carry zone (among some.0.took)) (carry_to zone (among some.0.took) x carries some.1.1) (quiet.1 some.0 (in_goings b p step some.0 some.1.0))
      ]

      released : carry zone (among (happening_of b p step).frees) ≡ true → StandsBy (Some act) (after_step b p step)
      released on =
          let held : b.holder zone.zone ≡ Some p = release_holds b p step zone zs.zones for on in
          let mine : is_this (b.holder zone.zone) p ≡ true = rw held (eq-eqb p p refl) in
          record {
            at = λ x carries.
                axis_stays x carries ∙ part_axis x
                ∙ ap (λ (t : Bool). cond t (FreeAt (position_or_zero (position_of step.at x))) (b.axis x)) (release_frees b p step zone zs.zones for on x carries)
                ∙ ap FreeAt (told_position (position_of step.at x));
            on = sym (on_after_step b p step zs running zone.zone ∙ ap (λ (t : Bool). cond t (has step.on zone.zone) (b.is_on zone.zone)) mine);
          }

      kept : (last : Option OccurrenceView) → carry zone (among (happening_of b p step).frees) ≡ false → IsFreeBy last b → StandsBy last (after_step b p step)
      kept last off was =
          let same : owner_next zone (b.holder zone.zone) act ≡ b.holder zone.zone = rw (off, carry_none zone) refl in
          let old : b.holder zone.zone ≡ None = sym same ∙ quiet.0 in
          let stood = was old in
          record {
            at = λ x carries.
                axis_stays x carries ∙ part_axis x
                ∙ ap (λ (t : Bool). cond t (FreeAt (position_or_zero (position_of step.at x))) (b.axis x)) (not_freed x carries)
                ∙ stood.at x carries;
            on = stood.on ∙ sym (on_after_step b p step zs running zone.zone ∙ ap (λ (w : Option ℕ). cond (is_this w p) (has step.on zone.zone) (b.is_on zone.zone)) old);
          }
        where
          not_freed : (x : ℕ) → has_axis zone x ≡ true → among (happening_of b p step).frees x ≡ false
          not_freed x carries = elim (cases_Bool (among (happening_of b p step).frees x)) [
            | inr out ↦ out
            | inl in_it ↦ no_truth (carry zone (among (happening_of b p step).frees)) (carry_to zone (among (happening_of b p step).frees) x carries in_it) off
          ]

      by_act : (last : Option OccurrenceView) → IsFreeBy last b → StandsBy (cond (changes_hands zone act) (Some act) last) (after_step b p step)
      by_act last was = elim (cases_Bool (carry zone (among (happening_of b p step).frees))) [
        | inl on ↦
            let changes : changes_hands zone act ≡ true = rw on refl in
            subst (λ (t : Bool). StandsBy (cond t (Some act) last) (after_step b p step)) (sym changes) (released on)
        | inr off ↦
            let stays : changes_hands zone act ≡ false = rw (off, carry_none zone) refl in
            subst (λ (t : Bool). StandsBy (cond t (Some act) last) (after_step b p step)) (sym stays) (kept last off was)
      ]

    -- so it is after the step
    step_free : (last : Option OccurrenceView) → IsFreeBy last b → IsFreeBy (last_hand zone last (occurrences_in i step (happening_of b p step))) (after_step b p step)
    step_free last was free =
        subst (λ (l : Option OccurrenceView). StandsBy l (after_step b p step))
        (sym (last_stays zone i (goings_in_step b p step) (goings_in_step b p step) (cond (changes_hands zone act) (Some act) last) (quiet free).1)) (by_act free last was)

  -- and after a run
  run_free : (ms : List Move) (b : Board) (i : ℕ) (last : Option OccurrenceView) → IsRunBoard b → IsFor zone b → AreOfRunning b ms → IsFreeBy last b → IsFreeBy (last_hand zone last (occurrences_from b i ms)) (after_moves b ms)
  run_free [] b i last zs for run was = was
  run_free (m ∷ ms) b i last zs for run was =
      let next = after_step b m.channel m.step in
      let here = occurrences_in i m.step (happening_of b m.channel m.step) in
      subst (λ (l : Option OccurrenceView). IsFreeBy l (after_moves next ms)) (sym (last_append zone last here (occurrences_from next (suc i) ms)))
      (run_free ms next (suc i) (last_hand zone last here) (run_board_step b m.channel m.step zs) (step_hands b m zone i zs.robs_nobody zs.zones for).2 run.1 (step_free b m.channel i m.step zs run.0 for last was))

  first_free : IsSoundJob job → IsSound (start_of job) → IsZoneOf (start_of job) zone → find (λ z. z.zone == zone.zone) job.zones ≡ Some zone → IsFreeBy None (first_board (start_of job))
  first_free sound sound_start there found free = record {
    at = λ x carries.
        let none : first_owner (start_of job) x ≡ None = sound_start.zone_owners zone.zone x (there.axes x ∙ carries) ∙ free in
        ap (λ (w : Option ℕ). ownership_of w (first_position (start_of job) x)) none ∙ ap FreeAt (position_is job sound x);
    on = sym (first_on job sound zone found);
  }

-- ---- in the run that speaks

-- a tenure begins as the board has the zone
pub record BeginsAsBoard (zone : ZoneLine) (b : Board) (t : TenureView) : Type 0 where
  pub at : (axis : ℕ) → has_axis zone axis ≡ true → b.axis axis ≡ FreeAt (t.begins.at axis)
  pub on : t.begins.on zone.zone ≡ b.is_on zone.zone

module _ (job : JobView) (doings : Doings) (qs rs : List ℕ) (quiet : IsQuietRun doings.script (start_of job) qs) (run : IsRunOf doings.script (start_of job) rs) (zone : ZoneLine) where
  abbrev speaking : List OccurrenceView
  speaking = occurrences_from (first_board (start_of job)) 0 (moves_by doings.script (start_of job) qs)

  abbrev made : List OccurrenceView
  made = occurrences_from (first_board (start_of job)) 0 (moves_by doings.script (start_of job) rs)

  abbrev board : Board
  board = (stage_after doings.script (first_stage (start_of job)) rs).board

  -- events at one place tell the same
  alike_told : (e : Place) (o p : OccurrenceView) → among channel_numbers e.channel ≡ true → At made e o → At speaking e p
      → telling_of (items_by doings (first_stage (start_of job)) qs) p ≡ telling_of (items_by doings (first_stage (start_of job)) rs) o
  alike_told e o p known at_made at_speaking =
      let k = e.place - 1 in
      let theirs : List Telling = map (telling_of (items_by doings (first_stage (start_of job)) qs)) (filter (λ q. q.channel == e.channel) speaking) in
      let ours : List Telling = map (telling_of (items_by doings (first_stage (start_of job)) rs)) (filter (λ q. q.channel == e.channel) made) in
      let told = spoken_first job doings qs rs quiet run e.channel known in
      let here : slice_get ours k ≡ Some (telling_of (items_by doings (first_stage (start_of job)) rs) o) =
      slice_get-map (telling_of (items_by doings (first_stage (start_of job)) rs)) (filter (λ q. q.channel == e.channel) made) k ∙ ap (option_map (telling_of (items_by doings (first_stage (start_of job)) rs))) at_made in
      let there : slice_get theirs k ≡ Some (telling_of (items_by doings (first_stage (start_of job)) qs) p) =
      slice_get-map (telling_of (items_by doings (first_stage (start_of job)) qs)) (filter (λ q. q.channel == e.channel) speaking) k ∙ ap (option_map (telling_of (items_by doings (first_stage (start_of job)) qs))) at_speaking in
      same_Some _ _ (sym there ∙ ap (λ (ts : List Telling). slice_get ts k) told.1 ∙ slice_get-append_left ours told.0 k (slice_get_within ours k _ here) ∙ here)

  begins_so : (t : TenureView) (place : Option Place) (last : Option OccurrenceView) → IsPlaceOf made place last → BeginsBy speaking (first_tenure job zone).begins place t.begins → StandsBy job zone last board
      → BeginsAsBoard zone board t
  begins_so t None None is begins stands_so = record {
    at = λ x carries. stands_so.at x carries ∙ ap (λ (b : SpanStartView). FreeAt (b.at x)) (sym begins);
    on = ap (λ (b : SpanStartView). b.on zone.zone) begins ∙ stands_so.on;
  }
  begins_so t (Some e) (Some o) is begins stands_so =
      let same = alike_told e o begins.0 is.1 is.0 begins.1 in
      record {
        at = λ x carries. stands_so.at x carries ∙ ap FreeAt (sym (ap (λ (f : ℕ → ℤ). f x) begins.2 ∙ ap (λ (told : Telling). stands told.at x) same));
        on = ap (λ (f : ℕ → Bool). f zone.zone) begins.3 ∙ ap (λ (told : Telling). has told.on zone.zone) same ∙ stands_so.on;
      }
  begins_so t None (Some o) is begins stands_so = absurd is
  begins_so t (Some e) None is begins stands_so = absurd is

  module _ (sound : IsSoundJob job) (there : IsZoneOf (start_of job) zone) (by_number : find (λ z. z.zone == zone.zone) job.zones ≡ Some zone) where
    -- where nobody holds the zone, a tenure that begins with the last change of hands begins as the board has it
    pub begins_as_board : (stage_after doings.script (first_stage (start_of job)) rs).board.holder zone.zone ≡ None → (t : TenureView)
        → BeginsWithLast (occurrences_of (first_board (start_of job)) (moves_by doings.script (start_of job) qs)) (occurrences_of (first_board (start_of job)) (moves_by doings.script (start_of job) rs)) zone
        (first_tenure job zone).begins t
        → BeginsAsBoard zone (stage_after doings.script (first_stage (start_of job)) rs).board t
    unfolding occurrences_of
    begins_as_board free t begins =
        let replay = run_is_replay doings.script (first_stage (start_of job)) rs run in
        let stands_so = run_free job zone (moves_by doings.script (start_of job) rs) (first_board (start_of job)) 0 None (run_board_first (start_of job) quiet.sound) there.axes replay.running
        (first_free job zone sound quiet.sound there by_number) in
        begins_so t begins.place (last_hand zone None made) begins.last begins.begins
        (subst (λ (b : Board). b.holder zone.zone ≡ None → StandsBy job zone (last_hand zone None made) b) replay.board stands_so free)

    abbrev events : List OccurrenceView
    events = occurrences_of (first_board (start_of job)) (moves_by doings.script (start_of job) qs)

    abbrev tenures : List TenureView
    tenures = tenures_of job events zone

    abbrev Present : Option ℕ → TenureView → Type 0
    Present = IsPresent events (first_tenure job zone) (made_counts doings.script (start_of job) qs rs quiet run)

    -- so does the present tenure
    pub free_zone : (stage_after doings.script (first_stage (start_of job)) rs).board.holder zone.zone ≡ None
        → SomeOf (λ t. IsPresent (occurrences_of (first_board (start_of job)) (moves_by doings.script (start_of job) qs)) (first_tenure job zone) (made_counts doings.script (start_of job) qs rs quiet run) None t
        × BeginsAsBoard zone (stage_after doings.script (first_stage (start_of job)) rs).board t)
        (tenures_of job (occurrences_of (first_board (start_of job)) (moves_by doings.script (start_of job) qs)) zone)
    free_zone free =
        subst (λ (w : Option ℕ). SomeOf (λ t. Present w t × BeginsAsBoard zone board t) tenures) free
        (SomeOf-weaker
        (λ t. Present (board.holder zone.zone) t × BeginsWithLast events (occurrences_of (first_board (start_of job)) (moves_by doings.script (start_of job) rs)) zone (first_tenure job zone).begins t)
        (λ t. Present (board.holder zone.zone) t × BeginsAsBoard zone board t)
        (λ t found. (found.0, begins_as_board free t found.1)) tenures (present_tenure job doings.script qs rs quiet run zone there))

    -- a stretch is the present span of the channel that holds the zone, or the time since nobody holds it, which begins as the board has the zone
    abbrev pub StandsNow : StretchView → Type 0
    StandsNow stretch =
        ((c : ℕ) × ((stage_after doings.script (first_stage (start_of job)) rs).board.holder zone.zone ≡ Some c) × (span : PresentSpan job doings qs rs quiet run c) × (stretch ≡ stretch_of_span job zone c span.span))
        ⊎ (((stage_after doings.script (first_stage (start_of job)) rs).board.holder zone.zone ≡ None)
        × (t : TenureView) × BeginsAsBoard zone (stage_after doings.script (first_stage (start_of job)) rs).board t × (stretch ≡ free_stretch job zone t))

    known : (c : ℕ) → board.holder zone.zone ≡ Some c → among channel_numbers c ≡ true
    known = holder_known (start_of job) doings.script rs zone quiet.sound quiet.numbers run there

    abbrev Current : StretchView → Type 0
    Current =
        IsCurrent (IsLowestName (first_board (start_of job)) (moves_by doings.script (start_of job) qs))
        (is_past (first_board (start_of job)) (moves_by doings.script (start_of job) qs) (made_counts doings.script (start_of job) qs rs quiet run))

    -- some stretch of the zone is so, and current
    pub zone_stands : SomeOf (λ stretch. IsCurrent (IsLowestName (first_board (start_of job)) (moves_by doings.script (start_of job) qs))
        (is_past (first_board (start_of job)) (moves_by doings.script (start_of job) qs) (made_counts doings.script (start_of job) qs rs quiet run)) stretch
        × StandsNow stretch)
        (stretches_of_zone job (items_by doings (first_stage (start_of job)) qs) (occurrences_of (first_board (start_of job)) (moves_by doings.script (start_of job) qs)) zone)
    zone_stands =
        SomeOf-weaker (λ stretch. Current stretch × IsNow job doings qs rs quiet run zone there known stretch) (λ stretch. Current stretch × StandsNow stretch)
        (λ stretch both. (both.0, stands_now stretch both.1))
        (stretches_of_zone job (items_by doings (first_stage (start_of job)) qs) events zone) (zone_now job doings qs rs quiet run zone there known)
      where
        stands_now : (stretch : StretchView) → IsNow job doings qs rs quiet run zone there known stretch → StandsNow stretch
        stands_now stretch (inl held) = inl held
        stands_now stretch (inr free) = inr (free.0, free.1, begins_as_board free.0 free.1 free.4, free.3)
