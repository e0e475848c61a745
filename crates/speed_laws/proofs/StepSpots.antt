-- Where channels are after one of them acts: who has an event in the step is at place 0 of a new span, and all others where they were.
use Rattle.std.proofs.Common.{◌≡◌, ◌⊎◌, ◌∙◌, ℕ, ℤ, ◌+◌, ◌<◌, true, false, cond, ◌==◌, List, [], ◌∷◌, ◌++◌, length, map, filter, Option, None, Some, IfSome, unwrap_or, inl, inr, refl, sym, ap, ap₂, subst, arith}
use Rattle.std.proofs.lemmas.Bool.{cases_Bool, eqb-true, eq-eqb, ne_eqb}
use Rattle.std.specs.Option.{option_map_or}
use Rattle.axis_sets.specs.Positions.{position_of}
use Rattle.channel_machine.specs.StartStates.{start_of}
use Rattle.job_types.specs.Job.{JobView}
use Rattle.order_clocks.specs.Happenings.{going_of, happening_of}
use Rattle.speed_laws.proofs.RunBoards.{IsRunBoard, run_board_first}
use Rattle.zone_stretches.specs.Occurrences.{OccurrenceView, act_of, going_on_of, occurrences_in}
use Rattle.schedule_laws.specs.Schedules.{moves_by}
use Rattle.speed_laws.proofs.Histories.{found_in}
use Rattle.speed_laws.proofs.JoinedRuns.{stage_joined}
use Rattle.speed_laws.proofs.PlaceEnds.{stands_at_end}
use Rattle.speed_laws.proofs.PresentSpans.{at_after}
use Rattle.speed_laws.proofs.ReachActs.{is_placed, stands_still}
use Rattle.speed_laws.proofs.RunPlaces.{IsSpot, WellSpotted, begins_same, items_same, run_zones, spans_add, spans_grow}
use Rattle.speed_laws.proofs.Standing.{grants_next, stands_at, step_stands}
use Rattle.speed_laws.proofs.Positions.{one_under}
use Rattle.speed_laws.proofs.StepEvents.{as_goings, goes_waited, step_events}
use Rattle.speed_laws.specs.DoingLaws.{TellsWhereAxesStand}
use Rattle.speed_laws.specs.Doings.{Doings, stands_before, stands_after}
use Rattle.speed_laws.specs.Histories.{telling_of}
use Rattle.speed_laws.specs.Places.{IsAtEnd, StandsAt}
use Rattle.speed_laws.specs.SmallSteps.{begins_at, items_now, place_zero, runs, span_number, spot_now, stage_in, Spot, State}
use Rattle.sync_types.proofs.BoardTests.{no_truth}
use Rattle.sync_types.specs.Boards.{is_running}
use Rattle.sync_types.specs.GoingOn.{Going}
use Rattle.sync_types.specs.Items.{left_at}
use Rattle.sync_types.specs.Runs.{Stage, after_turn, first_stage}
use Rattle.sync_types.specs.Starts.{IsSound}
use Rattle.sync_types.specs.Turns.{after_step, goings_in_step}
use Rattle.sync_types.specs.declared.Step.{Step}

-- what a going on tells of an axis
abbrev pub told_by : Option Going → ℕ → Option ℤ
told_by None axis = None
told_by (Some g) axis = position_of g.grant.at axis

-- a spot of the present span, or place 0 of it
spot_by : Option Spot → ℕ → (ℕ → ℤ) → Spot
spot_by o number at =
    let start : Spot = record { span = number; place = 0; point = record { top = at; under = 1 } } in
    option_map_or (λ spot. cond (spot.span == number) spot start) o start

module _ (job : JobView) (doings : Doings) (start_sound : IsSound (start_of job)) (state : State) (well : WellSpotted job doings start_sound state) (p : ℕ)
    (on : is_running ((stage_in job doings state).board.state p) ≡ true) where
  abbrev stage : Stage
  stage = stage_in job doings state

  abbrev step : Step
  step = doings.script p ((stage_in job doings state).grants p)

  abbrev goings : List Going
  goings = goings_in_step stage.board p step

  abbrev pub acted : State
  acted = record { run = state.run ++ p ∷ []; spots = state.spots }

  pub zones_then : IsRunBoard (stage_in job doings state).board
  zones_then = run_zones job doings start_sound state.run (first_stage (start_of job)) (run_board_first (start_of job) start_sound)

  pub stage_next : stage_in job doings acted ≡ after_turn doings.script (stage_in job doings state) p
  stage_next = stage_joined doings.script (first_stage (start_of job)) state.run (p ∷ [])

  -- the channel acts in the step, or another does and it goes on
  abbrev pub HasEvent : ℕ → Type 0
  HasEvent c = ((p == c) ≡ true)
      ⊎ (((p == c) ≡ false) × (g : Going) × (going_of (goings_in_step (stage_in job doings state).board p (doings.script p ((stage_in job doings state).grants p))) c ≡ Some g))

  -- or neither is so, and it is where it was
  pub record Rests (c : ℕ) : Type 0 where
    pub other : (p == c) ≡ false
    pub none : going_of (goings_in_step (stage_in job doings state).board p (doings.script p ((stage_in job doings state).grants p))) c ≡ None
    pub runs_same : runs job doings (record { run = state.run ++ p ∷ []; spots = state.spots }) c ≡ runs job doings state c
    pub items_same : items_now job doings (record { run = state.run ++ p ∷ []; spots = state.spots }) c ≡ items_now job doings state c
    pub spot_same : spot_now job doings (record { run = state.run ++ p ∷ []; spots = state.spots }) c ≡ spot_now job doings state c

  pub goes_event : (c : ℕ) (g : Going) → going_of (goings_in_step (stage_in job doings state).board p (doings.script p ((stage_in job doings state).grants p))) c ≡ Some g → HasEvent c
  goes_event c g is = elim (cases_Bool (p == c)) [ inl same ↦ inl same | inr apart ↦ inr (apart, g, is) ]

  -- ---- the events of the step

  abbrev place : ℕ
  place = length (moves_by doings.script (start_of job) state.run)

  abbrev here : ℕ → List OccurrenceView
  here c = filter (λ o. o.channel == c) (occurrences_in place step (happening_of stage.board p step))

  abbrev act : OccurrenceView
  act = act_of place step (happening_of stage.board p step)

  abbrev went : Option Going → List OccurrenceView
  went o = map (going_on_of place goings) (as_goings o)

  added : (c : ℕ) → span_number job doings acted c ≡ span_number job doings state c + length (here c)
  unfolding span_number
  added c = spans_add job doings start_sound state.run p c well.run on

  count : (c : ℕ) (xs : List OccurrenceView) → cond (p == c) (act ∷ []) [] ++ went (going_of goings c) ≡ xs → length (here c) ≡ length xs
  count c xs is = ap length (step_events stage.board p step place c on zones_then ∙ is)

  grows : (c : ℕ) → HasEvent c → span_number job doings state c < span_number job doings acted c
  grows c (inl same) = let some = count c (act ∷ went (going_of goings c)) (rw same refl) in omega (arith, added c, some)
  grows c (inr (apart, g, is)) = let some = count c (going_on_of place goings g ∷ []) (rw (apart, is) refl) in omega (arith, added c, some)

  -- who has an event is at place 0 of its new span
  pub begins_anew : (c : ℕ) → HasEvent c → spot_now job doings acted c ≡ place_zero job doings acted c
  unfolding spot_now
  begins_anew c event = by_spot (state.spots c) (well.spots c)
    where
      by_spot : (o : Option Spot) → IfSome o (IsSpot job doings start_sound state c)
          → option_map_or (λ spot. cond (spot.span == span_number job doings acted c) spot (place_zero job doings acted c)) o (place_zero job doings acted c) ≡ place_zero job doings acted c
      by_spot None is = refl
      by_spot (Some spot) is =
          let upto = is.upto in
          let more = grows c event in
          rw (ne_eqb spot.span (span_number job doings acted c) (λ same. omega (arith, upto, more, same))) refl

  spot_is : (s : State) (c : ℕ) → spot_now job doings s c ≡ spot_by (s.spots c) (span_number job doings s c) (begins_at job doings s c)
  unfolding spot_now place_zero spot_by
  spot_is s c = refl

  rests : (c : ℕ) → (p == c) ≡ false → going_of goings c ≡ None → Rests c
  unfolding span_number runs
  rests c apart none = elim (spans_grow job doings start_sound state.run p c well.run on) [
    | inl more ↦ absurd (stays more)
    | inr kept ↦
        let doing : is_running ((stage_in job doings acted).board.state c) ≡ is_running ((stage_in job doings state).board.state c) = ap is_running kept.1 in
        record {
          other = apart;
          none = none;
          runs_same = doing;
          items_same = items_same job doings start_sound state p c kept.2;
          spot_same = spot_is acted c ∙ ap₂ (spot_by (state.spots c)) same_number (begins_same job doings start_sound state p c doing kept.2) ∙ sym (spot_is state c);
        }
  ]
    where
      same_number : span_number job doings acted c ≡ span_number job doings state c
      same_number = let none_here = count c [] (rw (apart, none) refl) in omega (arith, added c, none_here)

      stays : span_number job doings state c < span_number job doings acted c → ⊥
      stays more = omega (arith, same_number, more)

  pub event_or_rests : (c : ℕ) → HasEvent c ⊎ Rests c
  event_or_rests c = by_actor (cases_Bool (p == c)) (going_of goings c) refl
    where
      by_actor : ((p == c) ≡ true) ⊎ ((p == c) ≡ false) → (o : Option Going) → going_of goings c ≡ o → HasEvent c ⊎ Rests c
      by_actor (inl same) o is = inl (inl same)
      by_actor (inr apart) (Some g) is = inl (inr (apart, g, is))
      by_actor (inr apart) None is = inr (rests c apart is)

  -- who goes on and has not acted did not run before
  pub goes_rested : (c : ℕ) (g : Going) → (p == c) ≡ false → going_of (goings_in_step (stage_in job doings state).board p (doings.script p ((stage_in job doings state).grants p))) c ≡ Some g
      → is_running ((stage_in job doings state).board.state c) ≡ false
  goes_rested c g apart is =
      let f = found_in goings c g is in
      (goes_waited stage.board p step zones_then on g c f.0 f.1 (ne_eqb c p (λ same. no_truth (p == c) (eq-eqb p c (sym same)) apart))).0

  -- ---- where axes stand

  module _ (tell : TellsWhereAxesStand job doings p ((stage_in job doings state).grants p)) where
    begins_next : (c : ℕ) → begins_at job doings acted c ≡ stands_at job doings c (is_running ((after_step stage.board p step).state c)) ((after_turn doings.script stage p).grants c)
    unfolding begins_at runs
    begins_next c = ap (λ (s : Stage). cond (is_running (s.board.state c)) (stands_before job doings c (s.grants c)) (stands_after job doings c (s.grants c))) stage_next

    begins_told : (c : ℕ) → begins_at job doings acted c
        ≡ at_after (stands_at job doings c (is_running (stage.board.state c)) (stage.grants c)) (map (telling_of []) (cond (p == c) (act ∷ []) [] ++ went (going_of goings c)))
    begins_told c =
        begins_next c ∙ ap (stands_at job doings c (is_running ((after_step stage.board p step).state c))) (grants_next job doings stage p place [] zones_then on tell c)
        ∙ sym (step_stands job doings stage p place [] zones_then on tell c)

    told_at : (at : ℕ → ℤ) (o : Option Going) (axis : ℕ) → at_after at (map (telling_of []) (went o)) axis ≡ unwrap_or (told_by o axis) (at axis)
    told_at at None axis = refl
    told_at at (Some g) axis = refl

    -- who has an event has its axes afterwards where its items left them, or where its grant tells
    pub event_begins : (c : ℕ) → HasEvent c → (axis : ℕ) → begins_at job doings acted c axis
        ≡ unwrap_or (told_by (going_of (goings_in_step (stage_in job doings state).board p (doings.script p ((stage_in job doings state).grants p))) c) axis) (stands_after job doings c ((stage_in job doings state).grants c) axis)
    event_begins c (inl same) axis =
        subst (λ (d : ℕ). begins_at job doings acted d axis ≡ unwrap_or (told_by (going_of goings d) axis) (stands_after job doings d (stage.grants d) axis)) (eqb-true p c same) actor
      where
        actor : begins_at job doings acted p axis ≡ unwrap_or (told_by (going_of goings p) axis) (stands_after job doings p (stage.grants p) axis)
        actor = ap (λ (f : ℕ → ℤ). f axis) (begins_told p)
            ∙ rw (on, eq-eqb p p refl) (told_at (λ x. unwrap_or (position_of step.at x) (stands_before job doings p (stage.grants p) x)) (going_of goings p) axis
            ∙ ap (unwrap_or (told_by (going_of goings p) axis)) (tell.tells axis))
    event_begins c (inr (apart, g, is)) axis =
        ap (λ (f : ℕ → ℤ). f axis) (begins_told c) ∙ rw (goes_rested c g apart is, apart) (told_at (stands_after job doings c (stage.grants c)) (going_of goings c) axis)

  -- ---- before the step

  left_by : left_at (items_now job doings state p) (begins_at job doings state p) ≡ stands_after job doings p (stage.grants p)
  unfolding items_now begins_at runs stands_after
  left_by = rw on refl

  rested : (c : ℕ) → is_running (stage.board.state c) ≡ false → runs job doings state c ≡ false
  unfolding runs
  rested c off = off

  zero_stands : (c axis : ℕ) → runs job doings state c ≡ false → StandsAt (place_zero job doings state c).point axis (stands_after job doings c (stage.grants c) axis)
  unfolding place_zero begins_at
  zero_stands c axis off = rw off (one_under (stands_after job doings c (stage.grants c) axis))

  -- who has an event has its axes before it where its items left them
  pub event_stood : IsAtEnd (items_now job doings state p) (spot_now job doings state p).place (spot_now job doings state p).point → (c : ℕ) → HasEvent c → (axis : ℕ)
      → StandsAt (spot_now job doings state c).point axis (stands_after job doings c ((stage_in job doings state).grants c) axis)
  event_stood end c (inl same) axis =
      subst (λ (d : ℕ). StandsAt (spot_now job doings state d).point axis (stands_after job doings d (stage.grants d) axis)) (eqb-true p c same)
      (subst (λ (f : ℕ → ℤ). StandsAt (spot_now job doings state p).point axis (f axis)) left_by
      (stands_at_end (items_now job doings state p) (begins_at job doings state p) (spot_now job doings state p).place (spot_now job doings state p).point (is_placed job doings start_sound state well p) end axis))
  event_stood end c (inr (apart, g, is)) axis =
      let off = rested c (goes_rested c g apart is) in
      subst (λ (s : Spot). StandsAt s.point axis (stands_after job doings c (stage.grants c) axis)) (sym (stands_still job doings start_sound state well c off)) (zero_stands c axis off)
