-- In every state that lawful small steps reach, the run is a run, and each channel that runs is at a place of its present items.
use Rattle.std.proofs.Common.{◌≡◌, ◌⊎◌, ◌∙◌, ℕ, ℤ, ◌+◌, ◌<◌, ◌≤◌, Bool, true, false, cond, not, ◌==◌, List, [], ◌∷◌, ◌++◌, append-nil, length, length-append, map, filter, Option, None, Some, IfSome, inl, inr, refl, sym, ap, ap₂, subst, arith}
use Rattle.std.proofs.lemmas.Bool.{cases_Bool, cases_eq, eq-eqb, ne_eqb}
use Rattle.std.proofs.lemmas.List.{length-map}
use Rattle.std.proofs.lemmas.List.Elements.{filter-append}
use Rattle.channel_machine.specs.StartStates.{start_of}
use Rattle.job_types.specs.Job.{JobView}
use Rattle.order_clocks.specs.Happenings.{going_of, happening_of}
use Rattle.schedule_laws.specs.EventPlaces.{events_of}
use Rattle.schedule_laws.specs.Schedules.{IsRunOf, moves_by}
use Rattle.speed_laws.proofs.Histories.{none_in}
use Rattle.speed_laws.proofs.JoinedRuns.{moves_joined, run_more, stage_joined}
use Rattle.speed_laws.proofs.PastEvents.{own_names}
use Rattle.speed_laws.proofs.PresentTenures.{events_joined}
use Rattle.speed_laws.proofs.RunBoards.{IsRunBoard, run_board_first, run_board_step}
use Rattle.speed_laws.proofs.StepEvents.{as_goings, kept_state, not_started, part_other, step_events}
use Rattle.speed_laws.specs.Doings.{Doings, stands_after, stands_before}
use Rattle.speed_laws.specs.Places.{IsAtPlace}
use Rattle.speed_laws.specs.SmallSteps.{span_number, runs, items_now, begins_at, after_small_step, IsLawfulStep, AreLawfulSteps, after_small_steps, Spot, State, SmallStep, Advance, Act, opening}
use Rattle.sync_types.proofs.BoardTests.{no_truth}
use Rattle.sync_types.proofs.Replays.{run_is_replay}
use Rattle.sync_types.specs.Boards.{State as Doing, IsRunning, first_board, grant_in, is_running}
use Rattle.sync_types.specs.GoingOn.{Going}
use Rattle.sync_types.specs.Runs.{Stage, as_list, after_turn, first_stage, stage_after}
use Rattle.sync_types.specs.Starts.{IsSound}
use Rattle.sync_types.specs.Turns.{after_moves, after_step, goings_in_step}
use Rattle.sync_types.specs.declared.Grant.{Grant}
use Rattle.sync_types.specs.declared.Item.{Item}
use Rattle.zone_stretches.proofs.EventLaws.{own_name}
use Rattle.zone_stretches.specs.Occurrences.{OccurrenceView, act_of, going_on_of, occurrences_in, occurrences_from, occurrences_of}

-- ---- one step more

-- a channel has an event in the step, or does and has what it did and had
step_keeps : (doings : Doings) (stage : Stage) (p i c : ℕ) → IsRunBoard stage.board → is_running (stage.board.state p) ≡ true
    → (0 < length (filter (λ o. o.channel == c) (occurrences_in i (doings.script p (stage.grants p)) (happening_of stage.board p (doings.script p (stage.grants p))))))
    ⊎ ((length (filter (λ o. o.channel == c) (occurrences_in i (doings.script p (stage.grants p)) (happening_of stage.board p (doings.script p (stage.grants p))))) ≡ 0)
    × ((after_turn doings.script stage p).board.state c ≡ stage.board.state c) × ((after_turn doings.script stage p).grants c ≡ stage.grants c))
step_keeps doings stage p i c zs running = by_case (cases_Bool (p == c)) (going_of (goings_in_step stage.board p (doings.script p (stage.grants p))) c) refl
  where
    count : (xs : List OccurrenceView) → cond (p == c) (act_of i (doings.script p (stage.grants p)) (happening_of stage.board p (doings.script p (stage.grants p))) ∷ []) []
        ++ map (going_on_of i (goings_in_step stage.board p (doings.script p (stage.grants p)))) (as_goings (going_of (goings_in_step stage.board p (doings.script p (stage.grants p))) c)) ≡ xs
        → length (filter (λ o. o.channel == c) (occurrences_in i (doings.script p (stage.grants p)) (happening_of stage.board p (doings.script p (stage.grants p))))) ≡ length xs
    count xs is = ap length (step_events stage.board p (doings.script p (stage.grants p)) i c running zs ∙ is)

    nothing : (s : Doing) → cond (not (is_running s)) (stage.grants c ++ as_list (grant_in s)) (stage.grants c) ≡ stage.grants c
    nothing (IsRunning grant) = refl
    nothing other = append-nil (stage.grants c)

    by_case : ((p == c) ≡ true) ⊎ ((p == c) ≡ false) → (o : Option Going) → going_of (goings_in_step stage.board p (doings.script p (stage.grants p))) c ≡ o
        → (0 < length (filter (λ o. o.channel == c) (occurrences_in i (doings.script p (stage.grants p)) (happening_of stage.board p (doings.script p (stage.grants p))))))
        ⊎ ((length (filter (λ o. o.channel == c) (occurrences_in i (doings.script p (stage.grants p)) (happening_of stage.board p (doings.script p (stage.grants p))))) ≡ 0)
        × ((after_turn doings.script stage p).board.state c ≡ stage.board.state c) × ((after_turn doings.script stage p).grants c ≡ stage.grants c))
    by_case (inl same) o e =
        let n = count (act_of i (doings.script p (stage.grants p)) (happening_of stage.board p (doings.script p (stage.grants p))) ∷ map (going_on_of i (goings_in_step stage.board p (doings.script p (stage.grants p)))) (as_goings (going_of (goings_in_step stage.board p (doings.script p (stage.grants p))) c))) (rw same refl) in
        inl (omega (arith, n))
    by_case (inr apart) (Some g) e =
        let n = count (going_on_of i (goings_in_step stage.board p (doings.script p (stage.grants p))) g ∷ []) (rw (apart, e) refl) in inl (omega (arith, n))
    by_case (inr apart) None e =
        let out = none_in (goings_in_step stage.board p (doings.script p (stage.grants p))) c e in
        let off : (c == p) ≡ false = ne_eqb c p (λ same. no_truth (p == c) (eq-eqb p c (sym same)) apart) in
        let same : (after_step stage.board p (doings.script p (stage.grants p))).state c ≡ stage.board.state c =
        kept_state stage.board p (doings.script p (stage.grants p)) zs running c out ∙ part_other stage.board p (doings.script p (stage.grants p)) zs running c off (not_started stage.board p (doings.script p (stage.grants p)) zs running c out) in
        inr (count [] (rw (apart, e) refl), same, rw (off, same) (nothing (stage.board.state c)))

module _ (job : JobView) (doings : Doings) (sound : IsSound (start_of job)) where
  abbrev first : Stage
  first = first_stage (start_of job)

  pub run_zones : (cs : List ℕ) (s : Stage) → IsRunBoard s.board → IsRunBoard (stage_after doings.script s cs).board
  run_zones [] s zs = zs
  run_zones (d ∷ cs) s zs = run_zones cs (after_turn doings.script s d) (run_board_step s.board d (doings.script d (s.grants d)) zs)

  -- the number of a span is that of the channel's events
  span_counts : (cs : List ℕ) (c : ℕ) → IsRunOf doings.script (start_of job) cs
      → length (events_of (first_board (start_of job)) (moves_by doings.script (start_of job) cs) c) ≡ length (filter (λ o. o.channel == c) (occurrences_from (first_board (start_of job)) 0 (moves_by doings.script (start_of job) cs)))
  unfolding occurrences_of
  span_counts cs c run =
      ap length (sym (own_names (first_board (start_of job)) (moves_by doings.script (start_of job) cs) c (run_is_replay doings.script first cs run).running (run_board_first (start_of job) sound)))
      ∙ length-map (filter (λ o. o.channel == c) (occurrences_from (first_board (start_of job)) 0 (moves_by doings.script (start_of job) cs))) own_name

  -- one more step adds the events of the channel in it
  pub spans_add : (cs : List ℕ) (p c : ℕ) → IsRunOf doings.script (start_of job) cs → is_running ((stage_after doings.script first cs).board.state p) ≡ true
      → length (events_of (first_board (start_of job)) (moves_by doings.script (start_of job) (cs ++ p ∷ [])) c)
      ≡ length (events_of (first_board (start_of job)) (moves_by doings.script (start_of job) cs) c)
      + length (filter (λ o. o.channel == c) (occurrences_in (length (moves_by doings.script (start_of job) cs)) (doings.script p ((stage_after doings.script first cs).grants p))
      (happening_of (stage_after doings.script first cs).board p (doings.script p ((stage_after doings.script first cs).grants p)))))
  spans_add cs p c run on =
      let stage = stage_after doings.script first cs in
      let step = doings.script p (stage.grants p) in
      let ms = moves_by doings.script (start_of job) cs in
      let here : ℕ → List OccurrenceView = λ n. occurrences_in n step (happening_of stage.board p step) in
      let old = span_counts cs c run in
      let new = span_counts (cs ++ p ∷ []) c (run_more doings.script first cs p run on) in
      let end : after_moves (first_board (start_of job)) ms ≡ stage.board = (run_is_replay doings.script first cs run).board in
      let place : 0 + length ms ≡ length ms = omega arith in
      let parts : occurrences_from (first_board (start_of job)) 0 (moves_by doings.script (start_of job) (cs ++ p ∷ [])) ≡ occurrences_from (first_board (start_of job)) 0 ms ++ here (length ms) =
      ap (occurrences_from (first_board (start_of job)) 0) (moves_joined doings.script first cs (p ∷ []))
      ∙ events_joined ms (record { channel = p; step = step } ∷ []) (first_board (start_of job)) 0
      ∙ ap (λ b. occurrences_from (first_board (start_of job)) 0 ms ++ (occurrences_in (0 + length ms) step (happening_of b p step) ++ [])) end
      ∙ ap (λ (os : List OccurrenceView). occurrences_from (first_board (start_of job)) 0 ms ++ os) (append-nil (here (0 + length ms)) ∙ ap here place) in
      let count : length (filter (λ o. o.channel == c) (occurrences_from (first_board (start_of job)) 0 (moves_by doings.script (start_of job) (cs ++ p ∷ []))))
      ≡ length (filter (λ o. o.channel == c) (occurrences_from (first_board (start_of job)) 0 ms)) + length (filter (λ o. o.channel == c) (here (length ms))) =
      ap (λ (os : List OccurrenceView). length (filter (λ o. o.channel == c) os)) parts
      ∙ ap length (filter-append (λ o. o.channel == c) (occurrences_from (first_board (start_of job)) 0 ms) (here (length ms)))
      ∙ length-append (filter (λ o. o.channel == c) (occurrences_from (first_board (start_of job)) 0 ms)) (filter (λ o. o.channel == c) (here (length ms))) in
      omega (arith, old, new, count)

  pub spans_grow : (cs : List ℕ) (p c : ℕ) → IsRunOf doings.script (start_of job) cs → is_running ((stage_after doings.script first cs).board.state p) ≡ true
      → (length (events_of (first_board (start_of job)) (moves_by doings.script (start_of job) cs) c) < length (events_of (first_board (start_of job)) (moves_by doings.script (start_of job) (cs ++ p ∷ [])) c))
      ⊎ ((length (events_of (first_board (start_of job)) (moves_by doings.script (start_of job) (cs ++ p ∷ [])) c) ≡ length (events_of (first_board (start_of job)) (moves_by doings.script (start_of job) cs) c))
      × ((stage_after doings.script first (cs ++ p ∷ [])).board.state c ≡ (stage_after doings.script first cs).board.state c)
      × ((stage_after doings.script first (cs ++ p ∷ [])).grants c ≡ (stage_after doings.script first cs).grants c))
  spans_grow cs p c run on =
      let stage = stage_after doings.script first cs in
      let added = spans_add cs p c run on in
      let joined = stage_joined doings.script first cs (p ∷ []) in
      elim (step_keeps doings stage p (length (moves_by doings.script (start_of job) cs)) c (run_zones cs first (run_board_first (start_of job) sound)) on) [
        | inl some ↦ inl (omega (arith, some, added))
        | inr none ↦
            let zero_more = none.0 in
            inr (omega (arith, zero_more, added), ap (λ (s : Stage). s.board.state c) joined ∙ none.1, ap (λ (s : Stage). s.grants c) joined ∙ none.2)
      ]

  -- ---- states

  -- a spot is of a span up to the present one; one of the present span is at a place of the items that the channel makes
  pub record IsSpot (state : State) (c : ℕ) (spot : Spot) : Type 0 where
    pub upto : spot.span ≤ span_number job doings state c
    pub placed : spot.span ≡ span_number job doings state c → (runs job doings state c ≡ true) × IsAtPlace (begins_at job doings state c) (items_now job doings state c) spot.place spot.point

  pub record WellSpotted (state : State) : Type 0 where
    pub run : IsRunOf doings.script (start_of job) state.run
    pub spots : (c : ℕ) → IfSome (state.spots c) (IsSpot state c)

  abbrev after_act : State → ℕ → State
  after_act state p = record { run = state.run ++ p ∷ []; spots = state.spots }

  pub begins_same : (state : State) (p c : ℕ) → is_running ((stage_after doings.script first (state.run ++ p ∷ [])).board.state c) ≡ is_running ((stage_after doings.script first state.run).board.state c)
      → (stage_after doings.script first (state.run ++ p ∷ [])).grants c ≡ (stage_after doings.script first state.run).grants c → begins_at job doings (after_act state p) c ≡ begins_at job doings state c
  unfolding begins_at runs
  begins_same state p c doing grants = ap₂ (λ (t : Bool) (gs : List Grant). cond t (stands_before job doings c gs) (stands_after job doings c gs)) doing grants

  pub items_same : (state : State) (p c : ℕ) → (stage_after doings.script first (state.run ++ p ∷ [])).grants c ≡ (stage_after doings.script first state.run).grants c → items_now job doings (after_act state p) c ≡ items_now job doings state c
  unfolding items_now
  items_same state p c grants = ap (doings.items c) grants

  acted : (state : State) (p c : ℕ) (spot : Spot) → IsRunOf doings.script (start_of job) state.run → runs job doings state p ≡ true → IsSpot state c spot → IsSpot (record { run = state.run ++ p ∷ []; spots = state.spots }) c spot
  unfolding span_number runs
  acted state p c spot run on is = elim (spans_grow state.run p c run on) [
    | inl more ↦ record { upto = let old = is.upto in omega (arith, more, old); placed = λ same. let old = is.upto in absurd (omega (arith, more, old, same)) }
    | inr kept ↦ record {
      upto = let old = is.upto in let number = kept.0 in omega (arith, old, number);
      placed = λ same.
          let old = is.placed (same ∙ kept.0) in
          let doing : is_running ((stage_after doings.script first (state.run ++ p ∷ [])).board.state c) ≡ is_running ((stage_after doings.script first state.run).board.state c) = ap is_running kept.1 in (
            doing ∙ old.0,
            subst (λ (at : ℕ → ℤ). IsAtPlace at (items_now job doings (after_act state p) c) spot.place spot.point) (sym (begins_same state p c doing kept.2))
                (subst (λ (items : List Item). IsAtPlace (begins_at job doings state c) items spot.place spot.point) (sym (items_same state p c kept.2)) old.1),
          );
    }
  ]

  step_spotted : (state : State) (step : SmallStep) → WellSpotted state → IsLawfulStep job doings state step → WellSpotted (after_small_step job doings state step)
  unfolding after_small_step IsLawfulStep runs span_number items_now begins_at
  step_spotted state (Act p) w lawful = record {
    run = run_more doings.script first state.run p w.run lawful.0;
    spots = λ c. by_spot c (state.spots c) (w.spots c);
  }
    where
      by_spot : (c : ℕ) (o : Option Spot) → IfSome o (IsSpot state c) → IfSome o (IsSpot (record { run = state.run ++ p ∷ []; spots = state.spots }) c)
      by_spot c None is = tt
      by_spot c (Some spot) is = acted state p c spot w.run lawful.0 is
  step_spotted state (Advance p place point) w lawful = record {
    run = w.run;
    spots = λ c. by_channel c (cases_eq c p);
  }
    where
      same_spot : (c : ℕ) (spot : Spot) → IsSpot state c spot → IsSpot (record { run = state.run; spots = λ other. cond (other == p) (Some (record { span = span_number job doings state p; place = place; point = point })) (state.spots other) }) c spot
      same_spot c spot is = record { upto = is.upto; placed = is.placed }

      by_channel : (c : ℕ) → (c ≡ p) ⊎ (c ≡ p → ⊥) → IfSome (cond (c == p) (Some (record { span = span_number job doings state p; place = place; point = point })) (state.spots c))
          (IsSpot (record { run = state.run; spots = λ other. cond (other == p) (Some (record { span = span_number job doings state p; place = place; point = point })) (state.spots other) }) c)
      by_channel c (inl same) = rw (eq-eqb c p same) (same_spot c _ (subst (λ d. IsSpot state d (record { span = span_number job doings state p; place = place; point = point })) (sym same) (record { upto = omega arith; placed = λ e. (lawful.0, lawful.2) })))
      by_channel c (inr apart) = rw (ne_eqb c p apart) (by_spot (state.spots c) (w.spots c))
        where
          by_spot : (o : Option Spot) → IfSome o (IsSpot state c) → IfSome o (IsSpot (record { run = state.run; spots = λ other. cond (other == p) (Some (record { span = span_number job doings state p; place = place; point = point })) (state.spots other) }) c)
          by_spot None is = tt
          by_spot (Some spot) is = same_spot c spot is

  -- every state that lawful small steps reach
  pub well_spotted : (state : State) (steps : List SmallStep) → WellSpotted state → AreLawfulSteps job doings state steps → WellSpotted (after_small_steps job doings state steps)
  well_spotted state [] w lawful = w
  well_spotted state (step ∷ steps) w lawful = well_spotted (after_small_step job doings state step) steps (step_spotted state step w lawful.0) lawful.1

  pub opening_spotted : WellSpotted opening
  unfolding opening
  opening_spotted = record { run = tt; spots = λ c. tt }
