-- Where the axes of a channel stand is where its events tell them.
use Rattle.std.proofs.Math.Path.{fun_ext}
use Rattle.std.proofs.Common.{◌≡◌, ◌∙◌, ℕ, ℤ, suc, Bool, true, false, cond, not, ◌==◌, List, [], ◌∷◌, ◌++◌, append-nil, append_assoc, map, filter, Option, None, Some, unwrap_or, inl, inr, refl, sym, ap, subst}
use Rattle.std.proofs.lemmas.Bool.{cases_Bool, eqb-true, eq-eqb, ne_eqb}
use Rattle.std.proofs.lemmas.List.{map-append}
use Rattle.std.proofs.lemmas.List.Elements.{filter-append}
use Rattle.axis_sets.specs.Positions.{position_of}
use Rattle.channel_machine.specs.StartStates.{start_of}
use Rattle.job_types.specs.Axes.{start_position}
use Rattle.job_types.specs.Job.{JobView}
use Rattle.job_types.specs.SoundJob.{IsSoundJob}
use Rattle.order_clocks.specs.Happenings.{going_of, happening_of}
use Rattle.schedule_laws.specs.Schedules.{IsRunOf}
use Rattle.speed_laws.proofs.Grants.{first_grant, granted_there}
use Rattle.speed_laws.proofs.Histories.{found_in, none_in}
use Rattle.speed_laws.proofs.JoinedRuns.{run_first, run_rest, stage_joined}
use Rattle.speed_laws.proofs.PresentSpans.{at_after}
use Rattle.speed_laws.proofs.RunBoards.{IsRunBoard, run_board_first, run_board_step}
use Rattle.speed_laws.proofs.StepEvents.{ActorTold, actor_told, as_goings, goes_on, goes_waited, kept_state, not_started, part_other, step_events}
use Rattle.speed_laws.specs.DoingLaws.{TellsWhereAxesStand, TellWhereAxesStand}
use Rattle.speed_laws.specs.Doings.{Doings, stands_with, stands_before, stands_after}
use Rattle.speed_laws.specs.Histories.{Telling, telling_of}
use Rattle.sync_types.proofs.BoardTests.{no_truth}
use Rattle.sync_types.proofs.Positions.{left_at-nil}
use Rattle.sync_types.specs.BoardActions.{after_own_part}
use Rattle.sync_types.specs.Boards.{State, IsIdle, IsRunning, first_board, first_state, grant_in, is_running}
use Rattle.sync_types.specs.GoingOn.{Going}
use Rattle.sync_types.specs.Items.{left_at}
use Rattle.sync_types.specs.Runs.{Stage, IsRun, as_list, gets_a_grant, after_turn, first_stage, moves_of, stage_after}
use Rattle.sync_types.specs.Starts.{IsSound, runs_at_first}
use Rattle.sync_types.specs.Turns.{after_step, goings_in_step}
use Rattle.sync_types.specs.declared.Grant.{Grant}
use Rattle.sync_types.specs.declared.Item.{Item}
use Rattle.sync_types.specs.declared.Step.{Step}
use Rattle.zone_stretches.specs.Occurrences.{OccurrenceView, act_of, going_on_of, occurrences_in, occurrences_from}

at_append : (at : ℕ → ℤ) (ts us : List Telling) → at_after at (ts ++ us) ≡ at_after (at_after at ts) us
at_append at [] us = refl
at_append at (t ∷ ts) us = at_append (λ axis. unwrap_or (position_of t.at axis) (at axis)) ts us

-- one grant more
with_more : (items : List Grant → List Item) (made : List Grant) (at : ℕ → ℤ) (gs : List Grant) (g : Grant)
    → stands_with items made at (gs ++ g ∷ []) ≡ (λ axis. unwrap_or (position_of g.at axis) (left_at (items (made ++ gs)) (stands_with items made at gs) axis))
with_more items made at [] g = ap {B = ℕ → ℤ} (λ (ms : List Grant) (axis : ℕ). unwrap_or (position_of g.at axis) (left_at (items ms) at axis)) (sym (append-nil made))
with_more items made at (h ∷ gs) g =
    let next : ℕ → ℤ = λ axis. unwrap_or (position_of h.at axis) (left_at (items made) at axis) in
    with_more items (made ++ h ∷ []) next gs g
    ∙ ap {B = ℕ → ℤ} (λ (ms : List Grant) (axis : ℕ). unwrap_or (position_of g.at axis) (left_at (items ms) (stands_with items (made ++ h ∷ []) next gs) axis)) (append_assoc made (h ∷ []) gs)

module _ (job : JobView) (doings : Doings) where
  -- where a channel has its axes as its span begins that runs, or does not
  abbrev pub stands_at : ℕ → Bool → List Grant → ℕ → ℤ
  stands_at c runs grants = cond runs (stands_before job doings c grants) (stands_after job doings c grants)

  pub before_more : (c : ℕ) (gs : List Grant) (g : Grant) → stands_before job doings c (gs ++ g ∷ []) ≡ (λ axis. unwrap_or (position_of g.at axis) (stands_after job doings c gs axis))
  unfolding stands_before stands_after
  before_more c gs g = with_more (doings.items c) [] (start_position job) gs g

  -- ---- one step

  module _ (stage : Stage) (p i : ℕ) (rows : List (List Item)) (zs : IsRunBoard stage.board) (running : is_running (stage.board.state p) ≡ true) (tells : TellsWhereAxesStand job doings p (stage.grants p)) where
    abbrev step : Step
    step = doings.script p (stage.grants p)

    abbrev goings : List Going
    goings = goings_in_step stage.board p step

    abbrev state_next : ℕ → State
    state_next c = (after_step stage.board p step).state c

    abbrev added : ℕ → List Grant
    added c = cond (gets_a_grant stage.board p c) (as_list (grant_in (state_next c))) []

    abbrev events : ℕ → List OccurrenceView
    events c = cond (p == c) (act_of i step (happening_of stage.board p step) ∷ []) [] ++ map (going_on_of i goings) (as_goings (going_of goings c))

    abbrev Stands : ℕ → Type 0
    Stands c = at_after (stands_at c (is_running (stage.board.state c)) (stage.grants c)) (map (telling_of rows) (events c)) ≡ stands_at c (is_running (state_next c)) (stage.grants c ++ added c)

    tells_is : (λ axis. unwrap_or (position_of step.at axis) (stands_before job doings p (stage.grants p) axis)) ≡ stands_after job doings p (stage.grants p)
    tells_is = fun_ext λ axis. tells.tells axis

    runs_on : (s : State) → ((grant : Grant) → s ≡ IsRunning grant → (axis : ℕ) → position_of grant.at axis ≡ None) → stands_after job doings p (stage.grants p) ≡ stands_at p (is_running s) (stage.grants p ++ as_list (grant_in s))
    runs_on (IsRunning grant) plain =
        sym (before_more p (stage.grants p) grant ∙ fun_ext λ axis. ap (λ (o : Option ℤ). unwrap_or o (stands_after job doings p (stage.grants p) axis)) (plain grant refl axis))
    runs_on other plain = ap (stands_after job doings p) (sym (append-nil (stage.grants p)))

    actor : Stands p
    actor = rw (running, eq-eqb p p refl) (by_going (going_of goings p) refl)
      where
        by_going : (o : Option Going) → going_of goings p ≡ o
            → at_after (λ axis. unwrap_or (position_of step.at axis) (stands_before job doings p (stage.grants p) axis)) (map (telling_of rows) (map (going_on_of i goings) (as_goings (going_of goings p))))
            ≡ stands_at p (is_running (state_next p)) (stage.grants p ++ as_list (grant_in (state_next p)))
        by_going (Some g) e =
            let f = found_in goings p g e in
            let now : state_next p ≡ IsRunning g.grant = ap state_next (sym f.1) ∙ (goes_on stage.board p step zs running g f.0).runs in
            rw (e, now, tells_is) (sym (before_more p (stage.grants p) g.grant))
        by_going None e =
            let now : state_next p ≡ (after_own_part stage.board p step).state p = kept_state stage.board p step zs running p (none_in goings p e) in
            let told = subst (ActorTold stage.board p step zs running) (sym now) (actor_told stage.board p step zs running) in
            rw (e, tells_is) (runs_on (state_next p) told.plain)

    other : (c : ℕ) → (c == p) ≡ false → (p == c) ≡ false → Stands c
    other c off off' = by_going (going_of goings c) refl
      where
        nothing : (s : State) → cond (not (is_running s)) (as_list (grant_in s)) [] ≡ []
        nothing (IsRunning grant) = refl
        nothing other = refl

        by_going : (o : Option Going) → going_of goings c ≡ o → Stands c
        by_going (Some g) e =
            let f = found_in goings c g e in
            let now : state_next c ≡ IsRunning g.grant = ap state_next (sym f.1) ∙ (goes_on stage.board p step zs running g f.0).runs in
            let was = goes_waited stage.board p step zs running g c f.0 f.1 off in
            let gets : added c ≡ g.grant ∷ [] = rw (off, was.0, now) refl in
            rw (gets, was.0, now, off', e) (sym (before_more c (stage.grants c) g.grant))
        by_going None e =
            let out = none_in goings c e in
            let same : state_next c ≡ stage.board.state c =
            kept_state stage.board p step zs running c out ∙ part_other stage.board p step zs running c off (not_started stage.board p step zs running c out) in
            let gets : added c ≡ [] = rw (off, same) (nothing (stage.board.state c)) in
            rw (gets, append-nil (stage.grants c), off', e, same) refl

    pub step_stands : (c : ℕ) → Stands c
    step_stands c = elim (cases_Bool (p == c)) [
      | inl same ↦ subst (λ d. Stands d) (eqb-true p c same) actor
      | inr off ↦ other c (ne_eqb c p (λ e. no_truth (p == c) (eq-eqb p c (sym e)) off)) off
    ]

    pub grants_next : (c : ℕ) → (after_turn doings.script stage p).grants c ≡ stage.grants c ++ added c
    grants_next c = by_test (gets_a_grant stage.board p c)
      where
        by_test : (t : Bool) → cond t (stage.grants c ++ as_list (grant_in (state_next c))) (stage.grants c) ≡ stage.grants c ++ cond t (as_list (grant_in (state_next c))) []
        by_test true = refl
        by_test false = sym (append-nil (stage.grants c))

  -- ---- all steps

  abbrev AllTell : Stage → List ℕ → Type 0
  AllTell stage [] = Unit {0}
  AllTell stage (p ∷ cs) = TellsWhereAxesStand job doings p (stage.grants p) × AllTell (after_turn doings.script stage p) cs

  all_stand : (cs : List ℕ) (stage : Stage) (i : ℕ) (rows : List (List Item)) (c : ℕ) → IsRunBoard stage.board → IsRun doings.script stage cs → AllTell stage cs
      → at_after (stands_at c (is_running (stage.board.state c)) (stage.grants c)) (map (telling_of rows) (filter (λ o. o.channel == c) (occurrences_from stage.board i (moves_of doings.script stage cs))))
      ≡ stands_at c (is_running ((stage_after doings.script stage cs).board.state c)) ((stage_after doings.script stage cs).grants c)
  all_stand [] stage i rows c zs run tell = refl
  all_stand (p ∷ cs) stage i rows c zs run tell =
      let step = doings.script p (stage.grants p) in
      let next = after_turn doings.script stage p in
      let at = stands_at c (is_running (stage.board.state c)) (stage.grants c) in
      let here = filter (λ o. o.channel == c) (occurrences_in i step (happening_of stage.board p step)) in
      let there = filter (λ o. o.channel == c) (occurrences_from next.board (suc i) (moves_of doings.script next cs)) in
      ap (λ (os : List OccurrenceView). at_after at (map (telling_of rows) os)) (filter-append (λ o. o.channel == c) (occurrences_in i step (happening_of stage.board p step)) (occurrences_from next.board (suc i) (moves_of doings.script next cs)))
      ∙ ap (at_after at) (map-append (telling_of rows) here there)
      ∙ at_append at (map (telling_of rows) here) (map (telling_of rows) there)
      ∙ ap (λ (os : List OccurrenceView). at_after (at_after at (map (telling_of rows) os)) (map (telling_of rows) there)) (step_events stage.board p step i c run.0 zs)
      ∙ ap (λ (f : ℕ → ℤ). at_after f (map (telling_of rows) there)) (step_stands stage p i rows zs run.0 tell.0 c ∙ ap (stands_at c (is_running (next.board.state c))) (sym (grants_next stage p i rows zs run.0 tell.0 c)))
      ∙ all_stand cs next (suc i) rows c (run_board_step stage.board p step zs) run.1 tell.1

  -- in every run
  tell_rest : TellWhereAxesStand job doings → (xs ys : List ℕ) → IsRunOf doings.script (start_of job) (xs ++ ys) → AllTell (stage_after doings.script (first_stage (start_of job)) xs) ys
  tell_rest tell xs [] run = tt
  tell_rest tell xs (y ∷ ys) run =
      let stage = stage_after doings.script (first_stage (start_of job)) xs in
      let whole : (xs ++ y ∷ []) ++ ys ≡ xs ++ y ∷ ys = append_assoc xs (y ∷ []) ys in
      let rest = tell_rest tell (xs ++ y ∷ []) ys (subst (IsRunOf doings.script (start_of job)) (sym whole) run) in
      let on = run_rest doings.script (first_stage (start_of job)) xs (y ∷ ys) run in (
        tell.in_runs xs y (run_first doings.script (first_stage (start_of job)) xs (y ∷ ys) run) on.0,
        subst (λ s. AllTell s ys) (stage_joined doings.script (first_stage (start_of job)) xs (y ∷ [])) rest,
      )

  pub nothing_done : (c : ℕ) → doings.items c [] ≡ [] → left_at (doings.items c []) (start_position job) ≡ start_position job
  nothing_done c none = ap (λ (items : List Item). left_at items (start_position job)) none ∙ fun_ext λ axis. left_at-nil (start_position job) axis

  stand_first : IsSoundJob job → TellWhereAxesStand job doings → (c : ℕ) → stands_at c (is_running ((first_stage (start_of job)).board.state c)) ((first_stage (start_of job)).grants c) ≡ start_position job
  unfolding stands_before stands_after first_state
  stand_first sound tell c = by_start (runs_at_first (start_of job) c)
    where
      by_start : (t : Bool) → stands_at c (is_running (cond t (IsRunning (first_grant job c)) IsIdle)) (as_list (grant_in (cond t (IsRunning (first_grant job c)) IsIdle))) ≡ start_position job
      by_start true =
          fun_ext λ axis. ap (λ (at : ℕ → ℤ). unwrap_or (position_of (first_grant job c).at axis) (at axis)) (nothing_done c (tell.idle c)) ∙ granted_there job sound c axis
      by_start false = nothing_done c (tell.idle c)

  -- where the events of the run tell that the axes of a channel stand, there its present span begins
  pub made_stand : IsSoundJob job → TellWhereAxesStand job doings → (cs : List ℕ) → IsSound (start_of job) → IsRunOf doings.script (start_of job) cs → (rows : List (List Item)) (c : ℕ)
      → at_after (start_position job) (map (telling_of rows) (filter (λ o. o.channel == c) (occurrences_from (first_board (start_of job)) 0 (moves_of doings.script (first_stage (start_of job)) cs))))
      ≡ stands_at c (is_running ((stage_after doings.script (first_stage (start_of job)) cs).board.state c)) ((stage_after doings.script (first_stage (start_of job)) cs).grants c)
  made_stand sound tell cs sound_start run rows c =
      ap (λ (at : ℕ → ℤ). at_after at (map (telling_of rows) (filter (λ o. o.channel == c) (occurrences_from (first_board (start_of job)) 0 (moves_of doings.script (first_stage (start_of job)) cs))))) (sym (stand_first sound tell c))
      ∙ all_stand cs (first_stage (start_of job)) 0 rows c (run_board_first (start_of job) sound_start) run (tell_rest tell [] cs run)
