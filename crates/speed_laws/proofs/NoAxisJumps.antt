-- No axis jumps where a channel acts.
use Rattle.std.proofs.Common.{◌≡◌, ◌⊎◌, ◌∙◌, ℕ, ℤ, ◌<◌, true, false, List, [], ◌∷◌, ◌++◌, Option, None, Some, unwrap_or, inl, inr, refl, sym, ap, subst}
use Rattle.std.specs.Prelude.{is_some}
use Rattle.std.specs.Option.{option_map_or}
use Rattle.std.proofs.lemmas.Bool.{cases_Bool, eq-eqb}
use Rattle.axis_sets.specs.Positions.{position_of}
use Rattle.axis_sets.specs.declared.limits.TheConstants.{AXIS_LIMIT}
use Rattle.channel_machine.proofs.StartLaws.{start_sound}
use Rattle.channel_machine.specs.StartStates.{start_of}
use Rattle.job_types.specs.Job.{JobView}
use Rattle.job_types.specs.SoundJob.{IsSoundJob}
use Rattle.number_laws.specs.Fractions.{Fraction, IsSame, whole}
use Rattle.order_clocks.specs.Happenings.{going_of}
use Rattle.schedule_laws.specs.Schedules.{IsRunOf}
use Rattle.speed_laws.proofs.Grants.{position_is}
use Rattle.speed_laws.proofs.Hands.{found_once}
use Rattle.speed_laws.proofs.HandedAxes.{Keeps, LetsGo, Takes, axis_below, final_axis, keeps_first, keeps_run, part_axis, part_known, told}
use Rattle.speed_laws.proofs.Histories.{found_in}
use Rattle.speed_laws.proofs.RunBoards.{IsRunBoard, run_board_first}
use Rattle.speed_laws.proofs.RunPlaces.{WellSpotted, opening_spotted, well_spotted}
use Rattle.speed_laws.proofs.Standing.{nothing_done}
use Rattle.speed_laws.proofs.Positions.{one_under}
use Rattle.speed_laws.proofs.StepEvents.{once}
use Rattle.speed_laws.proofs.StepSpots.{HasEvent, begins_anew, event_begins, event_or_rests, event_stood, goes_event, stage_next, told_by, zones_then}
use Rattle.speed_laws.specs.DoingLaws.{AreSound, TellsWhereAxesStand, TellsWhereItsAxesStand, stage_by}
use Rattle.speed_laws.specs.Doings.{Doings, stands_after, stands_before}
use Rattle.speed_laws.specs.Places.{IsAtEnd}
use Rattle.speed_laws.specs.Safety.{NoAxisJumps, owner_now, position_now, fraction_of}
use Rattle.speed_laws.specs.SmallSteps.{items_now, place_zero, runs, spot_now, stage_in, after_small_step, after_small_steps, IsLawfulStep, Spot, State, opening}
use Rattle.sync_types.proofs.BoardTests.{no_truth}
use Rattle.sync_types.specs.BoardActions.{after_own_part, position_or_zero}
use Rattle.sync_types.specs.Boards.{Board, Ownership, OwnedBy, FreeAt, among, is_free, is_idle, is_running, owner_of}
use Rattle.sync_types.specs.GoingOn.{Going, resting_position}
use Rattle.sync_types.specs.Runs.{Stage, first_stage}
use Rattle.sync_types.specs.Starts.{first_position, has_axis}
use Rattle.sync_types.specs.Turns.{after_step, goings_in_step}
use Rattle.sync_types.specs.Views.{StartView}
use Rattle.sync_types.specs.declared.Grant.{Grant}
use Rattle.sync_types.specs.declared.Step.{Step}

-- where an axis is, by who has it
abbrev position_by : (ℕ → Fraction) → Ownership → Fraction
position_by at (OwnedBy c) = at c
position_by at (FreeAt position) = whole position

by_ownership : (b : Board) (x : ℕ) (at : ℕ → Fraction) (a : Ownership) → option_map_or at (owner_of a) (whole (resting_position b x a)) ≡ position_by at a
by_ownership b x at (OwnedBy c) = refl
by_ownership b x at (FreeAt position) = refl

owned_by : (a : Ownership) (c : ℕ) → owner_of a ≡ Some c → a ≡ OwnedBy c
owned_by (OwnedBy d) c is = let same : d ≡ c = cc in ap OwnedBy same
owned_by (FreeAt position) c is = absurd cc

module _ (job : JobView) (doings : Doings) (sound : IsSoundJob job) (are : AreSound job doings) (state : State) (well : WellSpotted job doings (start_sound job sound) state) (p : ℕ)
    (on : is_running ((stage_in job doings state).board.state p) ≡ true) (end : IsAtEnd (items_now job doings state p) (spot_now job doings state p).place (spot_now job doings state p).point)
    (places : TellsWhereItsAxesStand doings (stage_in job doings state) p) where
  abbrev stage : Stage
  stage = stage_in job doings state

  abbrev board : Board
  board = (stage_in job doings state).board

  abbrev step : Step
  step = doings.script p ((stage_in job doings state).grants p)

  abbrev goings : List Going
  goings = goings_in_step board p step

  abbrev part : Board
  part = after_own_part board p step

  abbrev final : Board
  final = after_step board p step

  abbrev next : State
  next = record { run = state.run ++ p ∷ []; spots = state.spots }

  zones : IsRunBoard board
  zones = zones_then job doings (start_sound job sound) state well p on

  tells : TellsWhereAxesStand job doings p (stage.grants p)
  tells = are.tell.in_runs state.run p well.run on

  keeps : Keeps (start_of job) stage
  keeps = keeps_run doings.script (start_of job) (first_stage (start_of job)) state.run (run_board_first (start_of job) (start_sound job sound)) well.run (keeps_first (start_of job))

  abbrev Event : ℕ → Type 0
  Event c = HasEvent job doings (start_sound job sound) state well p on c

  abbrev was : ℕ → ℕ → Fraction
  was axis c = fraction_of (spot_now job doings state c).point axis

  abbrev is : ℕ → ℕ → Fraction
  is axis c = fraction_of (spot_now job doings next c).point axis

  position_before : (axis : ℕ) → position_now job doings state axis ≡ position_by (was axis) (board.axis axis)
  unfolding position_now owner_now
  position_before axis = by_ownership board axis (was axis) (board.axis axis)

  position_after : (axis : ℕ) → position_now job doings next axis ≡ position_by (is axis) (final.axis axis)
  unfolding position_now owner_now
  position_after axis =
      by_ownership (stage_in job doings next).board axis (is axis) ((stage_in job doings next).board.axis axis)
      ∙ ap (λ (s : Stage). position_by (is axis) (s.board.axis axis)) (stage_next job doings (start_sound job sound) state well p on)

  -- where an axis is then of who has an event
  after_event : (axis c : ℕ) → Event c → is axis c ≡ whole (unwrap_or (told_by (going_of goings c) axis) (stands_after job doings c (stage.grants c) axis))
  unfolding place_zero
  after_event axis c event =
      ap (λ (s : Spot). fraction_of s.point axis) (begins_anew job doings (start_sound job sound) state well p on c event)
      ∙ ap whole (event_begins job doings (start_sound job sound) state well p on tells c event axis)

  -- ---- an axis that is free after the own part

  free_before : (axis : ℕ) → is_free (part.axis axis) ≡ true → IsSame (position_by (was axis) (board.axis axis)) (whole (resting_position part axis (part.axis axis)))
  free_before axis free = elim (part_axis board p step axis) [
    | inl same ↦ subst (λ (a : Ownership). IsSame (position_by (was axis) (board.axis axis)) (whole (resting_position part axis a))) (sym same) (stays_free (board.axis axis) (sym (ap is_free same) ∙ free))
    | inr go ↦
        let owner : board.axis axis ≡ OwnedBy p = owned_by (board.axis axis) p go.owner in
        subst (λ (a : Ownership). IsSame (position_by (was axis) a) (whole (resting_position part axis (part.axis axis)))) (sym owner)
        (subst (λ (a : Ownership). IsSame (was axis p) (whole (resting_position part axis a))) (sym go.free) (let_go go))
  ]
    where
      stays_free : (a : Ownership) → is_free a ≡ true → IsSame (position_by (was axis) a) (whole (resting_position part axis a))
      stays_free (OwnedBy c) off = no_truth false off refl
      stays_free (FreeAt position) free = refl

      told_there : (o : Option ℤ) (n m : ℤ) → is_some o ≡ true → unwrap_or o n ≡ m → position_or_zero o ≡ m
      told_there (Some there) n m some same = same
      told_there None n m some same = no_truth false some refl

      below : LetsGo board p step axis → axis < AXIS_LIMIT
      below go = axis_below job sound axis (subst (λ (s : StartView). has_axis s axis ≡ true) keeps.start go.there)

      let_go : LetsGo board p step axis → IsSame (was axis p) (whole (position_or_zero (position_of step.at axis)))
      let_go go =
          let there : position_or_zero (position_of step.at axis) ≡ stands_after job doings p (stage.grants p) axis =
          told_there (position_of step.at axis) _ (stands_after job doings p (stage.grants p) axis) (places axis (below go) go.owner) (tells.tells axis) in
          subst (λ (n : ℤ). IsSame (was axis p) (whole n)) (sym there)
          (sym (one_under ((spot_now job doings state p).point.top axis))
          ∙ event_stood job doings (start_sound job sound) state well p on end p (inl (eq-eqb p p refl)) axis)

  -- somebody takes it, or it stays free
  free_after : (axis : ℕ) → is_free (part.axis axis) ≡ true → position_by (is axis) (final.axis axis) ≡ whole (resting_position part axis (part.axis axis))
  free_after axis free = elim (final_axis board p step zones on axis) [
    | inl same ↦ ap (position_by (is axis)) same ∙ stays_free (part.axis axis) free
    | inr takes ↦
        let g = takes.going in
        let found = found_once goings g (once board p step zones on) takes.within in
        let event : Event g.channel = goes_event job doings (start_sound job sound) state well p on g.channel g found in
        ap (position_by (is axis)) takes.owned ∙ after_event axis g.channel event
        ∙ ap (λ (o : Option Going). whole (unwrap_or (told_by o axis) (stands_after job doings g.channel (stage.grants g.channel) axis))) found
        ∙ ap (λ (o : Option ℤ). whole (unwrap_or o (stands_after job doings g.channel (stage.grants g.channel) axis))) (taken_told takes)
  ]
    where
      stays_free : (a : Ownership) → is_free a ≡ true → position_by (is axis) a ≡ whole (resting_position part axis a)
      stays_free (OwnedBy c) off = no_truth false off refl
      stays_free (FreeAt position) free = refl

      below : Takes board p step zones on axis → axis < AXIS_LIMIT
      below takes = axis_below job sound axis (subst (λ (s : StartView). has_axis s axis ≡ true) keeps.start
          (part_known board p step (λ c x asked. subst (λ (s : StartView). has_axis s x ≡ true) (sym keeps.start) (keeps.known c x asked)) takes.going.channel axis takes.asked))

      taken_told : (takes : Takes board p step zones on axis) → position_of takes.going.grant.at axis ≡ Some (resting_position part axis (part.axis axis))
      taken_told takes = elim (told board p step zones on axis takes.going takes.within) [
        | inl start ↦ no_truth (among takes.going.took axis) takes.took start.1
        | inr other ↦ (other.1 takes.took).1 (below takes)
      ]

  -- ---- an axis that is owned after it

  -- a channel that has got no grant has its axes where the job puts them
  at_start : (c axis : ℕ) (grants : List Grant) → grants ≡ [] → first_position board.start axis ≡ stands_after job doings c grants axis
  unfolding stands_after stands_before
  at_start c axis grants none =
      ap (λ (s : StartView). first_position s axis) keeps.start ∙ position_is job sound axis
      ∙ ap (λ (f : ℕ → ℤ). f axis) (sym (nothing_done job doings c (are.tell.idle c))) ∙ ap (λ (gs : List Grant). stands_after job doings c gs axis) (sym none)

  owned_told : (axis c : ℕ) → is_free (part.axis axis) ≡ false → unwrap_or (told_by (going_of goings c) axis) (stands_after job doings c (stage.grants c) axis) ≡ stands_after job doings c (stage.grants c) axis
  owned_told axis c owned = by_going (going_of goings c) refl
    where
      by_position : (o : Option ℤ) (n m : ℤ) → (o ≡ None) ⊎ (o ≡ Some n) → n ≡ m → unwrap_or o m ≡ m
      by_position o n m (inl none) same = rw none refl
      by_position o n m (inr some) same = rw some same

      by_going : (o : Option Going) → going_of goings c ≡ o → unwrap_or (told_by o axis) (stands_after job doings c (stage.grants c) axis) ≡ stands_after job doings c (stage.grants c) axis
      by_going None e = refl
      by_going (Some g) e =
          let f = found_in goings c g e in
          elim (told board p step zones on axis g f.0) [
            | inl start ↦ by_position (position_of g.grant.at axis) (first_position board.start axis) (stands_after job doings c (stage.grants c) axis) start.2
                (at_start c axis (stage.grants c) (keeps.fresh c (subst (λ (d : ℕ). is_idle (board.state d) ≡ true) f.1 start.0)))
            | inr other ↦ elim (cases_Bool (among g.took axis)) [
              | inl took ↦ no_truth (is_free (part.axis axis)) (other.1 took).0 owned
              | inr out ↦ rw (other.0 out) refl
            ]
          ]

  stays_owned : (axis c : ℕ) → part.axis axis ≡ OwnedBy c → IsSame (was axis c) (is axis c)
  stays_owned axis c owned = elim (event_or_rests job doings (start_sound job sound) state well p on c) [
    | inr rests ↦ subst (λ (s : Spot). IsSame (was axis c) (fraction_of s.point axis)) (sym rests.spot_same) refl
    | inl event ↦
        let after : is axis c ≡ whole (stands_after job doings c (stage.grants c) axis) = after_event axis c event ∙ ap whole (owned_told axis c (ap is_free owned)) in
        subst (IsSame (was axis c)) (sym after)
        (sym (one_under ((spot_now job doings state c).point.top axis)) ∙ event_stood job doings (start_sound job sound) state well p on end c event axis)
  ]

  owned_after : (axis c : ℕ) → part.axis axis ≡ OwnedBy c → (board.axis axis ≡ OwnedBy c) × (final.axis axis ≡ OwnedBy c)
  owned_after axis c owned = (
    elim (part_axis board p step axis) [
      | inl same ↦ sym same ∙ owned
      | inr go ↦ let bad : OwnedBy c ≡ FreeAt (position_or_zero (position_of step.at axis)) = sym owned ∙ go.free in absurd cc
    ],
    elim (final_axis board p step zones on axis) [
      | inl same ↦ same ∙ owned
      | inr takes ↦ no_truth (is_free (part.axis axis)) takes.was_free (ap is_free owned)
    ],
  )

  -- each axis is where it was
  pub stays_put : (axis : ℕ) → IsSame (position_now job doings state axis) (position_now job doings (record { run = state.run ++ p ∷ []; spots = state.spots }) axis)
  stays_put axis =
      subst (IsSame (position_now job doings state axis)) (sym (position_after axis))
      (subst (λ (f : Fraction). IsSame f (position_by (is axis) (final.axis axis))) (sym (position_before axis)) (by_part (part.axis axis) refl))
    where
      by_part : (a : Ownership) → part.axis axis ≡ a → IsSame (position_by (was axis) (board.axis axis)) (position_by (is axis) (final.axis axis))
      by_part (FreeAt position) is_so = subst (IsSame (position_by (was axis) (board.axis axis))) (sym (free_after axis (ap is_free is_so))) (free_before axis (ap is_free is_so))
      by_part (OwnedBy c) is_so =
          let both = owned_after axis c is_so in
          subst (λ (a : Ownership). IsSame (position_by (was axis) a) (position_by (is axis) (final.axis axis))) (sym both.0)
          (subst (λ (a : Ownership). IsSame (was axis c) (position_by (is axis) a)) (sym both.1) (stays_owned axis c is_so))

-- where a channel acts, whatever it waits for, hands over or takes then, and whoever goes on, no axis jumps
pub no_axis_jumps : (job : JobView) (doings : Doings) → IsSoundJob job → AreSound job doings
    → ((cs : List ℕ) (c : ℕ) → IsRunOf doings.script (start_of job) cs → is_running ((stage_by job doings cs).board.state c) ≡ true → TellsWhereItsAxesStand doings (stage_by job doings cs) c)
    → NoAxisJumps job doings
unfolding IsLawfulStep after_small_step runs
no_axis_jumps job doings sound are places steps p lawful act axis =
    let state = after_small_steps job doings opening steps in
    let well = well_spotted job doings (start_sound job sound) opening steps (opening_spotted job doings (start_sound job sound)) lawful in
    stays_put job doings sound are state well p act.0 act.1 (places state.run p well.run act.0) axis
