-- No zone switches where a channel acts.
use Rattle.std.proofs.Common.{◌≡◌, ◌∙◌, ℕ, Bool, true, false, cond, ◌==◌, List, [], ◌∷◌, ◌++◌, length, take, take_all, Option, None, Some, Contains, inl, inr, refl, sym, ap, subst, arith}
use Rattle.std.specs.Option.{option_map_or}
use Rattle.std.proofs.lemmas.Bool.{cases_Bool, eqb-true, eq-eqb, ne_eqb}
use Rattle.axis_sets.specs.Sets.{has, members_of}
use Rattle.channel_machine.specs.StartStates.{start_of}
use Rattle.job_types.specs.Job.{JobView}
use Rattle.job_types.specs.declared.job.ZoneLine.{ZoneLine}
use Rattle.schedule_laws.specs.Schedules.{IsRunOf}
use Rattle.speed_laws.proofs.HandedAxes.{final_axis, part_axis, start_same}
use Rattle.speed_laws.proofs.Histories.{none_in}
use Rattle.speed_laws.proofs.RunBoards.{IsRunBoard, run_board_step}
use Rattle.speed_laws.proofs.RunPlaces.{WellSpotted, opening_spotted, well_spotted}
use Rattle.speed_laws.proofs.StepSpots.{HasEvent, Rests, begins_anew, event_or_rests, goes_rested, stage_next, zones_then}
use Rattle.speed_laws.proofs.SwitchedZones.{first_has, held_before, on_after_step, owned_this}
use Rattle.speed_laws.specs.DoingLaws.{TellsWhichZonesAreOn, stage_by}
use Rattle.speed_laws.specs.Doings.{Doings, on_after}
use Rattle.speed_laws.specs.Places.{IsAtEnd}
use Rattle.speed_laws.specs.Safety.{NoZoneSwitches, on_now, on_with}
use Rattle.speed_laws.specs.SmallSteps.{items_now, place_zero, runs, spot_now, stage_in, after_small_step, after_small_steps, IsLawfulStep, State, opening}
use Rattle.sync_types.proofs.BoardTests.{no_truth}
use Rattle.sync_types.specs.Boards.{Board, Ownership, OwnedBy, FreeAt, is_free, is_running, is_this, owner_of}
use Rattle.sync_types.specs.GoingOn.{first_of}
use Rattle.sync_types.specs.Runs.{Stage}
use Rattle.sync_types.specs.Starts.{IsSound, axes_of_zone, first_holder}
use Rattle.sync_types.specs.Turns.{after_step, goings_in_step}
use Rattle.sync_types.specs.Views.{StartView}
use Rattle.sync_types.specs.declared.Item.{Item}
use Rattle.sync_types.specs.declared.Step.{Step}

-- what another channel holds before a step it holds after it
module _ (b : Board) (p : ℕ) (step : Step) (zs : IsRunBoard b) (running : is_running (b.state p) ≡ true) where
  owned_kept : (x d : ℕ) → owner_of (b.axis x) ≡ Some d → (p == d) ≡ false → owner_of ((after_step b p step).axis x) ≡ Some d
  owned_kept x d owned apart = elim (part_axis b p step x) [
    | inr go ↦ let both : Some p ≡ Some d = sym go.owner ∙ owned in let same : p ≡ d = cc in no_truth (p == d) (eq-eqb p d same) apart
    | inl same ↦ elim (final_axis b p step zs running x) [
      | inl kept ↦ ap owner_of (kept ∙ same) ∙ owned
      | inr takes ↦ not_free (b.axis x) (sym (ap is_free same) ∙ takes.was_free) owned
    ]
  ]
    where
      not_free : (a : Ownership) → is_free a ≡ true → owner_of a ≡ Some d → owner_of ((after_step b p step).axis x) ≡ Some d
      not_free (OwnedBy c) free is = no_truth false free refl
      not_free (FreeAt position) free is = absurd cc

  pub holder_kept : (z d : ℕ) → b.holder z ≡ Some d → (p == d) ≡ false → (after_step b p step).holder z ≡ Some d
  holder_kept z d held apart = by_first (first_of (members_of (axes_of_zone b.start z))) refl
    where
      same : (after_step b p step).start ≡ b.start
      same = start_same b p step zs running

      zones_later : IsRunBoard (after_step b p step)
      zones_later = run_board_step b p step zs

      by_first : (o : Option ℕ) → first_of (members_of (axes_of_zone b.start z)) ≡ o → (after_step b p step).holder z ≡ Some d
      by_first None is =
          zones_later.zones.bare z (ap (λ (s : StartView). first_of (members_of (axes_of_zone s z))) same ∙ is)
          ∙ ap (λ (s : StartView). first_holder s z) same ∙ sym (zs.zones.bare z is) ∙ held
      by_first (Some x) is =
          let there : has (axes_of_zone b.start z) x ≡ true = first_has (axes_of_zone b.start z) x is in
          sym (zones_later.zones.owner z x (ap (λ (s : StartView). has (axes_of_zone s z) x) same ∙ there)) ∙ owned_kept x d (zs.zones.owner z x there ∙ held) apart

module _ (job : JobView) (doings : Doings) (start_sound : IsSound (start_of job)) (state : State) (well : WellSpotted job doings start_sound state) (p : ℕ)
    (on : is_running ((stage_in job doings state).board.state p) ≡ true) (end : IsAtEnd (items_now job doings state p) (spot_now job doings state p).place (spot_now job doings state p).point)
    (zone : ZoneLine) (tells : TellsWhichZonesAreOn job doings (stage_in job doings state) p zone) where
  abbrev stage : Stage
  stage = stage_in job doings state

  abbrev board : Board
  board = (stage_in job doings state).board

  abbrev step : Step
  step = doings.script p ((stage_in job doings state).grants p)

  abbrev final : Board
  final = after_step board p step

  abbrev next : State
  next = record { run = state.run ++ p ∷ []; spots = state.spots }

  abbrev z : ℕ
  z = zone.zone

  zones : IsRunBoard board
  zones = zones_then job doings start_sound state well p on

  abbrev Event : ℕ → Type 0
  Event c = HasEvent job doings start_sound state well p on c

  -- whether the zone is on that a channel holds, by the board's word and what the channel does
  with_by : Bool → Bool → List Item → ℕ → Bool
  with_by told running items place = cond running (on_after zone told (take place items)) told

  before : on_now job doings state zone ≡ option_map_or (λ c. with_by (board.is_on z) (runs job doings state c) (items_now job doings state c) (spot_now job doings state c).place) (board.holder z) (board.is_on z)
  unfolding on_now on_with with_by
  before = refl

  after : on_now job doings next zone ≡ option_map_or (λ c. with_by (final.is_on z) (runs job doings next c) (items_now job doings next c) (spot_now job doings next c).place) (final.holder z) (final.is_on z)
  unfolding on_now on_with with_by
  after = ap (λ (s : Stage). option_map_or (λ c. with_by (s.board.is_on z) (runs job doings next c) (items_now job doings next c) (spot_now job doings next c).place) (s.board.holder z) (s.board.is_on z))
      (stage_next job doings start_sound state well p on)

  -- who has an event begins with the zone as the board has it
  anew : (c : ℕ) → Event c → with_by (final.is_on z) (runs job doings next c) (items_now job doings next c) (spot_now job doings next c).place ≡ final.is_on z
  unfolding with_by place_zero
  anew c event =
      rw (begins_anew job doings start_sound state well p on c event) (none_yet (runs job doings next c) (items_now job doings next c))
    where
      none_yet : (t : Bool) (items : List Item) → cond t (on_after zone (final.is_on z) (take 0 items)) (final.is_on z) ≡ final.is_on z
      none_yet true items = refl
      none_yet false items = refl

  -- whoever holds it then
  by_holder : (o : Option ℕ) → final.holder z ≡ o → ((c : ℕ) → final.holder z ≡ Some c → Event c)
      → option_map_or (λ c. with_by (final.is_on z) (runs job doings next c) (items_now job doings next c) (spot_now job doings next c).place) o (final.is_on z) ≡ final.is_on z
  by_holder None is events = refl
  by_holder (Some c) is events = anew c (events c is)

  abbrev after_holder : Bool
  after_holder = option_map_or (λ c. with_by (final.is_on z) (runs job doings next c) (items_now job doings next c) (spot_now job doings next c).place) (final.holder z) (final.is_on z)

  told_after : final.is_on z ≡ cond (is_this (board.holder z) p) (has step.on z) (board.is_on z)
  told_after = on_after_step board p step zones on z

  -- who holds it after the step and has no event held it before
  held_old : (c : ℕ) → Rests job doings start_sound state well p on c → final.holder z ≡ Some c → board.holder z ≡ Some c
  held_old c rests held = held_before board p step zones on z c (none_in (goings_in_step board p step) c rests.none) held

  -- nobody held it
  was_free : board.holder z ≡ None → board.is_on z ≡ after_holder
  was_free free =
      let told : final.is_on z ≡ board.is_on z = told_after ∙ rw free refl in
      sym (by_holder (final.holder z) refl (λ c held. elim (event_or_rests job doings start_sound state well p on c) [
        | inl event ↦ event
        | inr rests ↦ let bad : None ≡ Some c = sym free ∙ held_old c rests held in absurd cc
      ]) ∙ told)

  -- the channel that acts held it
  was_mine : board.holder z ≡ Some p → with_by (board.is_on z) (runs job doings state p) (items_now job doings state p) (spot_now job doings state p).place ≡ after_holder
  unfolding with_by runs items_now
  was_mine mine =
      let place : (spot_now job doings state p).place ≡ length (items_now job doings state p) = end.0 in
      let told : final.is_on z ≡ has step.on z = told_after ∙ rw (owned_this (board.holder z) p mine) refl in
      rw on (ap (on_after zone (board.is_on z)) (take_all (spot_now job doings state p).place (items_now job doings state p) (omega (arith, place))))
      ∙ sym (by_holder (final.holder z) refl (λ c held. elim (event_or_rests job doings start_sound state well p on c) [
        | inl event ↦ event
        | inr rests ↦
            let both : Some p ≡ Some c = sym mine ∙ held_old c rests held in
            let same : p ≡ c = cc in
            no_truth (p == c) (eq-eqb p c same) rests.other
      ]) ∙ told ∙ tells mine)

  -- another channel held it, and holds it
  was_other : (d : ℕ) → board.holder z ≡ Some d → (p == d) ≡ false → with_by (board.is_on z) (runs job doings state d) (items_now job doings state d) (spot_now job doings state d).place ≡ after_holder
  unfolding with_by runs
  was_other d held apart =
      rw (holder_kept board p step zones on z d held apart) (elim (event_or_rests job doings start_sound state well p on d) [
        | inr rests ↦ rw (rests.runs_same, rests.items_same, rests.spot_same, told) refl
        | inl event ↦ rw (off event) (sym (anew d event ∙ told))
      ])
    where
      told : final.is_on z ≡ board.is_on z
      told = told_after ∙ rw (ap (λ (o : Option ℕ). is_this o p) held ∙ ne_eqb d p (λ same. no_truth (p == d) (eq-eqb p d (sym same)) apart)) refl

      off : Event d → runs job doings state d ≡ false
      off (inl same) = no_truth (p == d) same apart
      off (inr (other, g, is)) = goes_rested job doings start_sound state well p on d g apart is

  pub stays_so : on_now job doings state zone ≡ on_now job doings (record { run = state.run ++ p ∷ []; spots = state.spots }) zone
  stays_so = before ∙ by_old (board.holder z) refl ∙ sym after
    where
      by_old : (o : Option ℕ) → board.holder z ≡ o
          → option_map_or (λ c. with_by (board.is_on z) (runs job doings state c) (items_now job doings state c) (spot_now job doings state c).place) o (board.is_on z) ≡ after_holder
      by_old None is = was_free is
      by_old (Some d) is = elim (cases_Bool (p == d)) [
        | inl same ↦ subst (λ (c : ℕ). with_by (board.is_on z) (runs job doings state c) (items_now job doings state c) (spot_now job doings state c).place ≡ after_holder) (eqb-true p d same)
            (was_mine (is ∙ ap (λ (c : ℕ). Some c) (sym (eqb-true p d same))))
        | inr apart ↦ was_other d is apart
      ]

-- where a channel acts each zone of the job is on afterwards that was on, and no other
pub no_zone_switches : (job : JobView) (doings : Doings) → IsSound (start_of job)
    → ((cs : List ℕ) (c : ℕ) (zone : ZoneLine) → IsRunOf doings.script (start_of job) cs → is_running ((stage_by job doings cs).board.state c) ≡ true → Contains job.zones zone
    → TellsWhichZonesAreOn job doings (stage_by job doings cs) c zone)
    → NoZoneSwitches job doings
unfolding IsLawfulStep after_small_step runs
no_zone_switches job doings start_sound tells steps p lawful act zone in_job =
    let state = after_small_steps job doings opening steps in
    let well = well_spotted job doings start_sound opening steps (opening_spotted job doings start_sound) lawful in
    stays_so job doings start_sound state well p act.0 act.1 zone (tells state.run p zone well.run act.0 in_job)
