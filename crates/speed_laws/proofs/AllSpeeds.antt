-- Where no compared pair of the run that speaks for all runs meets, no two zones meet in any run at any speed.
use Rattle.std.proofs.Common.{◌≡◌, ◌≢◌, ℕ, Bool, true, List, [], ◌∷◌, map, find, None, All, Contains, inl, inr, refl, sym, subst}
use Rattle.std.proofs.lemmas.List.Elements.{All-contains, All-head, All-tail}
use Rattle.channel_machine.specs.StartStates.{start_of}
use Rattle.job_types.specs.Job.{JobView}
use Rattle.job_types.specs.SoundJob.{IsSoundJob, IsSoundZone}
use Rattle.job_types.specs.Zones.{zones_in_order}
use Rattle.job_types.specs.declared.job.ZoneLine.{ZoneLine}
use Rattle.number_laws.proofs.Lists.{SomeOf, SomeOf-weaker, none_found}
use Rattle.order_clocks.specs.Clocked.{IsOrderOf, moves_in}
use Rattle.schedule_laws.specs.Schedules.{IsQuietRun, moves_by}
use Rattle.speed_laws.proofs.ComparedPairs.{HasBox, HoldsPlace, IsCurrent, IsCut, IsInPiece, is_in_order, some_pair_meets, zone_by_number}
use Rattle.speed_laws.proofs.FreeZones.{zone_stands}
use Rattle.speed_laws.proofs.OwnersHaveLines.{owners_have_lines}
use Rattle.speed_laws.proofs.PastEvents.{is_past, made_counts, past_is_cut}
use Rattle.speed_laws.proofs.PresentBoxes.{IsSeen, seen_in_box}
use Rattle.speed_laws.proofs.RunPlaces.{WellSpotted, opening_spotted, well_spotted}
use Rattle.speed_laws.proofs.StartZones.{zones_start}
use Rattle.speed_laws.specs.DoingLaws.{AreSound}
use Rattle.speed_laws.specs.Doings.{Doings}
use Rattle.speed_laws.specs.Histories.{IsRunBy, items_by}
use Rattle.speed_laws.specs.Safety.{DoMeet, HasOneOwner, IsSafeAlways, NoTwoMeet, on_now, owner_now, position_now, IsInZone}
use Rattle.speed_laws.specs.SmallSteps.{AreLawfulSteps, after_small_steps, items_now, runs, spot_now, SmallStep, State, opening}
use Rattle.swept_boxes.specs.Boxes.{SpacePoint}
use Rattle.sync_types.specs.Boards.{first_board}
use Rattle.sync_types.specs.Events.{IsLowestName}
use Rattle.sync_types.specs.Runs.{first_stage}
use Rattle.sync_types.specs.Views.{RunView}
use Rattle.sync_types.specs.declared.runs.EventId.{EventId}
use Rattle.zone_stretches.specs.Occurrences.{occurrences_of}
use Rattle.zone_stretches.specs.Overlaps.{Order, compared_pairs}
use Rattle.zone_stretches.specs.Pieces.{pair_meets}
use Rattle.zone_stretches.specs.SoundStretches.{IsZoneOf}
use Rattle.zone_stretches.specs.Stretches.{StretchView, all_stretches, stretches_of_zone}

holds_of : {X : Type 0} (P : X → Type 0) (x : X) (xs : List X) → All P xs → SomeOf (λ y. y ≡ x) xs → P x
holds_of P x [] all some = absurd some
holds_of P x (y ∷ ys) all (inl same) = subst P same (All-head P y ys all)
holds_of P x (y ∷ ys) all (inr later) = holds_of P x ys (All-tail P y ys all) later

module _ (job : JobView) (doings : Doings) (sound : IsSoundJob job) (are : AreSound job doings) (qs : List ℕ) (quiet : IsQuietRun doings.script (start_of job) qs)
    (run : RunView) (by : IsRunBy job doings qs run)
    (before : Order) (order : IsOrderOf (first_board (start_of job)) (moves_in run.entries) before) where
  abbrev stretches : ZoneLine → List StretchView
  stretches = stretches_of_zone job (items_by doings (first_stage (start_of job)) qs) (occurrences_of (first_board (start_of job)) (moves_by doings.script (start_of job) qs))

  all_are : all_stretches job (first_board (start_of job)) run ≡ record { zones = map stretches (zones_in_order job) }
  unfolding all_stretches
  all_are = rw (by.moves, by.items) refl

  module _ (state : State) (well : WellSpotted job doings quiet.sound state) where
    abbrev Named : EventId → Type 0
    Named = IsLowestName (first_board (start_of job)) (moves_by doings.script (start_of job) qs)

    abbrev past : EventId → Bool
    past = is_past (first_board (start_of job)) (moves_by doings.script (start_of job) qs) (made_counts doings.script (start_of job) qs state.run quiet well.run)

    abbrev places : ℕ → ℕ
    places c = (spot_now job doings state c).place

    is_cut : IsCut before Named past
    is_cut =
        past_is_cut (first_board (start_of job)) (moves_by doings.script (start_of job) qs) (made_counts doings.script (start_of job) qs state.run quiet well.run) before
        (subst (λ ms. IsOrderOf (first_board (start_of job)) ms before) by.moves order)

    zone_in_piece : (zone : ZoneLine) → Contains job.zones zone → on_now job doings state zone ≡ true → (point : SpacePoint) → IsInZone job.margin (position_now job doings state) zone point
        → HasBox Named past places (stretches zone) (IsInPiece job run point zone)
    zone_in_piece zone in_job on point in_zone =
        let z : IsSoundZone job zone = All-contains (IsSoundZone job) job.zones zone sound.zones in_job in
        let found = zone_by_number job sound.zone_numbers zone in_job in
        let there : IsZoneOf (start_of job) zone = zone_there zone z in_job in
        SomeOf-weaker (λ stretch. IsCurrent Named past stretch × IsSeen job doings sound are qs quiet state well zone z there found stretch)
        (λ stretch. IsCurrent Named past stretch × SomeOf (λ box. HoldsPlace places stretch box × IsInPiece job run point zone stretch box) stretch.boxes)
        (λ stretch both. (both.0, seen_in_box job doings sound are qs quiet state well zone z there found run by.items on point in_zone stretch both.1))
        (stretches zone) (zone_stands job doings qs state.run quiet well.run zone sound there found)
      where
        zone_there : (zone : ZoneLine) → IsSoundZone job zone → Contains job.zones zone → IsZoneOf (start_of job) zone
        zone_there zone z in_job =
            holds_of (IsZoneOf (start_of job)) zone (zones_in_order job) (zones_start job sound) (is_in_order job sound.zone_numbers zone z.low_number z.high_number in_job)

    -- zones that meet are in a compared pair that meets
    meet_in_pair : (zone other : ZoneLine) → Contains job.zones zone → Contains job.zones other → zone.group ≢ other.group → on_now job doings state zone ≡ true → on_now job doings state other ≡ true
        → DoMeet job doings state zone other → SomeOf (λ pair. pair_meets job run pair ≡ true) (compared_pairs before job (all_stretches job (first_board (start_of job)) run))
    unfolding DoMeet
    meet_in_pair zone other in_job in_job' apart on on' (point, in_zone, in_other) =
        let z = All-contains (IsSoundZone job) job.zones zone sound.zones in_job in
        let o = All-contains (IsSoundZone job) job.zones other sound.zones in_job' in
        subst (λ time. SomeOf (λ pair. pair_meets job run pair ≡ true) (compared_pairs before job time)) (sym all_are)
        (some_pair_meets job run before Named past is_cut places stretches zone other
        (is_in_order job sound.zone_numbers zone z.low_number z.high_number in_job) (is_in_order job sound.zone_numbers other o.low_number o.high_number in_job') apart point
        (zone_in_piece zone in_job on point in_zone) (zone_in_piece other in_job' on' point in_other))

  -- no two zones of different groups meet in any state that small steps reach
  pub none_meet : find (pair_meets job run) (compared_pairs before job (all_stretches job (first_board (start_of job)) run)) ≡ None
      → (steps : List SmallStep) → AreLawfulSteps job doings opening steps → NoTwoMeet job doings (after_small_steps job doings opening steps)
  unfolding NoTwoMeet
  none_meet none steps lawful zone other in_job in_job' apart on on' meet =
      none_found (pair_meets job run) (compared_pairs before job (all_stretches job (first_board (start_of job)) run)) none
      (meet_in_pair (after_small_steps job doings opening steps) (well_spotted job doings quiet.sound opening steps (opening_spotted job doings quiet.sound) lawful) zone other in_job in_job' apart on on' meet)

  -- each axis has one owner there
  pub one_owner : (steps : List SmallStep) → AreLawfulSteps job doings opening steps → HasOneOwner job doings (after_small_steps job doings opening steps)
  unfolding owner_now runs items_now
  one_owner steps lawful =
      let state = after_small_steps job doings opening steps in
      let well = well_spotted job doings quiet.sound opening steps (opening_spotted job doings quiet.sound) lawful in
      record {
        owned = λ axis within. owners_have_lines job doings sound state.run well.run axis;
        own = λ channel running. (are.move state.run channel well.run running).owned;
      }

-- so the job is safe at all speeds
pub always_safe : (job : JobView) (doings : Doings) (speaking : List ℕ) (run : RunView) (before : Order)
    → IsSoundJob job → AreSound job doings → IsQuietRun doings.script (start_of job) speaking → IsRunBy job doings speaking run
    → IsOrderOf (first_board (start_of job)) (moves_in run.entries) before
    → find (pair_meets job run) (compared_pairs before job (all_stretches job (first_board (start_of job)) run)) ≡ None → IsSafeAlways job doings
always_safe job doings speaking run before sound are quiet by order none = record {
  one_owner = one_owner job doings sound are speaking quiet run by before order;
  none_meet = none_meet job doings sound are speaking quiet run by before order none;
}
