-- The start of an accepted job has its zones, each with its holder and its axes.
use Rattle.std.proofs.Common.{◌≡◌, ◌⊎◌, ◌∙◌, ℕ, ◌<◌, ◌≤◌, ◌==◌, false, List, [], ◌∷◌, map, find, Option, None, Some, All, inl, inr, zero-add, refl, sym, ap, arith}
use Rattle.std.specs.List.{cons_option, filter_map, range_with_len}
use Rattle.std.proofs.lemmas.Bool.{eqb-true, false_from_ne_true}
use Rattle.std.proofs.lemmas.List.{get_or_past}
use Rattle.std.proofs.lemmas.List.Elements.{All-nil, All-cons}
use Rattle.std.proofs.lemmas.List.FromFn.{get_or-map-range_with_len, length-map-range_with_len}
use Rattle.axis_sets.specs.Sets.{has}
use Rattle.axis_sets.specs.declared.limits.TheConstants.{AXIS_LIMIT, ZONE_LIMIT}
use Rattle.channel_machine.proofs.StartLaws.{zone_found}
use Rattle.channel_machine.specs.StartStates.{start_of}
use Rattle.job_types.proofs.Owners.{carrier_there}
use Rattle.job_types.specs.Job.{JobView}
use Rattle.job_types.specs.SoundJob.{IsSoundJob, IsSoundZone}
use Rattle.job_types.specs.Zones.{carriers, has_axis, zone_line, zones_in_order}
use Rattle.job_types.specs.declared.job.ZoneLine.{ZoneLine}
use Rattle.number_laws.proofs.Lists.{All-found, found_passes}
use Rattle.speed_laws.specs.ZoneTimes.{ZoneTimesInOrder}
use Rattle.sync_types.specs.Views.{RunView}
use Rattle.zone_stretches.proofs.AscentLaws.{stretches_ascend}
use Rattle.zone_stretches.specs.SoundStretches.{HasZones, IsZoneOf}

le_or_lt : (a b : ℕ) → (a ≤ b) ⊎ (b < a)
le_or_lt a b = grind arith

-- the row of the axes that carry a zone has all of them
carried_at : (job : JobView) → IsSoundJob job → (zone : ZoneLine) → IsSoundZone job zone → (x : ℕ) → has (carriers zone) x ≡ has_axis zone x
unfolding carriers
carried_at job sound zone is x = by_place (le_or_lt AXIS_LIMIT x)
  where
    by_place : (AXIS_LIMIT ≤ x) ⊎ (x < AXIS_LIMIT) → has (map (has_axis zone) (range_with_len 0 AXIS_LIMIT)) x ≡ has_axis zone x
    by_place (inl past) =
        let long = length-map-range_with_len (has_axis zone) 0 AXIS_LIMIT in
        let none : has_axis zone x ≡ false = false_from_ne_true (has_axis zone x) (λ on. absurd (omega (arith, (carrier_there job zone is x on).0, sound.few_axes))) in
        get_or_past (map (has_axis zone) (range_with_len 0 AXIS_LIMIT)) x false (omega arith) ∙ sym none
    by_place (inr within) = get_or-map-range_with_len (has_axis zone) 0 AXIS_LIMIT x x false within (zero-add x)

zone_starts : (job : JobView) → IsSoundJob job → (n : ℕ) (zone : ZoneLine) → zone_line job n ≡ Some zone → IsZoneOf (start_of job) zone
unfolding start_of
zone_starts job sound n zone at =
    let number : zone.zone ≡ n = eqb-true zone.zone n (found_passes (λ (l : ZoneLine). l.zone == n) job.zones zone at) in
    let line : zone_line job zone.zone ≡ Some zone = ap (zone_line job) number ∙ at in
    let is : IsSoundZone job zone = All-found (IsSoundZone job) (λ (l : ZoneLine). l.zone == n) job.zones zone sound.zones at in
    record {
      holder = rw (zone_found job sound zone.zone, line) refl;
      axes = λ x. rw (zone_found job sound zone.zone, line) (carried_at job sound zone is x);
    }

each_starts : (job : JobView) → IsSoundJob job → (numbers : List ℕ) → All (IsZoneOf (start_of job)) (filter_map (λ number. find (λ zone. zone.zone == number) job.zones) numbers)
each_starts job sound [] = All-nil (IsZoneOf (start_of job))
each_starts job sound (n ∷ numbers) = by_line (zone_line job n) refl (each_starts job sound numbers)
  where
    by_line : (o : Option ZoneLine) → zone_line job n ≡ o → All (IsZoneOf (start_of job)) (filter_map (λ number. find (λ zone. zone.zone == number) job.zones) numbers)
        → All (IsZoneOf (start_of job)) (cons_option o (filter_map (λ number. find (λ zone. zone.zone == number) job.zones) numbers))
    by_line None at rest = rest
    by_line (Some zone) at rest = All-cons (IsZoneOf (start_of job)) zone (filter_map (λ number. find (λ z. z.zone == number) job.zones) numbers) (zone_starts job sound n zone at) rest

pub zones_start : (job : JobView) → IsSoundJob job → HasZones job (start_of job)
unfolding zones_in_order
zones_start job sound = each_starts job sound (range_with_len 1 ZONE_LIMIT)

pub zone_times_in_order : (job : JobView) (run : RunView) → ZoneTimesInOrder job run
zone_times_in_order job run sound comes = stretches_ascend job (start_of job) run (zones_start job sound) comes
