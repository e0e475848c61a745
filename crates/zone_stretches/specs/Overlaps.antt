-- Meaning. Which stretches may overlap, and which boxes of two zones are compared.
use Rattle.std.specs.Prelude.{ℕ, ◌==◌, ◌&&◌, ◌||◌, not, nat_le, Bool, true, false, if◌then◌else◌, List, [], ◌∷◌, ◌++◌, map, filter, Option, Some, None}
use Rattle.std.specs.List.{flat_map, zip}
use Rattle.job_types.specs.Axes.{is_of}
use Rattle.job_types.specs.Job.{JobView}
use Rattle.job_types.specs.Zones.{zones_in_order}
use Rattle.job_types.specs.declared.job.ZoneLine.{ZoneLine}
use Rattle.sync_types.specs.Events.{is_same_event}
use Rattle.sync_types.specs.declared.runs.EventId.{EventId}
use Rattle.zone_stretches.specs.Stretches.{StretchView, StretchesView}
use Rattle.zone_stretches.specs.declared.stretches.ZoneBox.{ZoneBox}

-- whether one event of a run is before another, each by its lowest channel
abbrev pub Order : Type 0
Order = EventId → EventId → Bool

-- the last event of one stretch is neither the first event of another nor before it
abbrev pub is_open_at : Order → Option EventId → Option EventId → Bool
is_open_at before None first = true
is_open_at before (Some last) None = true
is_open_at before (Some last) (Some first) = not (is_same_event last first || before last first)

-- two stretches may overlap where neither is over as the other begins
unfoldable pub may_overlap : Order → StretchView → StretchView → Bool
may_overlap before left right = is_open_at before left.last right.first && is_open_at before right.last left.first

-- both are of one channel
abbrev pub share_channel : Option ℕ → Option ℕ → Bool
share_channel None right = false
share_channel (Some channel) right = is_of channel right

-- a place that both boxes hold
abbrev pub share_place : ZoneBox → ZoneBox → Bool
share_place left right = nat_le left.from right.to && nat_le right.from left.to

-- two stretches of one channel are one time of it, so only boxes with a place in common are compared
abbrev pub are_compared : StretchView → StretchView → ZoneBox → ZoneBox → Bool
are_compared left right own other = not (share_channel left.name.channel right.name.channel) || share_place own other

-- a zone with its stretches, and one box of one of them
pub record ZoneTime : Type 0 where
  pub zone : ZoneLine
  pub stretches : List StretchView

pub record BoxPlace : Type 0 where
  pub zone : ZoneLine
  pub stretch : StretchView
  pub box : ZoneBox

abbrev pub Pair : Type 0
Pair = BoxPlace × BoxPlace

-- the compared boxes of two stretches, in order of the first and then of the second
abbrev pub box_pairs : ZoneLine → StretchView → ZoneLine → StretchView → List Pair
box_pairs zone left other right =
    flat_map (λ own. map (λ later. (record { zone = zone; stretch = left; box = own }, record { zone = other; stretch = right; box = later }))
    (filter (are_compared left right own) right.boxes)) left.boxes

abbrev pub stretch_pairs : Order → ZoneLine → StretchView → ZoneLine → StretchView → List Pair
stretch_pairs before zone left other right = if may_overlap before left right then box_pairs zone left other right else []

-- the compared boxes of two zones
unfoldable pub pairs_of_zones : Order → ZoneTime → ZoneTime → List Pair
pairs_of_zones before one two =
    flat_map (λ left. flat_map (λ right. stretch_pairs before one.zone left two.zone right) two.stretches) one.stretches

-- each zone with each later one of another group
abbrev pub pairs_by_group : List ZoneTime → List (ZoneTime × ZoneTime)
pairs_by_group [] = []
pairs_by_group (one ∷ others) = map (λ two. (one, two)) (filter (λ two. not (one.zone.group == two.zone.group)) others) ++ pairs_by_group others

-- the zones of a job in the order of their numbers, each with its stretches
unfoldable pub zone_times : JobView → StretchesView → List ZoneTime
zone_times job stretches = map (λ p. record { zone = p.0; stretches = p.1 }) (zip (zones_in_order job) stretches.zones)

-- all compared pairs, in the order in which the first that meets is named
unfoldable pub compared_pairs : Order → JobView → StretchesView → List Pair
compared_pairs before job stretches = flat_map (λ pair. pairs_of_zones before pair.0 pair.1) (pairs_by_group (zone_times job stretches))
