-- Meaning. What is told of each two zones of a job: how many of their boxes are compared in a run and how near these come, or why none are.
use Rattle.std.specs.Prelude.{ℕ, ℤ, pos, ◌==◌, ◌||◌, not, Bool, if◌then◌else◌, List, [], ◌∷◌, find, length, map, Option, None, Some, unwrap_or}
use Rattle.std.specs.List.{flat_map, list_all}
use Rattle.std.specs.Option.{option_map}
use Rattle.explain_reach.specs.Lots.{greater}
use Rattle.job_types.specs.Axes.{is_of}
use Rattle.job_types.specs.Job.{JobView}
use Rattle.explain_meetings.specs.Groups.{capped}
use Rattle.explain_meetings.specs.Nearest.{pair_reaches}
use Rattle.sync_types.specs.Views.{RunView}
use Rattle.explain_pairs.specs.Pairs.{pair_of}
use Rattle.explain_pairs.specs.declared.pairs.Comparison.{Comparison}
use Rattle.explain_pairs.specs.declared.pairs.Presence.{Presence}
use Rattle.explain_pairs.specs.declared.pairs.Presence.TheVariants.{Never, HeldBy, Changing}
use Rattle.explain_pairs.specs.declared.pairs.ZoneFacts.{ZoneFacts}
use Rattle.explain_pairs.specs.declared.pairs.ZonePair.{ZonePair}
use Rattle.zone_stretches.specs.Overlaps.{Order, Pair, ZoneTime, pairs_of_zones, zone_times}
use Rattle.zone_stretches.specs.Stretches.{StretchView, StretchesView}
use Rattle.zone_stretches.specs.TimedZones.{each_two}

-- ---- when a zone is on

-- it has a box in a stretch
abbrev pub is_on : StretchView → Bool
is_on stretch = not (length stretch.boxes == 0)

-- this channel holds it in a stretch, if it is on there
abbrev pub is_held_in : ℕ → StretchView → Bool
is_held_in channel stretch = not (is_on stretch) || is_of channel stretch.name.channel

-- this channel holds it in each stretch in which it is on
abbrev pub is_held_by : ℕ → List StretchView → Bool
is_held_by channel stretches = list_all (is_held_in channel) stretches

-- by who holds it in the first stretch in which it is on, if there is one
abbrev pub presence_by : List StretchView → Option (Option ℕ) → Presence
presence_by stretches None = Never
presence_by stretches (Some None) = Changing
presence_by stretches (Some (Some channel)) = if is_held_by channel stretches then HeldBy channel else Changing

unfoldable pub presence_of : List StretchView → Presence
presence_of stretches = presence_by stretches (option_map (λ stretch. stretch.name.channel) (find is_on stretches))

-- the number of a zone, its group, and when it is on
unfoldable pub facts_of : ZoneTime → ZoneFacts
facts_of time = record { zone = time.zone.zone; group = time.zone.group; presence = presence_of time.stretches }

-- ---- what is compared

-- the compared boxes of two zones: none of one group
unfoldable pub pairs_of_two : Order → ZoneTime → ZoneTime → List Pair
pairs_of_two before one two = if one.zone.group == two.zone.group then [] else pairs_of_zones before one two

-- the greatest of some numbers; none where there are none
abbrev pub greatest_of : List ℤ → Option ℤ
greatest_of [] = None
greatest_of (number ∷ numbers) = Some (greater (greatest_of numbers) number)

-- of some pairs, if there are any, how many, and how far the boxes by which they are compared reach into each other at most
unfoldable pub comparison_of : JobView → RunView → List Pair → Option Comparison
comparison_of job run [] = None
comparison_of job run (pair ∷ pairs) =
    Some (record { count = capped (length (pair ∷ pairs)); reach = unwrap_or (greatest_of (flat_map (pair_reaches job run) (pair ∷ pairs))) (pos 0) })

-- ---- each two zones

-- two zones
unfoldable pub two_of : Order → JobView → RunView → ZoneTime × ZoneTime → ZonePair
two_of before job run zones = pair_of (facts_of zones.0) (facts_of zones.1) (comparison_of job run (pairs_of_two before zones.0 zones.1))

-- each two zones of a job, in the order of their numbers
unfoldable pub zone_pairs_of : Order → JobView → RunView → StretchesView → List ZonePair
zone_pairs_of before job run stretches = map (two_of before job run) (each_two (zone_times job stretches))
