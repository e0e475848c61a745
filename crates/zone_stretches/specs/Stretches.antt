-- Meaning. The stretches into which the time of a zone falls in a run.
use Rattle.std.specs.Prelude.{ℕ, suc, ◌-◌, List, [], ◌∷◌, map, take, drop, Option, Some, None}
use Rattle.std.specs.List.{flat_map}
use Rattle.job_types.specs.Job.{JobView}
use Rattle.job_types.specs.Zones.{zones_in_order}
use Rattle.job_types.specs.declared.job.ZoneLine.{ZoneLine}
use Rattle.order_clocks.specs.Clocked.{moves_in}
use Rattle.sync_types.specs.Boards.{Board}
use Rattle.sync_types.specs.Views.{RunView}
use Rattle.sync_types.specs.declared.Item.{Item}
use Rattle.sync_types.specs.declared.runs.EventId.{EventId}
use Rattle.sync_types.specs.declared.verdicts.PlaceName.{PlaceName}
use Rattle.zone_stretches.specs.Occurrences.{OccurrenceView, occurrences_of}
use Rattle.zone_stretches.specs.Spans.{SpanStartView, Span, entry_of_beginning, spans_of}
use Rattle.zone_stretches.specs.Tenures.{TenureView, tenures_of}
use Rattle.zone_stretches.specs.ZoneBoxes.{boxes_of, shown_box}
use Rattle.zone_stretches.specs.declared.stretches.ZoneBox.{ZoneBox}

-- what a contract sees of a stretch
pub record StretchView : Type 0 where
  pub name : PlaceName
  pub first : Option EventId
  pub last : Option EventId
  pub entry : ℕ
  pub boxes : List ZoneBox

-- for each zone of a job, in the order of their numbers, its stretches
pub record StretchesView : Type 0 where
  pub zones : List (List StretchView)

-- a time of a zone that begins so for a channel, or for none, while this is done
abbrev pub stretch_between : JobView → ZoneLine → Option ℕ → SpanStartView → Option EventId → ℕ → List Item → StretchView
stretch_between job zone channel begins last entry items = record {
  name = record { zone = zone.zone; channel = channel; kind = begins.kind; line = begins.line };
  first = begins.first;
  last = last;
  entry = entry;
  boxes = map (shown_box job.margin zone) (boxes_of zone (begins.on zone.zone) begins.line begins.at items);
}

-- a span of the channel that holds it
abbrev pub stretch_of_span : JobView → ZoneLine → ℕ → Span → StretchView
stretch_of_span job zone c span = stretch_between job zone (Some c) span.begins span.last span.entry span.items

-- the time while nobody holds it
abbrev pub free_stretch : JobView → ZoneLine → TenureView → StretchView
free_stretch job zone t = stretch_between job zone None t.begins t.last (entry_of_beginning t.begins) []

-- the spans of these numbers, up to the end where the last is none
abbrev pub spans_between : List Span → ℕ → Option ℕ → List Span
spans_between spans from None = drop from spans
spans_between spans from (Some upto) = take (suc upto - from) (drop from spans)

-- these spans, of which the last ends with this event, or lasts
abbrev pub spans_until : Option EventId → List Span → List Span
spans_until last [] = []
spans_until last (span ∷ []) = record span { last = last } ∷ []
spans_until last (span ∷ next ∷ spans) = span ∷ spans_until last (next ∷ spans)

-- the spans of the owner of a tenure: the last of them ends with the tenure
abbrev pub spans_in : List Span → TenureView → List Span
spans_in spans t = spans_until t.last (spans_between spans t.from t.upto)

abbrev pub stretches_held_by : JobView → ZoneLine → (ℕ → List Span) → TenureView → Option ℕ → List StretchView
stretches_held_by job zone spans t None = free_stretch job zone t ∷ []
stretches_held_by job zone spans t (Some c) = map (stretch_of_span job zone c) (spans_in (spans c) t)

-- in a tenure the zone has the spans of its owner, or one stretch where nobody holds it
abbrev pub stretches_in_tenure : JobView → ZoneLine → (ℕ → List Span) → TenureView → List StretchView
stretches_in_tenure job zone spans t = stretches_held_by job zone spans t t.owner

-- the stretches of a zone in a run with these items and these events
unfoldable pub stretches_of_zone : JobView → List (List Item) → List OccurrenceView → ZoneLine → List StretchView
stretches_of_zone job items occurrences zone = flat_map (stretches_in_tenure job zone (spans_of job items occurrences)) (tenures_of job occurrences zone)

-- the stretches of all zones in a run from this board
unfoldable pub all_stretches : JobView → Board → RunView → StretchesView
all_stretches job b run = record { zones = map (stretches_of_zone job run.items (occurrences_of b (moves_in run.entries))) (zones_in_order job) }
