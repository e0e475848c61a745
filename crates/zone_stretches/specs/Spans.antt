-- Meaning. The time of a channel in a run: each of its events ends one of its spans and begins the next.
use Rattle.std.specs.Prelude.{ℕ, ◌==◌, ◌&&◌, ℤ, Bool, List, [], ◌∷◌, filter, slice_index_or, Option, Some, None, unwrap_or, if◌then◌else◌}
use Rattle.std.specs.List.{list_any}
use Rattle.std.specs.Option.{option_map_or}
use Rattle.axis_sets.specs.Positions.{position_of}
use Rattle.axis_sets.specs.Sets.{has}
use Rattle.job_types.specs.Axes.{start_position}
use Rattle.job_types.specs.Job.{JobView}
use Rattle.sync_types.specs.declared.Item.{Item}
use Rattle.sync_types.specs.declared.runs.EventId.{EventId}
use Rattle.sync_types.specs.declared.verdicts.StretchKind.{StretchKind}
use Rattle.sync_types.specs.declared.verdicts.StretchKind.TheVariants.{Idle, Run}
use Rattle.zone_stretches.specs.Occurrences.{OccurrenceView}

-- how a time begins: what the channel does in it, the line of the channel's last act before it, where axes stand, which zones
-- are on, and the event, or none where it begins with the job
pub record SpanStartView : Type 0 where
  pub kind : StretchKind
  pub line : ℕ
  pub at : ℕ → ℤ
  pub on : ℕ → Bool
  pub first : Option EventId

-- a span: how it begins, the event that ends it, or none where it lasts, the entry to which it belongs, and what the channel
-- does in it
pub record Span : Type 0 where
  pub begins : SpanStartView
  pub last : Option EventId
  pub entry : ℕ
  pub items : List Item

abbrev pub starts_at_first : JobView → ℕ → Bool
starts_at_first job c = list_any (λ line. (line.channel == c) && line.starts) job.channels

abbrev pub is_on_at_first : JobView → ℕ → Bool
is_on_at_first job z = list_any (λ zone. (zone.zone == z) && zone.on) job.zones

-- a channel that its line starts runs from the job's beginning
abbrev pub first_beginning : JobView → ℕ → SpanStartView
first_beginning job c = record {
  kind = if starts_at_first job c then Run else Idle;
  line = 0;
  at = start_position job;
  on = is_on_at_first job;
  first = None;
}

-- an axis of which the event tells nothing stands where it stood; who goes on has acted last on the line of its wait
abbrev pub beginning_after : SpanStartView → OccurrenceView → SpanStartView
beginning_after before o = record {
  kind = o.kind;
  line = unwrap_or o.line before.line;
  at = λ axis. unwrap_or (position_of o.at axis) (before.at axis);
  on = has o.on;
  first = Some o.name;
}

-- the entry of the event with which a time begins, 0 where it begins with the job
abbrev pub entry_of_beginning : SpanStartView → ℕ
entry_of_beginning begins = option_map_or (λ e. e.step) begins.first 0

-- a span that lasts
abbrev pub span_to_end : SpanStartView → Span
span_to_end begins = record { begins = begins; last = None; entry = entry_of_beginning begins; items = [] }

-- an act ends a span in which its channel ran: it belongs to the entry of the act, with its items. Who goes on stood until then.
abbrev pub span_until : List (List Item) → SpanStartView → EventId → Span
span_until items begins last = record {
  begins = begins;
  last = Some last;
  entry = if last.go then entry_of_beginning begins else last.step;
  items = if last.go then [] else slice_index_or items last.step [];
}

-- the spans of a channel that begins so, with these events to come
abbrev pub spans_from : List (List Item) → SpanStartView → List OccurrenceView → List Span
spans_from items begins [] = span_to_end begins ∷ []
spans_from items begins (o ∷ os) = span_until items begins o.name ∷ spans_from items (beginning_after begins o) os

-- the spans of a channel in a run with these items and these events: span 0 begins with the job, and each other with the event of
-- the channel that has its number
unfoldable pub spans_of : JobView → List (List Item) → List OccurrenceView → ℕ → List Span
spans_of job items occurrences c = spans_from items (first_beginning job c) (filter (λ o. o.channel == c) occurrences)
