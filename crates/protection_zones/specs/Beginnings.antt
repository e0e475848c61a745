-- Steps. How the times of a channel begin, as the code keeps them, and the spans between them.
use Rattle.std.specs.Prelude.{◌≡◌, ◌≤◌, ◌<◌, ◌==◌, ℕ, suc, nat_lt, if◌then◌else◌, List, [], ◌∷◌, drop, map, filter, slice_index_or, Option, Some, None, Vec}
use Rattle.std.specs.Global.{Global}
use Rattle.axis_sets.specs.declared.limits.TheConstants.{CHANNEL_PLACES}
use Rattle.job_types.specs.Job.{JobView}
use Rattle.axis_sets.specs.Sets.{has}
use Rattle.zone_stretches.specs.Occurrences.{OccurrenceView}
use Rattle.zone_stretches.specs.Rows.{positions_in}
use Rattle.zone_stretches.specs.Spans.{SpanStartView, Span, beginning_after, entry_of_beginning, first_beginning}
use Rattle.protection_zones.specs.declared.spans.SpanStart.{SpanStart}
use Rattle.sync_types.specs.declared.Item.{Item}
use Rattle.sync_types.specs.declared.runs.EventId.{EventId}
use Rattle.sync_types.specs.declared.verdicts.StretchKind.TheVariants.{Free}

abbrev pub shown_outset : SpanStart → SpanStartView
shown_outset o = record { kind = o.kind; line = o.line; at = positions_in o.at; on = has o.on; first = o.first }

abbrev pub no_outset : SpanStart
no_outset = record { kind = Free; line = 0; at = []; on = []; first = None }

-- how the times of a channel begin, from one on, with these events to come
abbrev pub beginnings_from : SpanStartView → List OccurrenceView → List SpanStartView
beginnings_from begins [] = begins ∷ []
beginnings_from begins (o ∷ os) = begins ∷ beginnings_from (beginning_after begins o) os

-- the entry and the items of a span that begins so and ends with this event, or lasts
abbrev pub entry_until : SpanStartView → Option EventId → ℕ
entry_until begins None = entry_of_beginning begins
entry_until begins (Some last) = if last.go then entry_of_beginning begins else last.step

abbrev pub items_until : List (List Item) → Option EventId → List Item
items_until items None = []
items_until items (Some last) = if last.go then [] else slice_index_or items last.step []

abbrev pub span_up_to : List (List Item) → SpanStartView → Option EventId → Span
span_up_to items begins last = record { begins = begins; last = last; entry = entry_until begins last; items = items_until items last }

-- the event with which the first of these begins
abbrev pub first_in : List SpanStartView → Option EventId
first_in [] = None
first_in (b ∷ bs) = b.first

-- the spans that begin so, each up to the next
abbrev pub spans_along : List (List Item) → List SpanStartView → List Span
spans_along items [] = []
spans_along items (b ∷ bs) = span_up_to items b (first_in bs) ∷ spans_along items bs

-- the span of this number
abbrev pub span_at : List (List Item) → List SpanStart → ℕ → Span
span_at items outsets place = span_up_to items (shown_outset (slice_index_or outsets place no_outset)) (first_in (drop (suc place) (map shown_outset outsets)))

-- the items of each entry
abbrev pub all_items : List (Vec Item Global) → List (List Item)
all_items items = map (λ done. done.items) items

-- the end of the spans of a tenure
abbrev pub end_of : ℕ → Option ℕ → ℕ
end_of size None = size
end_of size (Some upto) = if nat_lt upto size then suc upto else size

-- for each channel how its times begin
abbrev pub outsets_in : List (Vec SpanStart Global) → ℕ → List SpanStartView
outsets_in outsets c = slice_index_or (map (λ own. map shown_outset own.items) outsets) c []

pub record AreOutsets (job : JobView) (occurrences : List OccurrenceView) (outsets : List (Vec SpanStart Global)) : Type 0 where
  pub own : (c : ℕ) → 1 ≤ c → c < CHANNEL_PLACES → outsets_in outsets c ≡ beginnings_from (first_beginning job c) (filter (λ o. o.channel == c) occurrences)
