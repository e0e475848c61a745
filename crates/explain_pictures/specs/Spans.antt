-- Meaning. The times of the two boxes that the verdict names.
use Rattle.std.specs.Prelude.{ℕ, List, [], ◌∷◌, Option, None, Some, option_map}
use Rattle.explain_views.specs.declared.shapes.Span.{Span}
use Rattle.sync_types.specs.declared.runs.EventId.{EventId}
use Rattle.explain_places.specs.declared.place.Meeting.{Meeting}
use Rattle.explain_places.specs.declared.place.Place.{Place}

-- the step of an event, if there is one
abbrev pub step_of : Option EventId → Option ℕ
step_of event = option_map (λ e. e.step) event

-- the time of a box: from the step with which its stretch begins to the one with which it ends
abbrev pub span_of : Place → Span
span_of place = record { name = place.name; first = step_of place.first; last = step_of place.last }

-- those of both
unfoldable pub named_spans : Option Meeting → List Span
named_spans None = []
named_spans (Some met) = span_of met.left ∷ span_of met.right ∷ []
