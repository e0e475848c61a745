-- Meaning. Who holds a zone, one after another: a zone goes with its axes.
use Rattle.std.specs.Prelude.{ℕ, suc, ◌==◌, ◌||◌, Bool, false, List, [], ◌∷◌, Option, Some, None, unwrap_or, if◌then◌else◌}
use Rattle.std.specs.List.{list_any}
use Rattle.std.specs.Option.{option_map_or}
use Rattle.axis_sets.specs.Positions.{stands}
use Rattle.axis_sets.specs.Sets.{has}
use Rattle.job_types.specs.Axes.{start_position}
use Rattle.job_types.specs.Job.{JobView}
use Rattle.job_types.specs.declared.job.ZoneLine.{ZoneLine}
use Rattle.sync_types.specs.declared.runs.EventId.{EventId}
use Rattle.sync_types.specs.declared.verdicts.StretchKind.TheVariants.{Free}
use Rattle.zone_stretches.specs.Occurrences.{OccurrenceView}
use Rattle.zone_stretches.specs.Spans.{SpanStartView, is_on_at_first}

-- A tenure: the channel that holds the zone, or none; of its spans the number of the first in the tenure, and of the last, or none
-- where it lasts; how the zone stands as it begins, which counts where nobody holds it; and the event that ends it.
pub record TenureView : Type 0 where
  pub owner : Option ℕ
  pub from : ℕ
  pub upto : Option ℕ
  pub begins : SpanStartView
  pub last : Option EventId

-- a direction is carried by one of the axes for which the test holds
abbrev pub is_carried_by : (ℕ → Bool) → Option (ℕ × Bool) → Bool
is_carried_by test None = false
is_carried_by test (Some carrier) = test carrier.0

-- an axis of the zone is among them
abbrev pub carry : ZoneLine → (ℕ → Bool) → Bool
carry zone test = list_any (λ side. is_carried_by test side.carrier) zone.sides

-- the zone changes hands in an event: its axes are let go or taken
abbrev pub changes_hands : ZoneLine → OccurrenceView → Bool
changes_hands zone o = carry zone o.frees || carry zone o.takes

-- how the zone stands as the job begins
abbrev pub first_tenure : JobView → ZoneLine → TenureView
first_tenure job zone = record {
  owner = zone.holder;
  from = 0;
  upto = None;
  begins = record { kind = Free; line = 0; at = start_position job; on = is_on_at_first job; first = None };
  last = None;
}

-- who takes the axes holds the zone; where they are let go nobody does. The channel's next span is the first of the tenure.
abbrev pub tenure_after : ZoneLine → (ℕ → ℕ) → OccurrenceView → TenureView
tenure_after zone counts o = record {
  owner = if carry zone o.takes then Some o.channel else None;
  from = suc (counts o.channel);
  upto = None;
  begins = record { kind = Free; line = unwrap_or o.line 0; at = stands o.at; on = has o.on; first = Some o.name };
  last = None;
}

-- the tenure ends with an event: its last span is that in which its owner is then
abbrev pub tenure_until : (ℕ → ℕ) → TenureView → OccurrenceView → TenureView
tenure_until counts t o = record t { upto = Some (option_map_or counts t.owner 0); last = Some o.name }

-- one event more of its channel
abbrev pub counted : (ℕ → ℕ) → ℕ → ℕ → ℕ
counted counts c d = if d == c then suc (counts d) else counts d

-- the tenures of a zone from one on; so many events of each channel have been
abbrev pub tenures_from : ZoneLine → (ℕ → ℕ) → TenureView → List OccurrenceView → List TenureView
tenures_from zone counts t [] = t ∷ []
tenures_from zone counts t (o ∷ os) =
    if changes_hands zone o
    then tenure_until counts t o ∷ tenures_from zone (counted counts o.channel) (tenure_after zone counts o) os
    else tenures_from zone (counted counts o.channel) t os

-- the tenures of a zone in a run with these events
unfoldable pub tenures_of : JobView → List OccurrenceView → ZoneLine → List TenureView
tenures_of job occurrences zone = tenures_from zone (λ c. 0) (first_tenure job zone) occurrences
