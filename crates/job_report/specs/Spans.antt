-- Steps. Between which places of a run the steps of each channel stand, so that none is looked for elsewhere.
use Rattle.std.specs.Prelude.{◌≡◌, ℕ, ◌<◌, ◌≤◌, ◌==◌, true, List, length, slice_index_or}
use Rattle.axis_sets.specs.declared.limits.TheConstants.{CHANNEL_PLACES}
use Rattle.job_report.specs.declared.spans.StepSpans.{StepSpans}
use Rattle.sync_types.specs.Views.{EntryView}

-- of the first entries so many, those of the channel stand from one place on and before another
pub record StandBetween (entries : List EntryView) (count channel first end : ℕ) : Type 0 where
  pub ordered : first ≤ end
  pub within : end ≤ count
  pub own : (place : ℕ) (entry : EntryView) → place < count → slice_index_or entries place entry ≡ entry → (entry.channel == channel) ≡ true → (first ≤ place) × (place < end)

-- it is so of each channel
abbrev pub AreBetween : List EntryView → ℕ → List ℕ → List ℕ → Type 0
AreBetween entries count first end =
    (channel : ℕ) → channel < CHANNEL_PLACES → StandBetween entries count channel (slice_index_or first channel 0) (slice_index_or end channel 0)

-- of all entries, the steps of each channel stand within its span
abbrev pub AreSpans : List EntryView → StepSpans → Type 0
AreSpans entries spans = AreBetween entries (length entries) spans.first spans.end
