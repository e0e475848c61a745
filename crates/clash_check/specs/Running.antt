-- Steps. What is counted of the stretches of a zone as places among them go on.
use Rattle.std.specs.Prelude.{◌≡◌, ℕ, ◌<◌, ◌==◌, ◌&&◌, not, Bool, true, List, length, slice_index, slice_index_or, sum_by, take}
use Rattle.axis_sets.specs.declared.limits.TheConstants.{CHANNEL_PLACES}
use Rattle.job_types.specs.Axes.{is_of}
use Rattle.clash_check.specs.PairCounts.{capped}
use Rattle.zone_stretches.specs.Stretches.{StretchView}

-- how many boxes stretches have
abbrev pub boxes_in : List StretchView → ℕ
boxes_in stretches = sum_by (λ stretch. length stretch.boxes) stretches

-- so many boxes have the stretches before a place, or the greatest number that is counted
abbrev pub IsSum : List StretchView → ℕ → ℕ → Type 0
IsSum stretches place boxes = boxes ≡ capped (boxes_in (take place stretches))

-- a stretch of this channel with boxes
abbrev pub has_boxes_of : ℕ → StretchView → Bool
has_boxes_of channel stretch = not (length stretch.boxes == 0) && is_of channel stretch.name.channel

-- of the stretches before a place each of a channel with boxes is before the place that is kept for the channel
abbrev pub IsLatest : List StretchView → ℕ → List ℕ → Type 0
IsLatest stretches upto places =
    (channel k : ℕ) (d : StretchView) → channel < CHANNEL_PLACES → k < upto → k < length stretches → has_boxes_of channel (slice_index_or stretches k d) ≡ true → k < slice_index places channel
