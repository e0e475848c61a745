-- Meaning. The axes of a job: their names, where they stand at the start, and which channel owns them then.
use Rattle.std.specs.Prelude.{ℕ, ◌==◌, nat_lt, ℤ, pos, Bool, false, if◌then◌else◌, List, ◌++◌, slice_get, position, encode_utf8, Option, Some, None}
use Rattle.std.specs.Fmt.{decimal}
use Rattle.std.specs.Option.{option_and_then, option_map_or}
use Rattle.std.specs.Str.{bytes_eq}
use Rattle.job_types.specs.declared.job.AxisLine.{AxisLine}
use Rattle.job_types.specs.Job.{JobView}
use Rattle.axis_sets.specs.declared.limits.TheConstants.{AXIS_LIMIT}

-- an axis is named by its place among the AXIS lines, below 16
abbrev pub axis_at : ℕ → Option ℕ
axis_at place = if nat_lt place AXIS_LIMIT then Some place else None

-- the name of an axis: its letter and its number
unfoldable pub axis_name : AxisLine → List ℕ
axis_name line = encode_utf8 line.letter ++ decimal line.number

-- the axis with this name
unfoldable pub axis_named : List AxisLine → List ℕ → Option ℕ
axis_named axes name = option_and_then axis_at (position (λ line. bytes_eq name (axis_name line)) axes)

-- where the job puts an axis
unfoldable pub start_position : JobView → ℕ → ℤ
start_position job axis = option_map_or (λ line. line.at) (slice_get job.axes axis) (pos 0)

-- the channel that owns an axis at the start, or none where there is no such axis or it is free
unfoldable pub first_owner : JobView → ℕ → Option ℕ
first_owner job axis = option_and_then (λ line. line.owner) (slice_get job.axes axis)

-- this is the channel
abbrev pub is_of : ℕ → Option ℕ → Bool
is_of channel None = false
is_of channel (Some owner) = owner == channel

-- the job gives the axis to the channel
unfoldable pub owns : JobView → ℕ → ℕ → Bool
owns job channel axis = is_of channel (first_owner job axis)
