-- Meaning. Where a job starts: its channels, axes and zones, each in the order of their numbers.
use Rattle.std.specs.Prelude.{ℕ, ℤ, ◌==◌, Bool, List, find, position, slice_get, Option}
use Rattle.std.specs.List.{filter_map, range_with_len}
use Rattle.std.specs.Map.{keys_of}
use Rattle.std.specs.Option.{option_and_then, option_map}
use Rattle.std.specs.Str.{bytes_eq}
use Rattle.axis_sets.specs.declared.limits.TheConstants.{AXIS_LIMIT, CHANNEL_LIMIT, ZONE_LIMIT}
use Rattle.job_types.specs.Job.{JobView}
use Rattle.job_types.specs.Zones.{carriers, zone_line}
use Rattle.job_types.specs.declared.job.AxisLine.{AxisLine}
use Rattle.job_types.specs.declared.job.ChannelLine.{ChannelLine}
use Rattle.job_types.specs.declared.job.ZoneLine.{ZoneLine}
use Rattle.sync_types.specs.Views.{StartView}

-- the CHANNEL line of a channel
abbrev pub line_of_channel : JobView → ℕ → Option ChannelLine
line_of_channel job channel = find (λ line. line.channel == channel) job.channels

-- the place of the program of this name among the programs of the job
abbrev pub place_of_name : JobView → List ℕ → Option ℕ
place_of_name job name = position (bytes_eq name) (keys_of job.programs)

-- the place of the program that a CHANNEL line selects, or none where it selects none
abbrev pub selected_place : JobView → ChannelLine → Option ℕ
selected_place job line = option_and_then (place_of_name job) line.program

-- a channel, the place of its program, and whether it starts
abbrev pub first_channel : JobView → ChannelLine → ℕ × Option ℕ × Bool
first_channel job line = (line.channel, selected_place job line, line.starts)

abbrev pub channel_entry : JobView → ℕ → Option (ℕ × Option ℕ × Bool)
channel_entry job channel = option_map (first_channel job) (line_of_channel job channel)

unfoldable pub first_channels : JobView → List (ℕ × Option ℕ × Bool)
first_channels job = filter_map (channel_entry job) (range_with_len 1 CHANNEL_LIMIT)

-- an axis by its place among the AXIS lines, its owner, or none where it is free, and its position
abbrev pub first_axis : ℕ → AxisLine → ℕ × Option ℕ × ℤ
first_axis axis line = (axis, line.owner, line.at)

abbrev pub axis_entry : JobView → ℕ → Option (ℕ × Option ℕ × ℤ)
axis_entry job axis = option_map (first_axis axis) (slice_get job.axes axis)

unfoldable pub first_axes : JobView → List (ℕ × Option ℕ × ℤ)
first_axes job = filter_map (axis_entry job) (range_with_len 0 AXIS_LIMIT)

-- a zone, the axes that carry it, its holder, or none where it is held free, and whether it is on
abbrev pub first_zone : ZoneLine → ℕ × List Bool × Option ℕ × Bool
first_zone zone = (zone.zone, carriers zone, zone.holder, zone.on)

abbrev pub zone_entry : JobView → ℕ → Option (ℕ × List Bool × Option ℕ × Bool)
zone_entry job zone = option_map first_zone (zone_line job zone)

unfoldable pub first_zones : JobView → List (ℕ × List Bool × Option ℕ × Bool)
first_zones job = filter_map (zone_entry job) (range_with_len 1 ZONE_LIMIT)

-- the start of a job
unfoldable pub start_of : JobView → StartView
start_of job = record { channels = first_channels job; axes = first_axes job; zones = first_zones job }
