-- Meaning. What a block of coordination finds in the job and in its channel.
use Rattle.std.specs.Prelude.{ℕ, ◌==◌, ◌&&◌, is_some, true, ℤ, Bool, if◌then◌else◌, List, map, Option, Some, None, Result, Ok}
use Rattle.std.specs.List.{list_all, list_any}
use Rattle.axis_sets.specs.Sets.{has}
use Rattle.coordination_words.specs.Requests.{request_of}
use Rattle.coordination_words.specs.Settings.{SettingView}
use Rattle.coordination_words.specs.declared.asked.Request.{Request}
use Rattle.job_lines.specs.Extent.{extent_of}
use Rattle.job_types.specs.Axes.{axis_named, is_of}
use Rattle.job_types.specs.Job.{JobView, ProgramView}
use Rattle.job_types.specs.Zones.{carriers}
use Rattle.job_types.specs.declared.job.AxisLine.{AxisLine}
use Rattle.job_types.specs.declared.job.ChannelLine.{ChannelLine}
use Rattle.job_types.specs.declared.job.ZoneLine.{ZoneLine}
use Rattle.nc_blocks.specs.Statement.{Statement, Coord}
use Rattle.nc_expressions.specs.Value.{◌>>=◌}
use Rattle.nc_expressions.specs.Values.{Values}

-- an axis carries one of the zone's directions
unfoldable pub is_carried : ZoneLine → Bool
is_carried zone = list_any (λ side. is_some side.carrier) zone.sides

-- a direction stands still, or an axis of these carries it
abbrev pub is_side_of : List Bool → Option (ℕ × Bool) → Bool
is_side_of axes None = true
is_side_of axes (Some carrier) = has axes carrier.0

-- all axes of a zone are among these
unfoldable pub has_all_of : List Bool → ZoneLine → Bool
has_all_of axes zone = list_all (λ side. is_side_of axes side.carrier) zone.sides

-- a channel that owns these axes holds the zone: it owns all that carry it; a zone that no axis carries has the holder of its line for good
unfoldable pub is_held : ℕ → List Bool → ZoneLine → Bool
is_held channel axes zone = if is_carried zone then has_all_of axes zone else is_of channel zone.holder

-- it holds the zone of this number
unfoldable pub holds_zone : ℕ → List ZoneLine → List Bool → ℕ → Bool
holds_zone channel zones axes number = list_any (λ zone. (zone.zone == number) && is_held channel axes zone) zones

-- what a block of coordination finds in a job of this version
abbrev pub setting_with : ℕ → List ChannelLine → List (List ℕ × ProgramView) → List AxisLine → List ZoneLine → ℕ → List (Option ℕ) → List Bool → SettingView
setting_with version channels programs axes zones channel slots owned = record {
  marks = (extent_of version).marks;
  channel = channel;
  has_channel = λ number. list_any (λ line. line.channel == number) channels;
  names = map (λ p. p.0) programs;
  axis_named = axis_named axes;
  slots = slots;
  owned = owned;
  zones = map carriers zones;
  holds = holds_zone channel zones owned;
}

-- the same in a job
abbrev pub setting_in : JobView → ℕ → List (Option ℕ) → List Bool → SettingView
setting_in job = setting_with job.version job.channels job.programs job.axes job.zones

-- what a block asks for: nothing, where it is none of coordination
unfoldable pub request_in : SettingView → Values → Statement → Result (Option Request) ℕ
request_in setting values (Coord word operands) = request_of setting values word operands >>= λ request. Ok (Some request)
request_in setting values other = Ok None
