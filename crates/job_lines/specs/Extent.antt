-- Meaning. How much a job of each version of job lists may have.
use Rattle.std.specs.Prelude.{ℕ, if◌then◌else◌, ◌==◌}
use Rattle.axis_sets.specs.declared.limits.TheConstants.{AXIS_LIMIT, CHANNEL_LIMIT, MARK_LIMIT}
use Rattle.job_lines.specs.declared.extent.Extent.{Extent}
use Rattle.job_lines.specs.declared.extent.TheConstants.{FIRST_VERSION, FIRST_VERSION_AXES, FIRST_VERSION_CHANNELS, FIRST_VERSION_MARKS}

-- of the first version
abbrev pub first_extent : Extent
first_extent = record { channels = FIRST_VERSION_CHANNELS; axes = FIRST_VERSION_AXES; marks = FIRST_VERSION_MARKS }

-- of all others: what there is at most
abbrev pub widest_extent : Extent
widest_extent = record { channels = CHANNEL_LIMIT; axes = AXIS_LIMIT; marks = MARK_LIMIT }

-- how many channels and axes a job of a version may have, and how many marks there are in it
abbrev pub extent_of : ℕ → Extent
extent_of version = if version == FIRST_VERSION then first_extent else widest_extent
