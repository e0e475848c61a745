-- Meaning. The axes in the slots of a channel, and the settable offsets of its slots.
use Rattle.std.specs.Prelude.{ℕ, ◌==◌, ◌&&◌, ℤ, pos, find, Option, option_map}
use Rattle.std.specs.Option.{option_map_or}
use Rattle.job_types.specs.declared.job.GeoLine.{GeoLine}
use Rattle.job_types.specs.declared.job.OffsetLine.{OffsetLine}
use Rattle.job_types.specs.Job.{JobView}

-- the GEO line of a slot of a channel: 0, 1, 2 are the slots X, Y, Z
unfoldable pub slot_line : JobView → ℕ → ℕ → Option GeoLine
slot_line job channel slot = find (λ g. g.channel == channel && g.slot == slot) job.geo

-- the axis in a slot of a channel
abbrev pub slot_axis : JobView → ℕ → ℕ → Option ℕ
slot_axis job channel slot = option_map (λ g. g.axis) (slot_line job channel slot)

-- the OFFSET line of a channel for a G word and a slot
unfoldable pub offset_line : JobView → ℕ → ℕ → ℕ → Option OffsetLine
offset_line job channel word slot = find (λ l. l.channel == channel && (l.g == word && l.slot == slot)) job.offsets

-- the settable offset; 0 where no line gives one
abbrev pub offset_of : JobView → ℕ → ℕ → ℕ → ℤ
offset_of job channel word slot = option_map_or (λ l. l.by) (offset_line job channel word slot) (pos 0)
