-- Meaning. The parameters that a block reads, with their values.
use Rattle.std.specs.Prelude.{ℕ, ℤ, Bool, if◌then◌else◌, List, Option, Some, None}
use Rattle.std.specs.List.{filter_map, range_with_len}
use Rattle.nc_blocks.specs.Statement.{Statement}
use Rattle.nc_expressions.specs.declared.limits.TheConstants.{PARAMETER_LIMIT}
use Rattle.nc_expressions.specs.Values.{Values}
use Rattle.explain_readings.specs.Reads.{block_reads}
use Rattle.explain_readings.specs.declared.readings.Reading.{Reading}

-- a parameter with its value
abbrev pub reading : Values → ℕ → Reading
reading values number = record { number = number; value = values.parameter number }

-- a parameter, where the block reads it
unfoldable pub reading_of : Values → (opener statement : Statement) → ℕ → Option Reading
reading_of values opener statement number = if block_reads values opener statement number then Some (reading values number) else None

-- of the first so many parameters those that the block reads, in their order
abbrev pub readings_below : Values → (opener statement : Statement) → ℕ → List Reading
readings_below values opener statement limit = filter_map (reading_of values opener statement) (range_with_len 0 limit)

-- of all parameters those
unfoldable pub readings_of : Values → (opener statement : Statement) → List Reading
readings_of values opener statement = readings_below values opener statement PARAMETER_LIMIT
