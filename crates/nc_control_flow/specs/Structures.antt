-- Meaning. Where structures branch, begin and end.
use Rattle.std.specs.Prelude.{ℕ, List, unwrap_or}
use Rattle.nc_blocks.specs.Statement.{BlockView}
use Rattle.nc_control_flow.specs.declared.parts.Sought.TheVariants.{End, Branch, Opener}
use Rattle.nc_control_flow.specs.Parts.{parts}
use Rattle.nc_control_flow.specs.Places.{those_after, those_before}
use Rattle.nc_control_flow.specs.Matching.{matching}

-- the end of the structure round a place; 0 where there is none, which never comes where structures match (`structures_are_found`)
unfoldable pub closing : ℕ → List BlockView → ℕ
closing pc blocks = unwrap_or (matching End 0 (those_after pc (parts blocks))) 0

-- its ELSE, or its end where that comes first
unfoldable pub branching : ℕ → List BlockView → ℕ
branching pc blocks = unwrap_or (matching Branch 0 (those_after pc (parts blocks))) 0

-- its beginning
unfoldable pub opening : ℕ → List BlockView → ℕ
opening pc blocks = unwrap_or (matching Opener 0 (those_before pc (parts blocks))) 0
