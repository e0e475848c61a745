use Rattle.std.proofs.Common.{◌≡◌}
use Rattle.nc_blocks.specs.Statement.{statement_view}
use Rattle.explain_readings.specs.Readings.{readings_below}
use Rattle.explain_readings.proofs.readings.readings_below.Given as goal

abbrev pub invariant-loop-number : goal.invariant-loop-number
invariant-loop-number g l = l.list.items ≡ readings_below (g.N.Names.values l.names) (statement_view l.opener) (statement_view l.statement) l.number
