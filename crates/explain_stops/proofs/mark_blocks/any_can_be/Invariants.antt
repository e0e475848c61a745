use Rattle.std.proofs.Common.{◌≡◌, drop, map}
use Rattle.std.specs.List.{list_any}
use Rattle.nc_blocks.specs.Statement.{operand_view}
use Rattle.explain_stops.specs.MarkBlocks.{can_be}
use Rattle.explain_stops.proofs.mark_blocks.any_can_be.Given as goal

abbrev pub invariant-loop-operand : goal.invariant-loop-operand
invariant-loop-operand l = list_any (can_be l.mark) (map operand_view (drop l.operand-index l.operands)) ≡ list_any (can_be l.mark) (map operand_view l.operands)
