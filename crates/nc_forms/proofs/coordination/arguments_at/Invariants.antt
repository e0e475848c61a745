use Rattle.std.proofs.Common.{◌≡◌, ◌≤◌, ◌-◌, length, drop, map}
use Rattle.std.specs.Prelude.{All}
use Rattle.nc_blocks.specs.Indices.{OperandFits}
use Rattle.nc_blocks.specs.Lists.{list_from, list_at}
use Rattle.nc_blocks.specs.Statement.{operand_view}
use Rattle.nc_forms.specs.Coordination.{argument_at}
use Rattle.nc_forms.proofs.coordination.arguments_at.Given as goal

abbrev pub invariant-loop-list : goal.invariant-loop-list
invariant-loop-list l = record {
  within : l.at ≤ length l.words.tokens;
  so_far : list_from (λ before. argument_at l.words l.kind) (map operand_view l.list.items) l.at (drop l.at l.words.tokens) 0 ≡ list_at (λ before. argument_at l.words l.kind) l.words l.start;
  fits : All OperandFits (map operand_view l.list.items);
}

abbrev pub decreases-loop-list : goal.decreases-loop-list
decreases-loop-list l = length l.words.tokens - l.at
