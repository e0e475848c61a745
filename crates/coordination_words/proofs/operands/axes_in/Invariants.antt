use Rattle.std.proofs.Common.{◌≡◌, drop, map, length, replicate, false}
use Rattle.axis_sets.specs.declared.limits.TheConstants.{AXIS_LIMIT}
use Rattle.nc_blocks.specs.Statement.{operand_view}
use Rattle.coordination_words.specs.Operands as model
use Rattle.coordination_words.proofs.operands.axes_in.Given as goal

abbrev pub invariant-loop-operand : goal.invariant-loop-operand
invariant-loop-operand g l =
    (length l.axes ≡ AXIS_LIMIT)
    × (model.set_with (model.axis_in (g.S.Setting.setting l.setting)) l.axes (map operand_view (drop l.operand-index l.operands))
    ≡ model.set_with (model.axis_in (g.S.Setting.setting l.setting)) (replicate AXIS_LIMIT false) (map operand_view l.operands))
