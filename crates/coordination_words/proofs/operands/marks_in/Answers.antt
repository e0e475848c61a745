use Rattle.std.proofs.Common.{List, Bool, map, ap}
use Rattle.axis_sets.specs.declared.limits.TheConstants.{MARK_LIMIT}
use Rattle.nc_blocks.specs.Indices.{OperandFits}
use Rattle.nc_blocks.specs.Statement.{operand_view}
use Rattle.coordination_words.proofs.Arguments.{holds_at}
use Rattle.coordination_words.proofs.SetSteps.{empty_is}
use Rattle.coordination_words.specs.Operands as model
use Rattle.coordination_words.proofs.operands.marks_in.Goals as goal

pub loop-operand-init : goal.loop-operand-init
loop-operand-init g c = (
  c.empty-marks.ensures.size,
  ap (λ (s : List Bool). model.set_with (model.mark_in (g.S.Setting.setting c.args.setting.now) (g.N.Names.values c.args.parameters.now)) s (map operand_view c.args.operands.now))
      (empty_is c.empty-marks.result MARK_LIMIT c.empty-marks.ensures.members c.empty-marks.ensures.size),
)

pub mark_in-requires : goal.mark_in-requires
mark_in-requires g c = holds_at OperandFits operand_view c.args.operands.now c.loop-operand.operand-index c.operand-item.result c.requires c.loop-operand-test.true c.operand-item.is
