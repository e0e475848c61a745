use Rattle.std.proofs.Common.{List, Bool, map, ap}
use Rattle.axis_sets.specs.declared.limits.TheConstants.{AXIS_LIMIT}
use Rattle.nc_blocks.specs.Statement.{operand_view}
use Rattle.coordination_words.proofs.SetSteps.{empty_is}
use Rattle.coordination_words.specs.Operands as model
use Rattle.coordination_words.proofs.operands.axes_in.Goals as goal

pub loop-operand-init : goal.loop-operand-init
loop-operand-init g c = (
  c.empty-axes.ensures.size,
  ap (λ (s : List Bool). model.set_with (model.axis_in (g.S.Setting.setting c.args.setting.now)) s (map operand_view c.args.operands.now))
      (empty_is c.empty-axes.result AXIS_LIMIT c.empty-axes.ensures.members c.empty-axes.ensures.size),
)
