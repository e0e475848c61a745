use Rattle.std.proofs.Common.{List, Bool, map, ap}
use Rattle.axis_sets.specs.declared.limits.TheConstants.{CHANNEL_PLACES}
use Rattle.nc_blocks.specs.Indices.{OperandFits}
use Rattle.nc_blocks.specs.Statement.{operand_view}
use Rattle.coordination_words.proofs.Arguments.{holds_at}
use Rattle.coordination_words.proofs.SetSteps.{empty_is}
use Rattle.coordination_words.specs.Operands as model
use Rattle.coordination_words.proofs.operands.channels_in.Goals as goal

pub loop-operand-init : goal.loop-operand-init
loop-operand-init g c = (
  c.empty-channels.ensures.size,
  ap (λ (s : List Bool). model.set_with (model.channel_in (g.S.Setting.setting c.args.setting.now) (g.N.Names.values c.args.parameters.now)) s (map operand_view c.args.operands.now))
      (empty_is c.empty-channels.result CHANNEL_PLACES c.empty-channels.ensures.members c.empty-channels.ensures.size),
)

pub channel_in-requires : goal.channel_in-requires
channel_in-requires g c = holds_at OperandFits operand_view c.args.operands.now c.loop-operand.operand-index c.operand-item.result c.requires c.loop-operand-test.true c.operand-item.is
