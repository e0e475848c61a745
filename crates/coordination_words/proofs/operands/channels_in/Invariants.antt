use Rattle.std.proofs.Common.{◌≡◌, drop, map, length, replicate, false}
use Rattle.axis_sets.specs.declared.limits.TheConstants.{CHANNEL_PLACES}
use Rattle.nc_blocks.specs.Statement.{operand_view}
use Rattle.coordination_words.specs.Operands as model
use Rattle.coordination_words.proofs.operands.channels_in.Given as goal

abbrev pub invariant-loop-operand : goal.invariant-loop-operand
invariant-loop-operand g l =
    (length l.channels ≡ CHANNEL_PLACES)
    × (model.set_with (model.channel_in (g.S.Setting.setting l.setting) (g.N.Names.values l.parameters)) l.channels (map operand_view (drop l.operand-index l.operands))
    ≡ model.set_with (model.channel_in (g.S.Setting.setting l.setting) (g.N.Names.values l.parameters)) (replicate CHANNEL_PLACES false) (map operand_view l.operands))
