use Rattle.block_effects.specs.Effects.{held_after}
use Rattle.block_effects.proofs.effects.move_axes.Goals as goal

pub returns-clause-made : goal.returns-clause-made
returns-clause-made g c = λ blocks chain after composed.
    c.move_programmed.ensures.made (held_after (g.S.Setup.offset c.args.setup.now) blocks chain c.args.lengths) (c.conditions-conditions.ensures blocks chain after composed)
