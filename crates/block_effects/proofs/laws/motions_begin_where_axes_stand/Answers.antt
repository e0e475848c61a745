use Rattle.std.proofs.Common.{subst}
use Rattle.block_motions.specs.Motions.{IsMotionOf}
use Rattle.path_geometry.specs.declared.motion.Motion.{Motion}
use Rattle.sync_types.proofs.Positions.{moved_by}
use Rattle.block_effects.proofs.EffectLaws.{effect_is}
use Rattle.block_effects.proofs.laws.motions_begin_where_axes_stand.Goals as goal

pub returns : goal.returns
returns c equipment found line opener statement effect item motion is has moves =
    subst (λ (m : Motion). IsMotionOf equipment.owned found.at m) (moved_by item motion moves) (effect_is equipment found line opener statement effect item is has)
