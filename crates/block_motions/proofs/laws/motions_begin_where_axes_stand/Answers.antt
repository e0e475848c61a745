use Rattle.block_motions.proofs.MotionLaws.{straight_is}
use Rattle.block_motions.proofs.laws.motions_begin_where_axes_stand.Goals as goal

pub returns : goal.returns
returns c slots owned h at targets motion is = straight_is owned at slots h targets motion is
