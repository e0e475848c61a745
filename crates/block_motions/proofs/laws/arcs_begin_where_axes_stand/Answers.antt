use Rattle.block_motions.proofs.ArcLaws.{arc_is}
use Rattle.block_motions.proofs.laws.arcs_begin_where_axes_stand.Goals as goal

pub returns-clause-begins : goal.returns-clause-begins
returns-clause-begins c slots owned h at targets words motion is = (arc_is owned at words motion h slots targets is).of

pub returns-clause-sound : goal.returns-clause-sound
returns-clause-sound c slots owned h at targets words motion is = (arc_is owned at words motion h slots targets is).sound
