-- The radii of a sound arc are in order and not too great.
use Rattle.std.proofs.Common.{arith}
use Rattle.arc_quadrants.proofs.SoundArcs.{radii_ordered, outer_near}
use Rattle.swept_boxes.proofs.arcs.box_of_quarter.Goals as goal

pub box_of_part-requires-clause-radii : goal.box_of_part-requires-clause-radii
box_of_part-requires-clause-radii c = radii_ordered c.args.arc.now c.requires.sound

pub box_of_part-requires-clause-outer : goal.box_of_part-requires-clause-outer
box_of_part-requires-clause-outer c = omega (arith, outer_near c.args.arc.now c.requires.sound)
