-- The centre of a sound arc is in range.
use Rattle.arc_quadrants.proofs.SoundArcs.{centre_in_range}
use Rattle.swept_boxes.proofs.arcs.arc_cover.Goals as goal

pub ranges_over-requires-clause-first : goal.ranges_over-requires-clause-first
ranges_over-requires-clause-first c = (centre_in_range c.args.arc.now c.requires).0

pub ranges_over-requires-clause-second : goal.ranges_over-requires-clause-second
ranges_over-requires-clause-second c = (centre_in_range c.args.arc.now c.requires).1
