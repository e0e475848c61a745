-- What is known of a sound arc and of its quarters is what their parts need.
use Rattle.std.proofs.Common.{◌∙◌, ap, arith}
use Rattle.arc_quadrants.proofs.HalfLaws.{near_short}
use Rattle.arc_quadrants.proofs.SoundArcs.{radii_ordered, outer_near, centre_in_range}
use Rattle.swept_boxes.specs.PlaneBoxes.{BoxInPlane}
use Rattle.swept_boxes.specs.Pieces.{ranges_over}
use Rattle.swept_boxes.proofs.ArcPieceLaws.{piece_of_quarter}
use Rattle.swept_boxes.proofs.sweeps.quarter_piece.Goals as goal

pub part_of_quarter-requires-clause-from : goal.part_of_quarter-requires-clause-from
part_of_quarter-requires-clause-from c = near_short c.args.depth c.args.quarter.now.from c.requires.deep c.requires.fit.from

pub part_of_quarter-requires-clause-to : goal.part_of_quarter-requires-clause-to
part_of_quarter-requires-clause-to c = near_short c.args.depth c.args.quarter.now.to c.requires.deep c.requires.fit.to

pub box_of_part-requires-clause-radii : goal.box_of_part-requires-clause-radii
box_of_part-requires-clause-radii c = radii_ordered c.args.arc.now c.requires.sound

pub box_of_part-requires-clause-outer : goal.box_of_part-requires-clause-outer
box_of_part-requires-clause-outer c = omega (arith, outer_near c.args.arc.now c.requires.sound)

pub ranges_over-requires-clause-first : goal.ranges_over-requires-clause-first
ranges_over-requires-clause-first c = (centre_in_range c.args.arc.now c.requires.sound).0

pub ranges_over-requires-clause-second : goal.ranges_over-requires-clause-second
ranges_over-requires-clause-second c = (centre_in_range c.args.arc.now c.requires.sound).1

pub returns : goal.returns
returns c =
    piece_of_quarter c.args.arc.now c.args.depth c.args.place c.args.quarter.now c.part_of_quarter.result c.ranges_over.result
    c.part_of_quarter.ensures.part
    (c.ranges_over.ensures ∙ ap (λ (b : BoxInPlane). ranges_over c.args.arc.now b) c.box_of_part.ensures)
