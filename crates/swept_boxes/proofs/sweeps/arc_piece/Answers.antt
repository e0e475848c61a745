-- The quarter at the quotient of the place, and its piece at the remainder.
use Rattle.std.proofs.Common.{◌∙◌, sym}
use Rattle.swept_boxes.proofs.ArcPieceLaws.{piece_of_arc, no_piece_of_arc}
use Rattle.swept_boxes.proofs.sweeps.arc_piece.Goals as goal

pub returns-in-Some : goal.returns-in-Some
returns-in-Some c =
    sym (piece_of_arc c.args.arc.now c.args.depth c.args.place c.parts_at-parts.result c.args.quarters.now c.in-Some.quarter c.quarter_piece.result
    c.parts_at-parts.ensures.value (sym c.quarter_at.ensures ∙ c.in-Some.is) c.quarter_piece.ensures)

pub returns-in-None : goal.returns-in-None
returns-in-None c =
    sym (no_piece_of_arc c.args.arc.now c.args.depth c.args.place c.parts_at-parts.result c.args.quarters.now c.parts_at-parts.ensures.value
    (sym c.quarter_at.ensures ∙ c.in-None.is))
