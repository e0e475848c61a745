use Rattle.swept_boxes.proofs.PieceLaws.{quarters_of_motion}
use Rattle.swept_boxes.proofs.sweeps.piece_at.Goals as goal

pub arc_piece-requires-clause-fit : goal.arc_piece-requires-clause-fit
arc_piece-requires-clause-fit c = quarters_of_motion c.args.motion.now c.in-Arc.arc c.args.quarters.now c.in-Arc.is c.requires.sound c.requires.quarters
