use Rattle.swept_boxes.proofs.PieceLaws.{covered, in_cover, few_pieces}
use Rattle.swept_boxes.proofs.sweeps.pieces_of.Goals as goal

pub returns-clause-covers : goal.returns-clause-covers
returns-clause-covers c = λ point on. covered c.args.motion.now c.args.depth point c.requires.sound on

pub returns-clause-in_cover : goal.returns-clause-in_cover
returns-clause-in_cover c = in_cover c.args.motion.now c.args.depth c.requires.sound

pub returns-clause-few : goal.returns-clause-few
returns-clause-few c = few_pieces c.args.motion.now c.args.depth c.requires.deep
