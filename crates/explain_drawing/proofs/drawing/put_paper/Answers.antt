use Rattle.explain_drawing.specs.Drawing.{paper_text}
use Rattle.explain_views.proofs.PieceLaws.{three}
use Rattle.explain_drawing.proofs.drawing.put_paper.Goals as goal

pub returns : goal.returns
unfolding paper_text
returns c = three _ _ _ _ _ _ _ c.say.ensures c.put_size.ensures c.say-2.ensures
