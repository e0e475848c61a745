use Rattle.explain_drawing.specs.Drawing.{head_text}
use Rattle.explain_views.proofs.PieceLaws.{four}
use Rattle.explain_drawing.proofs.drawing.put_head.Goals as goal

pub returns : goal.returns
unfolding head_text
returns c = four _ _ _ _ _ _ _ _ _ c.say.ensures c.put_frame_part.ensures c.put_paper_part.ensures c.put_styles.ensures
