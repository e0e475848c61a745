use Rattle.explain_drawing.specs.Drawing.{legend_text}
use Rattle.explain_views.proofs.PieceLaws.{four}
use Rattle.explain_drawing.proofs.drawing.put_legend.Goals as goal

pub returns : goal.returns
unfolding legend_text
returns c = four _ _ _ _ _ _ _ _ _ c.say.ensures c.put_pair.ensures c.say-2.ensures c.put_signs.ensures
