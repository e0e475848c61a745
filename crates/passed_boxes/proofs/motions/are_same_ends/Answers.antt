use Rattle.std.proofs.Common.{◌∙◌, sym, ap}
use Rattle.passed_boxes.proofs.SameLaws.{all_ends, same_ends}
use Rattle.path_geometry.specs.Ends.{EndsView}
use Rattle.passed_boxes.proofs.motions.are_same_ends.Goals as goal

pub returns-clause-same : goal.returns-clause-same
returns-clause-same c on i = record { axes = same_ends c.args.left.now.axes c.args.right.now.axes (sym c.eq.ensures ∙ on) i }

pub returns-clause-all : goal.returns-clause-all
returns-clause-all c is = c.eq.ensures ∙ all_ends c.args.left.now.axes c.args.right.now.axes (ap (λ (ends : EndsView). ends.axes) is)
