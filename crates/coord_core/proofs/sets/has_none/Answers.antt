use Rattle.std.proofs.Common.{Bool, not, ◌&&◌, ap, ◌∙◌}
use Rattle.axis_sets.specs.Sets.{has}
use Rattle.coord_core.proofs.Members.{none_fails, minus_twice}
use Rattle.coord_core.proofs.sets.has_none.Goals as goal

pub returns : goal.returns
returns c = none_fails c.args.axes (λ x. not (has c.args.set x)) c.minus-2.result c.is_empty.result
    (λ m. c.minus-2.ensures.members m ∙ ap (λ (b : Bool). has c.args.axes m && not b) (c.minus.ensures.members m) ∙ minus_twice (has c.args.axes m) (has c.args.set m)) c.is_empty.ensures.empty
