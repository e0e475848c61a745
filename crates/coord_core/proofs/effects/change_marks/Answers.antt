use Rattle.std.proofs.Common.{◌∙◌}
use Rattle.coord_core.proofs.Acts.{some_member, marks_cleared, all_cleared}
use Rattle.coord_core.proofs.effects.change_marks.Goals as goal

pub returns-else-is_empty : goal.returns-else-is_empty
returns-else-is_empty c = λ d m. c.clear.ensures.marks d m
    ∙ marks_cleared c.args.marks.now c.args.channel c.args.action.now c.in-ClearM.named c.in-ClearM.is (some_member c.in-ClearM.named c.is_empty.result c.is_empty.ensures.empty c.if-is_empty.false) d m

pub returns-then-is_empty : goal.returns-then-is_empty
returns-then-is_empty c = λ d m. c.clear_all.ensures.marks d m
    ∙ all_cleared c.args.marks.now c.args.channel c.args.action.now c.in-ClearM.named c.in-ClearM.is (c.is_empty.ensures.empty.0 c.if-is_empty.true) d m
