use Rattle.std.proofs.Common.{sym, ap, ◌∙◌}
use Rattle.axis_sets.specs.Sets.{has}
use Rattle.coord_core.proofs.Members.{all_named}
use Rattle.coord_core.specs.Tables.{activity_at, board_in, state_in}
use Rattle.coord_core.specs.declared.activities.Activity.{Activity}
use Rattle.sync_types.specs.Boards.{has_ended}
use Rattle.sync_types.specs.GoingOn.{goes_at_once}
use Rattle.coord_core.proofs.goings.goes_at_once.Goals as goal

pub returns-in-AtEnds : goal.returns-in-AtEnds
returns-in-AtEnds c =
    c.is_within.ensures.within
    ∙ all_named c.in-AtEnds.named (has c.args.ended) (λ d. has_ended (state_in d (activity_at c.args.channels.now d))) c.is_within.ensures.none c.is_within.ensures.size c.requires.ended.channels
    ∙ ap (λ (a : Activity). goes_at_once (board_in c.args.table.now c.args.channels.now) (state_in c.args.channel a)) (sym c.in-AtEnds.is ∙ c.activity_of.ensures)
