use Rattle.std.proofs.Common.{not, sym, ap, ◌∙◌}
use Rattle.axis_sets.specs.Sets.{has}
use Rattle.coord_core.proofs.Members.{all_named}
use Rattle.coord_core.specs.Tables.{activity_at, board_in, state_in}
use Rattle.sync_types.specs.Boards.{is_idle}
use Rattle.sync_types.specs.BoardAlarms.{finds_one_awake}
use Rattle.coord_core.proofs.state.State.finds_one_awake.Goals as goal

pub returns-in-Start : goal.returns-in-Start
returns-in-Start c =
    ap not (c.is_within.ensures.within ∙ all_named c.in-Start.named (has c.channels_idle.result) (λ d. is_idle (state_in d (activity_at c.args.self.now.channels d)))
    c.is_within.ensures.none c.is_within.ensures.size c.channels_idle.ensures.channels)
    ∙ ap (finds_one_awake (board_in c.args.self.now.table c.args.self.now.channels)) (sym c.in-Start.is)
