use Rattle.std.proofs.Common.{not, ap, ◌∙◌}
use Rattle.coord_core.specs.Tables.{activity_at, state_in}
use Rattle.coord_core.proofs.Members.{some_where_first, turned}
use Rattle.std.proofs.Common.{is_some}
use Rattle.sync_types.specs.Boards.{channel_numbers, is_running}
use Rattle.coord_core.proofs.state.State.is_over.Goals as goal

pub returns : goal.returns
returns c = turned _ _ c.is_none.ensures ∙ ap not (ap is_some c.lowest_running.ensures ∙ some_where_first (λ d. is_running (state_in d (activity_at c.args.self.now.channels d))) channel_numbers)
