use Rattle.std.proofs.Common.{ℕ, sym, ap, ◌∙◌}
use Rattle.coord_core.specs.Tables.{activity_at, state_in}
use Rattle.std.proofs.Math.Path.{fun_ext}
use Rattle.sync_types.specs.Boards.{State, board_at_rest, first_state}
use Rattle.sync_types.specs.Views.{StartView}
use Rattle.coord_core.proofs.state.State.new.Goals as goal

pub first_activities-channels-requires-clause-rest : goal.first_activities-channels-requires-clause-rest
first_activities-channels-requires-clause-rest c = λ channels.
    c.new-table.ensures.board channels ∙ ap (λ (s : StartView). record (board_at_rest s) { state = λ d. state_in d (activity_at channels d) }) (sym c.new-table.ensures.start)

pub returns-clause-board : goal.returns-clause-board
returns-clause-board c =
    c.new-table.ensures.board c.first_activities-channels.result
    ∙ ap (λ (s : ℕ → State). record (board_at_rest c.args.start.now) { state = s })
    (fun_ext (λ d. c.first_activities-channels.ensures d ∙ ap (λ (s : StartView). first_state s d) c.new-table.ensures.start))
