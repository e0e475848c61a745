use Rattle.std.proofs.Common.{Bool, Some, None, ap, ◌∙◌}
use Rattle.std.proofs.Common.{if◌then◌else◌}
use Rattle.coord_core.proofs.GrantLaws.{positions_listed, owned_alike}
use Rattle.coord_core.specs.Tables.{board_in}
use Rattle.sync_types.specs.Boards.{start_grant, grant_with, owns}
use Rattle.sync_types.specs.Starts.{first_position}
use Rattle.axis_exchange.specs.Owners.{axis_state}
use Rattle.coord_core.proofs.table.Table.start_grant.Goals as goal

pub returns : goal.returns
unfolding start_grant
returns c = λ channels. c.grant_with.ensures channels ∙ ap (grant_with (board_in c.args.self.now channels) c.args.channel)
    (positions_listed c.positions_at_first.result (owns (board_in c.args.self.now channels) c.args.channel) (first_position c.args.self.now.start)
    (λ x. c.positions_at_first.ensures.positions x
    ∙ ap (λ (b : Bool). if b then Some (first_position c.args.self.now.start x) else None) (c.owned_by-own.ensures.members x ∙ owned_alike (axis_state c.args.self.now.owners x) c.args.channel))
    c.positions_at_first.ensures.size)
