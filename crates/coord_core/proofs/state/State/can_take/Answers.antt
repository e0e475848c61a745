use Rattle.std.proofs.Common.{sym, ◌∙◌}
use Rattle.coord_core.proofs.Rules.{can_take_alike}
use Rattle.coord_core.proofs.state.State.can_take.Goals as goal

pub returns-in-AtAxes : goal.returns-in-AtAxes
returns-in-AtAxes c =
    c.wants.ensures.may
    ∙ can_take_alike c.args.self.now.table c.args.self.now.channels c.args.channel c.in-AtAxes.axes c.in-AtAxes.from_standing _ c.channels_standing-standing.result c.requires.kept c.wants.ensures.size
    c.channels_standing-standing.ensures (sym c.activity_of.ensures ∙ c.in-AtAxes.is)
