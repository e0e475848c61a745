use Rattle.std.proofs.Common.{ap, sym, ◌∙◌}
use Rattle.coord_core.specs.Boards.{replayed}
use Rattle.coord_core.proofs.ChannelEnds.{end_missing, end_there, end_told, same_channel}
use Rattle.coord_core.proofs.ends.end_at.Goals as goal
use Rattle.coord_core.specs.Ends.{end_by}

pub returns-then-has_channel : goal.returns-then-has_channel
returns-then-has_channel c =
    let b = replayed c.args.board.now in
    c.end_by.ensures ∙ ap end_by c.state_of.ensures ∙ end_told (b.state c.args.channel)
    ∙ end_there b c.args.channel (same_channel c.args.board.now c.args.start.now c.args.channel c.requires ∙ sym c.has_channel.ensures ∙ c.if-has_channel.true)

pub returns-else-has_channel : goal.returns-else-has_channel
returns-else-has_channel c =
    end_missing (replayed c.args.board.now) c.args.channel (same_channel c.args.board.now c.args.start.now c.args.channel c.requires ∙ sym c.has_channel.ensures ∙ c.if-has_channel.false)
