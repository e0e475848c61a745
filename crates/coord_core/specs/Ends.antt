-- Steps. How a channel has stopped, by what the board tells of it.
use Rattle.std.specs.Prelude.{ℕ, Option, Some, None, if◌then◌else◌}
use Rattle.coord_core.specs.declared.ChannelState.{ChannelState}
use Rattle.coord_core.specs.declared.ChannelState.TheVariants.{Idle, Running, Holding, Ended, Alarmed}
use Rattle.sync_types.specs.BoardEnds.{end_of}
use Rattle.sync_types.specs.Boards.{Board}
use Rattle.sync_types.specs.Starts.{has_channel}
use Rattle.sync_types.specs.declared.ChannelEnd.{ChannelEnd}
use Rattle.sync_types.specs.declared.ChannelEnd.TheVariants as end

-- none where it runs
abbrev pub end_by : ChannelState → Option ChannelEnd
end_by Idle = Some end.Idle
end_by Running = None
end_by (Holding line) = Some (end.Holding line)
end_by (Ended line) = Some (end.Ended line)
end_by (Alarmed alarm) = Some (end.Alarmed alarm)

-- none where the machine has no such channel
abbrev pub end_at : Board → ℕ → Option ChannelEnd
end_at b c = if has_channel b.start c then end_of (b.state c) else None
