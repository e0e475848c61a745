-- Meaning. How each channel has stopped where none runs.
use Rattle.std.specs.Prelude.{ℕ, List, [], ◌∷◌, Option, Some, None, if◌then◌else◌}
use Rattle.sync_types.specs.Boards.{State, IsIdle, IsRunning, IsHolding, HasEnded, HasAlarmed, Board, channel_numbers}
use Rattle.sync_types.specs.Starts.{has_channel}
use Rattle.sync_types.specs.declared.ChannelEnd.{ChannelEnd}
use Rattle.sync_types.specs.declared.ChannelEnd.TheVariants as end

-- none where it runs
abbrev pub end_of : State → Option ChannelEnd
end_of IsIdle = Some end.Idle
end_of (IsRunning grant) = None
end_of (IsHolding hold line) = Some (end.Holding line)
end_of (HasEnded line) = Some (end.Ended line)
end_of (HasAlarmed code line) = Some (end.Alarmed (record { code = code; line = line }))

abbrev pub with_end : Option ChannelEnd → List ChannelEnd → List ChannelEnd
with_end (Some end) ends = end ∷ ends
with_end None ends = ends

-- of those of these channels that the machine has
abbrev pub ends_among : Board → List ℕ → List ChannelEnd
ends_among b [] = []
ends_among b (c ∷ cs) = if has_channel b.start c then with_end (end_of (b.state c)) (ends_among b cs) else ends_among b cs

-- of all channels of the machine, the lowest first
abbrev pub ends_of : Board → List ChannelEnd
ends_of b = ends_among b channel_numbers
