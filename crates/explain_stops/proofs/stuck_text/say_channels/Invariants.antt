-- The channels so far are said.
use Rattle.std.proofs.Common.{◌≡◌, ◌++◌, take}
use Rattle.std.specs.List.{flat_map}
use Rattle.explain_ends.specs.LastBoards.{IsTold}
use Rattle.explain_stops.specs.Stuck.{channel_wait}
use Rattle.sync_types.specs.Boards.{Board}
use Rattle.explain_stops.proofs.stuck_text.say_channels.Given as goal

abbrev pub invariant-loop-channel : goal.invariant-loop-channel
invariant-loop-channel l = (b : Board) → IsTold l.board b
    → l.text ≡ l.initial.text ++ flat_map (channel_wait l.told.lines.now l.told.job.now l.told.run.now b) (take l.channel-index l.channel-items)
