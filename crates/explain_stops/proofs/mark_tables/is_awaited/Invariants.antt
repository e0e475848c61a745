-- Whether one of the channels so far does.
use Rattle.std.proofs.Common.{◌≡◌, take}
use Rattle.std.specs.List.{list_any}
use Rattle.order_clocks.specs.Watching.{wait_in}
use Rattle.explain_ends.specs.LastBoards.{IsTold}
use Rattle.explain_stops.specs.MarkTables.{is_for}
use Rattle.sync_types.specs.Boards.{Board}
use Rattle.explain_stops.proofs.mark_tables.is_awaited.Given as goal

abbrev pub invariant-loop-channel : goal.invariant-loop-channel
invariant-loop-channel l = (b : Board) → IsTold l.board b → l.awaited ≡ list_any (λ channel. is_for l.mark (wait_in (b.state channel))) (take l.channel-index l.channel-items)
