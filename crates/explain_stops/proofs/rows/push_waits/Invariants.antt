-- Those so far are in the list.
use Rattle.std.proofs.Common.{◌≡◌, ◌++◌, take}
use Rattle.std.specs.List.{flat_map}
use Rattle.order_clocks.specs.Watching.{wait_in}
use Rattle.explain_ends.specs.LastBoards.{IsTold}
use Rattle.explain_stops.specs.Rows.{rows_of_wait}
use Rattle.sync_types.specs.Boards.{Board}
use Rattle.explain_stops.proofs.rows.push_waits.Given as goal

abbrev pub invariant-loop-channel : goal.invariant-loop-channel
invariant-loop-channel l = (b : Board) → IsTold l.board b → l.list.items ≡ l.initial.list.items ++ flat_map (λ channel. rows_of_wait l.told.job.now l.told.run.now b channel (wait_in (b.state channel))) (take l.channel-index l.channel-items)
