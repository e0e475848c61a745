use Rattle.std.proofs.Common.{◌≡◌, map}
use Rattle.product_run.proofs.Progress.{IsSoFar, left_in}
use Rattle.product_run.proofs.run.run_from.Given as goal

abbrev pub invariant-loop-channel : goal.invariant-loop-channel
invariant-loop-channel l = (l.board.start ≡ l.start) × IsSoFar l.job l.start l.board.entries (map (λ items. items.items) l.items.items) l.locals.items

abbrev pub decreases-loop-channel : goal.decreases-loop-channel
decreases-loop-channel l = left_in l.job l.start l.board.entries
