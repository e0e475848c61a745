use Rattle.std.proofs.Common.{◌≡◌, ◌++◌}
use Rattle.shared_board.proofs.Channels.{passes_from}
use Rattle.shared_board.specs.Passes.{passes_of}
use Rattle.shared_board.proofs.shared.passes_of.Given as goal

abbrev pub invariant-loop-number : goal.invariant-loop-number
invariant-loop-number l = l.passes.items ++ passes_from l.start l.number ≡ passes_of l.start
