use Rattle.block_motions.proofs.Moves.{Moves}
use Rattle.block_motions.proofs.motions.put_ends.Given as goal

abbrev pub invariant-loop-index : goal.invariant-loop-index
invariant-loop-index l = Moves l.goals l.initial.at l.index l.at l.axes.items
