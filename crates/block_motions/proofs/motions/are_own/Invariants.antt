use Rattle.std.proofs.Common.{◌≡◌, ℕ, ◌<◌, true}
use Rattle.axis_sets.specs.Sets.{has}
use Rattle.block_motions.specs.Motions as model
use Rattle.block_motions.proofs.motions.are_own.Given as goal

abbrev pub invariant-loop-index : goal.invariant-loop-index
invariant-loop-index l = (k : ℕ) → k < l.index → model.is_own (has l.owned k) (model.goal_at l.goals k) ≡ true
