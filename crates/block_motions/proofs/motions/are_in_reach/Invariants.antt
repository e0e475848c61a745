use Rattle.std.proofs.Common.{◌≡◌, ℕ, ◌<◌, true}
use Rattle.axis_sets.specs.Sets.{has}
use Rattle.axis_sets.specs.Positions.{stands}
use Rattle.block_motions.specs.Motions as model
use Rattle.block_motions.proofs.motions.are_in_reach.Given as goal

abbrev pub invariant-loop-index : goal.invariant-loop-index
invariant-loop-index l = (k : ℕ) → k < l.index → model.is_in_reach (has l.owned k) (stands l.at k) (model.goal_at l.goals k) ≡ true
