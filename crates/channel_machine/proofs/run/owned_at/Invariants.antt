use Rattle.std.proofs.Common.{◌≡◌, ℕ, nat_lt, ◌&&◌, cond, length, Some, None}
use Rattle.axis_sets.specs.Positions.{position_of, stands}
use Rattle.axis_sets.specs.Sets.{has}
use Rattle.channel_machine.proofs.run.owned_at.Given as goal
use Rattle.axis_sets.specs.declared.limits.TheConstants.{AXIS_LIMIT}

abbrev pub invariant-loop-index : goal.invariant-loop-index
invariant-loop-index l = record {
  size : length l.owned ≡ AXIS_LIMIT;
  each : (a : ℕ) → position_of l.owned a ≡ cond (nat_lt a l.index && has l.axes a) (Some (stands l.at a)) None;
}
