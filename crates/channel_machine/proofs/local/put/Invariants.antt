-- The axes before this one stand where the grant has them.
use Rattle.std.proofs.Common.{◌≡◌, ℕ, nat_lt, cond, unwrap_or, None}
use Rattle.axis_sets.specs.Positions.{position_of, stands}
use Rattle.channel_machine.proofs.local.put.Given as goal

abbrev pub invariant-loop-index : goal.invariant-loop-index
invariant-loop-index l = record {
  each : (a : ℕ) → stands l.at a ≡ unwrap_or (cond (nat_lt a l.index) (position_of l.granted a) None) (stands l.fn.at a);
}
