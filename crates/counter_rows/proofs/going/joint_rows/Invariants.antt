use Rattle.axis_sets.specs.declared.limits.TheConstants.{CHANNEL_PLACES}
use Rattle.std.proofs.Common.{◌≡◌, ℕ, ◌<◌, true, length, [], get_or}
use Rattle.axis_sets.specs.Sets.{has}
use Rattle.counter_rows.specs.Rows.{count_of, joint_count}
use Rattle.counter_rows.proofs.going.joint_rows.Given as goal

abbrev pub invariant-loop-c : goal.invariant-loop-c
invariant-loop-c l = record {
  size : length l.rows ≡ CHANNEL_PLACES;
  done : (k : ℕ) → k < l.c → has l.goes k ≡ true → (x : ℕ) → count_of (get_or l.rows k []) x ≡ joint_count l.own l.goes l.group (get_or l.group k 0) x;
}
