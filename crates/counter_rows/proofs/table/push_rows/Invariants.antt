use Rattle.std.proofs.Common.{◌≡◌, ℕ, ◌+◌, ◌<◌, ◌≤◌, true, [], length, slice_index, slice_index_or}
use Rattle.axis_sets.specs.Sets.{has}
use Rattle.axis_sets.specs.declared.limits.TheConstants.{CHANNEL_PLACES}
use Rattle.counter_rows.proofs.table.push_rows.Given as goal

abbrev pub invariant-loop-c : goal.invariant-loop-c
invariant-loop-c l = record {
  from : 1 ≤ l.next;
  upto : l.next ≤ l.c + 1;
  first : l.first ≡ length l.fn.list.items;
  size : length l.list.items ≡ l.first + l.next;
  sized : length l.places ≡ CHANNEL_PLACES;
  kept : (k : ℕ) → k < l.first → slice_index_or l.list.items k [] ≡ slice_index_or l.fn.list.items k [];
  act : slice_index_or l.list.items l.first [] ≡ l.rows.act;
  below : (k : ℕ) → slice_index l.places k < l.next;
  done : (k : ℕ) → k < l.c → has l.goes k ≡ true → slice_index_or l.list.items (l.first + slice_index l.places k) [] ≡ slice_index_or l.rows.goes k [];
}
