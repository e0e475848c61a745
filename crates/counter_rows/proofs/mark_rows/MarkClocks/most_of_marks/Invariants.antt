use Rattle.std.proofs.Common.{◌≡◌, ℕ, ◌<◌, ◌≤◌, max, true, length}
use Rattle.axis_sets.specs.Sets.{has, members_of}
use Rattle.axis_sets.specs.declared.limits.TheConstants.{MARK_LIMIT}
use Rattle.counter_rows.specs.MarkClocks.{row_in}
use Rattle.counter_rows.specs.Rows.{top, count_of}
use Rattle.counter_rows.proofs.mark_rows.MarkClocks.most_of_marks.Given as goal

abbrev pub invariant-loop-turn : goal.invariant-loop-turn
invariant-loop-turn l = record {
  sized : 0 < l._turn → length l.rest ≡ MARK_LIMIT;
  low : (m : ℕ) → has l.rest m ≡ true → l._turn ≤ m;
  most : (c : ℕ) → max (count_of l.row c) (top (λ m. count_of (row_in l.self m l.channel) c) (members_of l.rest)) ≡ max (count_of l.fn.start c) (top (λ m. count_of (row_in l.self m l.channel) c) (members_of l.marks));
}
