use Rattle.std.proofs.Common.{◌≡◌, ℕ, ◌<◌, ◌≤◌, ◌==◌, ◌&&◌, true, false, length, [], get_or, if◌then◌else◌}
use Rattle.axis_sets.specs.Sets.{has}
use Rattle.axis_sets.specs.declared.limits.TheConstants.{MARK_LIMIT}
use Rattle.counter_rows.specs.MarkClocks.{row_in}
use Rattle.counter_rows.proofs.mark_rows.MarkClocks.put_marks.Given as goal

abbrev pub invariant-loop-turn : goal.invariant-loop-turn
invariant-loop-turn l = record {
  size : length l.self-inside.rows.items ≡ MARK_LIMIT;
  sized : 0 < l._turn → length l.rest ≡ MARK_LIMIT;
  low : (m : ℕ) → has l.rest m ≡ true → l._turn ≤ m;
  named : (m : ℕ) → has l.rest m ≡ true → has l.marks m ≡ true;
  done : (m d : ℕ) → has l.rest m ≡ false → get_or (get_or l.self-inside.rows.items m []) d [] ≡ (if has l.marks m && (d == l.channel) then l.row else row_in l.fn.self m d);
  still : (m : ℕ) → has l.rest m ≡ true → get_or l.self-inside.rows.items m [] ≡ get_or l.fn.self m [];
}
