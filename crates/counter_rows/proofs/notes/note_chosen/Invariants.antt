use Rattle.std.proofs.Common.{◌≡◌, ℕ, ◌<◌, ◌≤◌, ◌==◌, ◌&&◌, length, [], get_or, if◌then◌else◌}
use Rattle.axis_sets.specs.Sets.{has}
use Rattle.counter_rows.specs.Rows.{count_of}
use Rattle.counter_rows.proofs.notes.note_chosen.Given as goal

abbrev pub invariant-loop-m : goal.invariant-loop-m
invariant-loop-m g l = record {
  size : length l.rows ≡ g.row.N;
  done : (k c : ℕ) → k < l.m → count_of (get_or l.rows k []) c ≡ (if has l.chosen k && (c == l.channel) then l.count else count_of (get_or l.initial.rows k []) c);
  rest : (k : ℕ) → l.m ≤ k → get_or l.rows k [] ≡ get_or l.initial.rows k [];
}
