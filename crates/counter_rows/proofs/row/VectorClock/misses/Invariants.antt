use Rattle.std.proofs.Common.{◌≡◌, ℕ, ◌<◌, ◌≤◌, ◌==◌, false}
use Rattle.counter_rows.specs.Rows.{count_of}
use Rattle.counter_rows.proofs.row.VectorClock.misses.Given as goal

abbrev pub invariant-loop-c : goal.invariant-loop-c
invariant-loop-c l = (k : ℕ) → k < l.c → (k == l.but) ≡ false → count_of l.limit k ≤ count_of l.self k
