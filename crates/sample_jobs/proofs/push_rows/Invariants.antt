-- So many moves are put, and the random number is that of the last.
use Rattle.std.proofs.Common.{◌≡◌, ◌+◌, ◌*◌, ◌≤◌, ◌++◌, length}
use Rattle.sample_jobs.specs.Samples.{random, rows}
use Rattle.sample_jobs.proofs.push_rows.Given as goal

abbrev pub invariant-loop-index : goal.invariant-loop-index
invariant-loop-index l = record {
  text : l.bytes.items ≡ l.initial.bytes.items ++ rows l.program l.seed l.index;
  room : length l.bytes.items ≤ length l.initial.bytes.items + 40 * l.index;
  number : l.random ≡ random l.seed l.index;
}
