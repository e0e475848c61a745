-- The lines that were counted, and those that are left, are all lines; there are no more lines than bytes.
use Rattle.std.proofs.Common.{◌≡◌, ◌+◌, ◌≤◌, count_by, length}
use Rattle.explain_ready.specs.Marking.{is_left_out}
use Rattle.tape_job.specs.Lines.{raw_lines}
use Rattle.explain_ready.proofs.counting.left_out_count.Given as goal

abbrev pub invariant-loop-rest : goal.invariant-loop-rest
invariant-loop-rest l = record {
  few : l.count + length l.rest ≤ length l.fn.input;
  all : l.count + count_by is_left_out (raw_lines l.rest) ≡ count_by is_left_out (raw_lines l.fn.input);
}

abbrev pub decreases-loop-rest : goal.decreases-loop-rest
decreases-loop-rest l = length l.rest
