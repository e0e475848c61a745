-- What was copied and counted, with what is left, is the copy and the counts of all lines; there are no more lines than bytes.
use Rattle.std.proofs.Common.{◌≡◌, ◌+◌, ◌≤◌, ◌++◌, count_by, drop, length}
use Rattle.std.specs.List.{flat_map, zip}
use Rattle.explain_ready.specs.Copies.{coded_lines, copied_line, is_marked, stays_refused}
use Rattle.tape_job.specs.Lines.{raw_lines}
use Rattle.explain_ready.proofs.copying.ready_text.Given as goal

abbrev pub invariant-loop-code : goal.invariant-loop-code
invariant-loop-code l = record {
  few : l.counts.left_out + l.counts.refused + length l.rest ≤ length l.fn.input;
  copied : l.text ++ flat_map copied_line (zip (drop l.code-index l.code-items) (raw_lines l.rest)) ≡ flat_map copied_line (coded_lines l.fn.input);
  left : l.counts.left_out + count_by is_marked (zip (drop l.code-index l.code-items) (raw_lines l.rest)) ≡ count_by is_marked (coded_lines l.fn.input);
  stays : l.counts.refused + count_by stays_refused (zip (drop l.code-index l.code-items) (raw_lines l.rest)) ≡ count_by stays_refused (coded_lines l.fn.input);
}
