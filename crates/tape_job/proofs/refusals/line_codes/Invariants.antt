-- The codes that were found, and those of the lines that are left, are those of all lines; there are no more lines than bytes.
use Rattle.std.proofs.Common.{◌≡◌, ◌+◌, ◌≤◌, ◌++◌, length}
use Rattle.tape_job.specs.LineRefusals.{line_codes_of}
use Rattle.tape_job.specs.Lines.{raw_lines}
use Rattle.tape_job.specs.RefusalSteps.{codes_from}
use Rattle.tape_job.proofs.refusals.line_codes.Given as goal

abbrev pub invariant-loop-rest : goal.invariant-loop-rest
invariant-loop-rest l = record {
  few : length l.codes.items + length l.rest ≤ length l.fn.bytes;
  found : l.codes.items ++ codes_from l.state (raw_lines l.rest) ≡ line_codes_of l.fn.bytes;
}

abbrev pub decreases-loop-rest : goal.decreases-loop-rest
decreases-loop-rest l = length l.rest
