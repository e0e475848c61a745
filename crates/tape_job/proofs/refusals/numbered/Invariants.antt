-- The refusals that were found, and those of the lines that are left, are those of all lines.
use Rattle.std.proofs.Common.{◌≡◌, ◌+◌, ◌++◌, drop}
use Rattle.tape_job.specs.LineRefusals.{refusals_from}
use Rattle.tape_job.proofs.refusals.numbered.Given as goal

abbrev pub invariant-loop-code : goal.invariant-loop-code
invariant-loop-code l = record {
  line : l.line ≡ l.code-index;
  found : l.refusals.items ++ refusals_from (l.line + 1) (drop l.code-index l.codes) ≡ refusals_from 1 l.fn.codes;
}
