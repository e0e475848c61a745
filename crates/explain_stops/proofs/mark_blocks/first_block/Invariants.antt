-- The programs so far give none.
use Rattle.std.proofs.Common.{◌≡◌, drop}
use Rattle.explain_stops.specs.MarkBlocks.{first_given, line_in_program}
use Rattle.explain_stops.proofs.mark_blocks.first_block.Given as goal

abbrev pub invariant-loop-place : goal.invariant-loop-place
invariant-loop-place l =
    first_given (line_in_program l.job l.channel l.mark) l.job.programs ≡ first_given (line_in_program l.job l.channel l.mark) (drop l.place l.job.programs)
