use Rattle.std.proofs.Common.{◌≡◌, drop, map}
use Rattle.job_types.specs.Job.{block_entry}
use Rattle.explain_stops.specs.MarkBlocks.{first_line}
use Rattle.explain_stops.proofs.mark_blocks.first_line.Given as goal

abbrev pub invariant-loop-block : goal.invariant-loop-block
invariant-loop-block l = first_line l.skip l.mark (map block_entry (drop l.block-index l.blocks)) ≡ first_line l.skip l.mark (map block_entry l.blocks)
