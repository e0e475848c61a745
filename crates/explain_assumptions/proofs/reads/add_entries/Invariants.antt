use Rattle.std.proofs.Common.{◌≡◌, ◌++◌, map, take}
use Rattle.std.specs.List.{flat_map}
use Rattle.block_effects.specs.Words.{values_in}
use Rattle.nc_blocks.specs.Statement.{frame_entry}
use Rattle.explain_assumptions.specs.Reads.{entry_reads}
use Rattle.explain_assumptions.proofs.reads.add_entries.Given as goal

abbrev pub invariant-loop-entry : goal.invariant-loop-entry
invariant-loop-entry l = l.remarks.items ≡ l.initial.remarks.items ++ flat_map (entry_reads (values_in l.parameters) l.fn.line) (map frame_entry (take l.entry-index l.entries))
