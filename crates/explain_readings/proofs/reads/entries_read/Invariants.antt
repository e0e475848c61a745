use Rattle.std.proofs.Common.{◌≡◌, drop, map}
use Rattle.std.specs.List.{list_any}
use Rattle.nc_blocks.specs.Statement.{frame_entry}
use Rattle.explain_readings.specs.Reads.{entry_reads}
use Rattle.explain_readings.proofs.reads.entries_read.Given as goal

abbrev pub invariant-loop-entry : goal.invariant-loop-entry
invariant-loop-entry g l =
    list_any (entry_reads (g.N.Names.values l.names) l.fn.number) (map frame_entry (drop l.entry-index l.entries)) ≡ list_any (entry_reads (g.N.Names.values l.names) l.fn.number) (map frame_entry l.entries)
