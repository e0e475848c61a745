use Rattle.block_effects.specs.Words.{values_in}
use Rattle.explain_readings.proofs.Steps.{holds_at}
use Rattle.nc_blocks.specs.Indices.{EntryFits}
use Rattle.nc_blocks.specs.Statement.{frame_entry}
use Rattle.explain_assumptions.proofs.ListLaws.{viewed_more}
use Rattle.explain_assumptions.specs.Reads.{entry_reads}
use Rattle.explain_assumptions.proofs.reads.add_entries.Goals as goal

pub add_reads-requires : goal.add_reads-requires
add_reads-requires c = holds_at EntryFits frame_entry c.args.entries.now c.loop-entry.entry-index c.entry-item.result c.requires c.loop-entry-test.true c.entry-item.is

pub loop-entry-preserved : goal.loop-entry-preserved
loop-entry-preserved c =
    viewed_more (entry_reads (values_in c.args.parameters.now) c.args.line) frame_entry c.args.entries.now c.loop-entry.entry-index c.entry-item.result c.args.remarks.now.items c.loop-entry.remarks.items c.add_reads.new.remarks.items
    c.loop-entry-test.true c.entry-item.is c.loop-entry.invariant c.in_ok-add_reads.ensures
