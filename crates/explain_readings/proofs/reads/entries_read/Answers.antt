use Rattle.nc_blocks.specs.Indices.{EntryFits}
use Rattle.nc_blocks.specs.Statement.{frame_entry}
use Rattle.explain_readings.proofs.Steps.{holds_at}
use Rattle.explain_readings.proofs.reads.entries_read.Goals as goal

pub reads-requires : goal.reads-requires
reads-requires g c = holds_at EntryFits frame_entry c.args.entries.now c.loop-entry.entry-index c.entry-item.result c.requires c.loop-entry-test.true c.entry-item.is
