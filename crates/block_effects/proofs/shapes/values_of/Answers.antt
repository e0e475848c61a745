use Rattle.nc_blocks.specs.Indices.{EntryFits}
use Rattle.nc_blocks.specs.Statement.{frame_entry}
use Rattle.block_effects.proofs.Steps.{holds_at}
use Rattle.block_effects.proofs.shapes.values_of.Goals as goal

pub eval-requires : goal.eval-requires
eval-requires c = holds_at EntryFits frame_entry c.args.words.now c.loop-word.word-index c.word-item.result c.requires c.loop-word-test.true c.word-item.is
