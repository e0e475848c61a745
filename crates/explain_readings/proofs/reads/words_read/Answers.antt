use Rattle.nc_blocks.specs.Indices.{WordFits}
use Rattle.nc_blocks.specs.Statement.{word_view}
use Rattle.explain_readings.proofs.Steps.{holds_at}
use Rattle.explain_readings.proofs.reads.words_read.Goals as goal

pub word_reads-requires : goal.word_reads-requires
word_reads-requires g c = holds_at WordFits word_view c.args.words.now c.loop-word.word-index c.word-item.result c.requires c.loop-word-test.true c.word-item.is
