use Rattle.block_effects.specs.Words.{values_in}
use Rattle.explain_readings.proofs.Steps.{holds_at}
use Rattle.nc_blocks.specs.Indices.{WordFits}
use Rattle.nc_blocks.specs.Statement.{word_view}
use Rattle.explain_assumptions.proofs.ListLaws.{viewed_more}
use Rattle.explain_assumptions.specs.Reads.{word_reads}
use Rattle.explain_assumptions.proofs.reads.add_words.Goals as goal

pub add_word-requires : goal.add_word-requires
add_word-requires c = holds_at WordFits word_view c.args.words.now c.loop-word.word-index c.word-item.result c.requires c.loop-word-test.true c.word-item.is

pub loop-word-preserved : goal.loop-word-preserved
loop-word-preserved c =
    viewed_more (word_reads (values_in c.args.parameters.now) c.args.line) word_view c.args.words.now c.loop-word.word-index c.word-item.result c.args.remarks.now.items c.loop-word.remarks.items c.add_word.new.remarks.items
    c.loop-word-test.true c.word-item.is c.loop-word.invariant c.in_ok-add_word.ensures
