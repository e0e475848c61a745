use Rattle.std.proofs.Common.{◌≡◌, drop, map}
use Rattle.std.specs.List.{list_any}
use Rattle.nc_blocks.specs.Statement.{word_view}
use Rattle.explain_readings.specs.Reads.{word_reads}
use Rattle.explain_readings.proofs.reads.words_read.Given as goal

abbrev pub invariant-loop-word : goal.invariant-loop-word
invariant-loop-word g l =
    list_any (word_reads (g.N.Names.values l.names) l.fn.number) (map word_view (drop l.word-index l.words)) ≡ list_any (word_reads (g.N.Names.values l.names) l.fn.number) (map word_view l.words)
