use Rattle.std.proofs.Common.{◌≡◌, ◌++◌, map, take}
use Rattle.std.specs.List.{flat_map}
use Rattle.block_effects.specs.Words.{values_in}
use Rattle.nc_blocks.specs.Statement.{word_view}
use Rattle.explain_assumptions.specs.Reads.{word_reads}
use Rattle.explain_assumptions.proofs.reads.add_words.Given as goal

abbrev pub invariant-loop-word : goal.invariant-loop-word
invariant-loop-word l = l.remarks.items ≡ l.initial.remarks.items ++ flat_map (word_reads (values_in l.parameters) l.fn.line) (map word_view (take l.word-index l.words))
