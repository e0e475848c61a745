use Rattle.std.proofs.Common.{◌≡◌, ◌++◌, drop, map, filter_map}
use Rattle.nc_blocks.specs.Statement.{word_view}
use Rattle.block_effects.specs.Effects.{group_word}
use Rattle.block_effects.proofs.groups.words_of_groups.Given as goal

abbrev pub invariant-loop-word : goal.invariant-loop-word
invariant-loop-word l = l.groups.items ++ filter_map group_word (map word_view (drop l.word-index l.words)) ≡ filter_map group_word (map word_view l.words)
