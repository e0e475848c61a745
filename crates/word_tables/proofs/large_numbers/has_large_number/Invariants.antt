use Rattle.std.proofs.Common.{◌≡◌, drop}
use Rattle.word_tables.specs.LargeNumbers.{has_large_number}
use Rattle.word_tables.proofs.large_numbers.has_large_number.Given as goal

abbrev pub invariant-loop-index : goal.invariant-loop-index
invariant-loop-index l =
    has_large_number l.words.line l.words.tokens
    ≡ has_large_number l.words.line (drop l.index l.words.tokens)
