use Rattle.std.proofs.Common.{◌≡◌, drop}
use Rattle.word_tables.specs.Refused.{refused_word}
use Rattle.word_tables.proofs.refused_words.refused_from_left.Given as goal

abbrev pub invariant-loop-index : goal.invariant-loop-index
invariant-loop-index l =
    refused_word l.compensation l.words.line l.words.tokens
    ≡ refused_word l.compensation l.words.line (drop l.index l.words.tokens)
