-- The words that were made, and those of the tokens that are left, are those of all tokens.
use Rattle.std.proofs.Common.{◌≡◌, ◌++◌, drop, map}
use Rattle.explain_refused.specs.LineWords.{word_of}
use Rattle.explain_refused.proofs.line_words.words_in.Given as goal

abbrev pub invariant-loop-index : goal.invariant-loop-index
invariant-loop-index l = l.list.items ++ map (word_of l.words.line) (drop l.index l.words.tokens) ≡ map (word_of l.fn.words.line) l.fn.words.tokens
