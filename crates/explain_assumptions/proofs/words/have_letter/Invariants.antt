use Rattle.std.proofs.Common.{◌≡◌, drop, map}
use Rattle.std.specs.List.{list_any}
use Rattle.nc_blocks.specs.Statement.{word_view}
use Rattle.explain_assumptions.specs.Remarks.{is_letter_word}
use Rattle.explain_assumptions.proofs.words.have_letter.Given as goal

abbrev pub invariant-loop-word : goal.invariant-loop-word
invariant-loop-word l = list_any (is_letter_word l.fn.letter) (map word_view (drop l.word-index l.words)) ≡ list_any (is_letter_word l.fn.letter) (map word_view l.words)
