use Rattle.std.proofs.Common.{◌≡◌, drop, map}
use Rattle.std.specs.List.{list_any}
use Rattle.nc_blocks.specs.Statement.{word_view}
use Rattle.explain_assumptions.specs.Remarks.{says_diameters}
use Rattle.explain_assumptions.proofs.words.say_diameters.Given as goal

abbrev pub invariant-loop-word : goal.invariant-loop-word
invariant-loop-word l = list_any says_diameters (map word_view (drop l.word-index l.words)) ≡ list_any says_diameters (map word_view l.words)
