-- The rows so far are said.
use Rattle.std.proofs.Common.{◌≡◌, ◌++◌, take}
use Rattle.std.specs.List.{flat_map}
use Rattle.explain_pairs.specs.PairTexts.{pair_text}
use Rattle.explain_pairs.proofs.texts.say_each_pair.Given as goal

abbrev pub invariant-loop-row : goal.invariant-loop-row
invariant-loop-row l = l.text ≡ l.initial.text ++ flat_map pair_text (take l.row-index l.rows)
