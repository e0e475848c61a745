-- The rows so far are said.
use Rattle.std.proofs.Common.{◌≡◌, ◌++◌, take}
use Rattle.std.specs.List.{flat_map}
use Rattle.explain.specs.Numbers.{number_text}
use Rattle.explain.proofs.other_texts.say_each_number.Given as goal

abbrev pub invariant-loop-row : goal.invariant-loop-row
invariant-loop-row l = l.text ≡ l.initial.text ++ flat_map number_text (take l.row-index l.rows)
