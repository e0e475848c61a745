use Rattle.std.proofs.Common.{◌≡◌, ℕ, ◌<◌, true}
use Rattle.axis_sets.specs.Sets.{has}
use Rattle.mark_board.specs.Marks.{has_mark}
use Rattle.mark_board.proofs.marks.Marks.others_have.Given as goal

-- the others among the named channels, below the number, have raised the mark
abbrev pub invariant-loop-number : goal.invariant-loop-number
invariant-loop-number l = (d : ℕ) → d < l.number → has l.others d ≡ true → has_mark l.self d l.mark ≡ true
