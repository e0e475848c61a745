use Rattle.std.proofs.Common.{◌≡◌, ◌++◌, List, take}
use Rattle.std.specs.List.{flat_map}
use Rattle.explain_assumptions.specs.Firsts.{AreFirsts, first_with, word_of}
use Rattle.explain_assumptions.specs.Rows.{unused_rows}
use Rattle.explain_assumptions.specs.declared.remarks.Remark.{Remark}
use Rattle.explain_assumptions.proofs.rows.add_all_unused.Given as goal

abbrev pub invariant-loop-line : goal.invariant-loop-line
invariant-loop-line l =
    (remarks : List Remark) → AreFirsts word_of remarks l.table → l.rows.items ≡ l.initial.rows.items ++ flat_map (λ line. unused_rows l.fn.channel line (first_with word_of line.g remarks)) (take l.line-index l.job.offsets)
