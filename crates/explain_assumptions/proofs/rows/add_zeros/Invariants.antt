use Rattle.std.proofs.Common.{◌≡◌, ◌++◌, List}
use Rattle.std.specs.List.{flat_map, range_with_len}
use Rattle.explain_assumptions.specs.Firsts.{AreFirsts, first_with, parameter_of}
use Rattle.explain_assumptions.specs.Rows.{zero_rows}
use Rattle.explain_assumptions.specs.declared.remarks.Remark.{Remark}
use Rattle.explain_assumptions.proofs.rows.add_zeros.Given as goal

abbrev pub invariant-loop-number : goal.invariant-loop-number
invariant-loop-number l =
    (remarks : List Remark) → AreFirsts parameter_of remarks l.table → l.rows.items ≡ l.initial.rows.items ++ flat_map (λ number. zero_rows l.fn.channel number (first_with parameter_of number remarks)) (range_with_len 0 l.number)
