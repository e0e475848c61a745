use Rattle.std.proofs.Common.{◌≡◌, drop, find}
use Rattle.explain_assumptions.specs.Firsts.{is_of_x}
use Rattle.explain_assumptions.proofs.firsts.first_of_x.Given as goal

abbrev pub invariant-loop-remark : goal.invariant-loop-remark
invariant-loop-remark l = find is_of_x (drop l.remark-index l.remarks) ≡ find is_of_x l.remarks
