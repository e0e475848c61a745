use Rattle.std.proofs.Common.{take}
use Rattle.explain_assumptions.specs.Firsts.{AreFirsts, parameter_of}
use Rattle.explain_assumptions.proofs.firsts.parameter_firsts.Given as goal

abbrev pub invariant-loop-remark : goal.invariant-loop-remark
invariant-loop-remark l = AreFirsts parameter_of (take l.remark-index l.remarks) l.table.items
