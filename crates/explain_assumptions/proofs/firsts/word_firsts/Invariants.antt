use Rattle.std.proofs.Common.{take}
use Rattle.explain_assumptions.specs.Firsts.{AreFirsts, word_of}
use Rattle.explain_assumptions.proofs.firsts.word_firsts.Given as goal

abbrev pub invariant-loop-remark : goal.invariant-loop-remark
invariant-loop-remark l = AreFirsts word_of (take l.remark-index l.remarks) l.table.items
