use Rattle.explain_assumptions.proofs.ReadLaws.{told}
use Rattle.explain_assumptions.proofs.laws.readings_are_told.Goals as goal

pub returns : goal.returns
returns c parameters line number opener statement = told parameters line number opener statement
