use Rattle.explain.proofs.FirstMet.{all_met_named}
use Rattle.explain.proofs.judging.met_in.Goals as goal

pub returns-in-No : goal.returns-in-No
returns-in-No c = all_met_named _ _ _ _ _ _ _ _ _ c.in-No.is c.requires.judged.verdict_is c.all_met.ensures
