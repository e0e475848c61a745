use Rattle.explain_advice.specs.Advice.{alarms}
use Rattle.explain_advice.proofs.advice.alarm_advice.Goals as goal

pub returns : goal.returns
unfolding alarms
returns c = c.advice_of.ensures
