use Rattle.explain_advice.specs.Advice.{alarms}
use Rattle.explain_advice.proofs.advice.alarm_name.Goals as goal

pub returns : goal.returns
unfolding alarms
returns c = c.name_of.ensures
