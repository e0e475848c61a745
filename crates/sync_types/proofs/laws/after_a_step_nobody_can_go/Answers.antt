use Rattle.sync_types.proofs.Settling.{settled, alarm_lets_nobody_go}
use Rattle.sync_types.proofs.laws.after_a_step_nobody_can_go.Goals as goal

pub returns-clause-settled : goal.returns-clause-settled
returns-clause-settled c = settled

pub returns-clause-alarms : goal.returns-clause-alarms
returns-clause-alarms c = alarm_lets_nobody_go
