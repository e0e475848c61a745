use Rattle.block_motions.proofs.AlarmLaws.{arc_alarm_listed, straight_alarm_listed}
use Rattle.block_motions.proofs.laws.alarms_are_listed.Goals as goal

pub returns-clause-straight : goal.returns-clause-straight
returns-clause-straight c slots owned h at targets code is = straight_alarm_listed slots owned h at targets code is

pub returns-clause-arc : goal.returns-clause-arc
returns-clause-arc c slots owned h at targets words code is = arc_alarm_listed owned h at words slots targets code is
