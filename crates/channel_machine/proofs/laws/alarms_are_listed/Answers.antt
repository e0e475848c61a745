use Rattle.channel_machine.proofs.RunLaws.{end_listed}
use Rattle.channel_machine.proofs.laws.alarms_are_listed.Goals as goal

pub returns : goal.returns
returns c s c' = end_listed s c'
