use Rattle.channel_machine.proofs.AlarmPlaces.{alarmed_there}
use Rattle.channel_machine.proofs.laws.alarms_come_on_levels.Goals as goal

pub returns : goal.returns
returns c job c' grants code is ne = alarmed_there job c' grants code is ne
