use Rattle.channel_machine.proofs.StartLaws.{start_sound}
use Rattle.speed_laws.proofs.ReachActs.{can_act}
use Rattle.speed_laws.proofs.channels_can_act.Goals as goal

pub returns : goal.returns
returns c job doings sound are = can_act job doings (start_sound job sound) are
