use Rattle.channel_machine.proofs.StartLaws.{start_sound}
use Rattle.speed_laws.proofs.NoAxisJumps.{no_axis_jumps}
use Rattle.speed_laws.proofs.NoZoneSwitches.{no_zone_switches}
use Rattle.speed_laws.proofs.ReachActs.{motions_join}
use Rattle.speed_laws.proofs.axes_never_jump.Goals as goal

pub returns-clause-motions : goal.returns-clause-motions
returns-clause-motions c = motions_join

pub returns-clause-axes : goal.returns-clause-axes
returns-clause-axes c job doings sound are tell = no_axis_jumps job doings sound are tell.places

pub returns-clause-zones : goal.returns-clause-zones
returns-clause-zones c job doings sound tell = no_zone_switches job doings (start_sound job sound) tell.zones
