use Rattle.std.proofs.Common.{subst}
use Rattle.block_effects.proofs.AlarmLaws.{effect_listed}
use Rattle.nc_expressions.proofs.ListedAlarms.{IsListed}
use Rattle.block_effects.proofs.laws.alarms_are_listed.Goals as goal

pub returns : goal.returns
returns c equipment found line opener statement code is = subst IsListed is (effect_listed equipment found line opener statement)
