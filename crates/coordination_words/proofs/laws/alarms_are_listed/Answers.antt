use Rattle.std.proofs.Common.{subst}
use Rattle.coordination_words.proofs.ListedAlarms.{request_listed}
use Rattle.nc_expressions.proofs.ListedAlarms.{IsListed}
use Rattle.coordination_words.proofs.laws.alarms_are_listed.Goals as goal

pub returns : goal.returns
returns c setting parameters word operands code is = subst IsListed is (request_listed setting parameters word operands)
