use Rattle.zone_stretches.proofs.AscentLaws.{stretches_ascend}
use Rattle.zone_stretches.proofs.laws.stretches_ascend.Goals as goal

pub returns : goal.returns
returns c job start run = stretches_ascend job start run
