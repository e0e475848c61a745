use Rattle.sync_types.proofs.GoingCounts.{few_go}
use Rattle.sync_types.proofs.laws.few_go_on.Goals as goal

pub returns : goal.returns
returns c = few_go
