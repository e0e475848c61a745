use Rattle.zone_stretches.proofs.OneOrder.{orders_compare_the_same}
use Rattle.zone_stretches.proofs.laws.orders_compare_the_same.Goals as goal

pub returns : goal.returns
returns c before other job b run = orders_compare_the_same before other job b run
