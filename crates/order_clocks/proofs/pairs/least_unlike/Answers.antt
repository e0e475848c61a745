use Rattle.order_clocks.proofs.PairLaws.{unlike_least}
use Rattle.order_clocks.proofs.pairs.least_unlike.Goals as goal

pub returns : goal.returns
returns c = unlike_least c.args.one.now c.args.other.now c.args.least c.lesser_if.result c.is_unlike.result c.race_of.result c.is_unlike.ensures c.race_of.ensures c.lesser_if.ensures
