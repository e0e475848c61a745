use Rattle.std.proofs.Common.{◌∙◌, ap}
use Rattle.order_clocks.specs.Tells.{is_before_in}
use Rattle.clash_check.proofs.CountLaws.{count_is}
use Rattle.clash_check.specs.PairCounts.{capped}
use Rattle.clash_check.proofs.pair_counts.count_up_to.Goals as goal

pub returns : goal.returns
returns c = c.count_in.ensures ∙ ap capped (count_is (is_before_in c.args.clocks.now.rows) c.args.job.now c.args.stretches.now c.of-zones.result c.of-zones.ensures.times)
