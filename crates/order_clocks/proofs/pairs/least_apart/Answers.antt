use Rattle.std.proofs.Common.{◌≡◌, true, rules}
use Rattle.order_clocks.proofs.PairLaws.{pair_least}
use Rattle.order_clocks.proofs.pairs.least_apart.Goals as goal

pub returns : goal.returns
returns c =
    let on : c.is_unordered.result ≡ true = search rules in
    pair_least c.args.early.now c.args.late.now c.args.least c.lesser_if-lowered.result c.lesser_if-needed.result c.lesser_if-taken.result c.lesser_if.result
    c.meets_lowered.result c.meets_needed.result c.meets_taken.result c.meets_touched.result c.race_of.result c.race_of-2.result c.race_of-3.result c.race_of-4.result
    (c.is_unordered.ensures.0 on)
    c.meets_lowered.ensures c.meets_needed.ensures c.meets_taken.ensures c.meets_touched.ensures
    c.race_of.ensures c.race_of-2.ensures c.race_of-3.ensures c.race_of-4.ensures
    c.lesser_if-lowered.ensures c.lesser_if-needed.ensures c.lesser_if-taken.ensures c.lesser_if.ensures
