use Rattle.std.proofs.Common.{◌≡◌, ◌==◌, false, rules}
use Rattle.order_clocks.proofs.PairLaws.{waiting_least}
use Rattle.order_clocks.proofs.pairs.least_waiting.Goals as goal

pub returns : goal.returns
returns c =
    let other : (c.args.event.now.channel == c.args.wait.now.channel) ≡ false = search rules in
    waiting_least c.args.event.now c.args.wait.now c.args.least c.lesser_if-lowered.result c.lesser_if.result c.meets_lowered.result c.meets_taken.result c.race_of.result c.race_of-2.result other
    c.meets_lowered.ensures c.meets_taken.ensures c.race_of.ensures c.race_of-2.ensures c.lesser_if-lowered.ensures c.lesser_if.ensures
