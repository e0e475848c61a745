use Rattle.std.proofs.Common.{◌≡◌, true}
use Rattle.order_clocks.proofs.PairLaws.{least_lesser}
use Rattle.order_clocks.proofs.pairs.lesser_if.Goals as goal

pub returns-then-is_race : goal.returns-then-is_race
returns-then-is_race c = least_lesser (λ q. (c.args.is_race ≡ true) × (q ≡ c.args.race)) c.args.least c.lesser.result c.args.race (λ q. ((λ s. s.1), (λ e. (c.if-is_race.true, e)))) c.lesser.ensures
