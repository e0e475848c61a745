use Rattle.order_clocks.specs.declared.events.TheConstants.{EVENT_PLACES}
use Rattle.std.proofs.Common.{None, ◌⊎◌}
use Rattle.order_clocks.specs.Pairs.{IsRaceBetween}
use Rattle.order_clocks.specs.declared.pairs.RaceTiming.TheVariants.{Together, Waiting}
use Rattle.order_clocks.proofs.PairLaws.{least_both}
use Rattle.order_clocks.proofs.search.least_within.Goals as goal

pub returns : goal.returns
returns c = least_both (IsRaceBetween Waiting c.args.events.now c.args.waits.now EVENT_PLACES) (IsRaceBetween Together c.args.events.now c.args.events.now EVENT_PLACES)
    (λ race. IsRaceBetween Waiting c.args.events.now c.args.waits.now EVENT_PLACES race ⊎ IsRaceBetween Together c.args.events.now c.args.events.now EVENT_PLACES race) None c.least_between-waiting.result c.least_between.result (λ q s. s) (λ q s. s)
    c.least_between-waiting.ensures c.least_between.ensures
