-- Two steps in either order.
use Rattle.schedule_laws.proofs.Stepwise.{either_way}
use Rattle.schedule_laws.proofs.swaps.steps_may_be_swapped.Goals as goal

pub returns : goal.returns
returns c = λ start ms one other w. either_way start ms one other w
