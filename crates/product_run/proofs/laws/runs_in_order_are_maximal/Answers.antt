use Rattle.product_run.proofs.Motions.{runs_in_order_are_maximal}
use Rattle.product_run.proofs.laws.runs_in_order_are_maximal.Goals as goal

pub returns : goal.returns
returns c job start run = runs_in_order_are_maximal job start run
