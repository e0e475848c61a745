use Rattle.product_run.proofs.Short.{runs_are_short}
use Rattle.product_run.proofs.laws.runs_are_short.Goals as goal

pub returns : goal.returns
returns c job cs = runs_are_short job cs
