use Rattle.product_run.proofs.GoodRuns.{runs_are_sound}
use Rattle.product_run.proofs.laws.runs_are_sound.Goals as goal

pub returns : goal.returns
returns c job start run = runs_are_sound job start run
