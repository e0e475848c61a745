use Rattle.product_run.proofs.Motions.{runs_are_whole}
use Rattle.product_run.proofs.Short.{few_entries}
use Rattle.product_run.proofs.laws.runs_are_whole.Goals as goal

pub returns-clause-whole : goal.returns-clause-whole
returns-clause-whole c job start run = runs_are_whole job start run

pub returns-clause-few : goal.returns-clause-few
returns-clause-few c job run = few_entries job run
