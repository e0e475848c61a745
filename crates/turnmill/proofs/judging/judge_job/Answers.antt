-- The run in order is one of those that are judged.
use Rattle.channel_machine.specs.StartStates.{start_of}
use Rattle.product_run.proofs.Motions.{runs_in_order_are_maximal}
use Rattle.turnmill.proofs.judging.judge_job.Goals as goal

pub judge_run-requires-clause-maximal : goal.judge_run-requires-clause-maximal
judge_run-requires-clause-maximal c = runs_in_order_are_maximal c.args.job.now (start_of c.args.job.now) c.in_ok-run.run' c.in_ok-run.ensures.run
