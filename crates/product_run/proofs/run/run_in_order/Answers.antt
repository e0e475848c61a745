use Rattle.std.proofs.Common.{IfOk, subst}
use Rattle.channel_machine.proofs.Segments.{if_ok}
use Rattle.channel_machine.specs.StartStates.{start_of}
use Rattle.product_run.proofs.Motions.{runs_in_order_are_maximal}
use Rattle.product_run.proofs.Short.{few_entries}
use Rattle.product_run.proofs.run.run_in_order.Goals as goal
use Rattle.channel_machine.specs.Scripts.{IsRunInOrder}
use Rattle.sync_types.specs.Views.{StartView}

pub returns-clause-run : goal.returns-clause-run
returns-clause-run c = subst (λ (s : StartView). IfOk c.run_from.result (λ run. IsRunInOrder c.args.job.now s run)) c.start_state-start.ensures.exact c.run_from.ensures

pub returns-clause-few : goal.returns-clause-few
returns-clause-few c =
    if_ok c.run_from.result (λ run ordered. few_entries c.args.job.now run (runs_in_order_are_maximal c.args.job.now (start_of c.args.job.now) run ordered))
    (subst (λ (s : StartView). IfOk c.run_from.result (λ run. IsRunInOrder c.args.job.now s run)) c.start_state-start.ensures.exact c.run_from.ensures)
