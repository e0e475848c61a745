-- The parts of a verdict get what they need of the run in order.
use Rattle.product_run.proofs.JudgedRuns.{comes, comes_from_one, few_in_all, few_in_each}
use Rattle.product_run.proofs.Motions.{runs_in_order_are_maximal}
use Rattle.state_search.proofs.JudgeLemmas.{all_fit}
use Rattle.zone_stretches.proofs.ToldRuns.{told_of}
use Rattle.state_search.proofs.verdicts.verdict_on.Goals as goal

pub clocks_of-requires-clause-whole : goal.clocks_of-requires-clause-whole
clocks_of-requires-clause-whole c = comes_from_one c.args.job.now c.in_ok-run.run' c.requires.accepted (runs_in_order_are_maximal _ _ _ c.in_ok-run.ensures.run)

pub stretches_of-requires-clause-whole : goal.stretches_of-requires-clause-whole
stretches_of-requires-clause-whole c = comes_from_one c.args.job.now c.in_ok-run.run' c.requires.accepted (runs_in_order_are_maximal _ _ _ c.in_ok-run.ensures.run)

pub stretches_of-requires-clause-few_items : goal.stretches_of-requires-clause-few_items
stretches_of-requires-clause-few_items c = few_in_each c.args.job.now c.in_ok-run.run' c.requires.accepted (runs_in_order_are_maximal _ _ _ c.in_ok-run.ensures.run)

pub stretches_of-requires-clause-fit : goal.stretches_of-requires-clause-fit
stretches_of-requires-clause-fit c = all_fit c.args.job.now c.in_ok-run.run' c.requires.accepted c.in_ok-run.ensures.run

pub judge-requires-clause-whole : goal.judge-requires-clause-whole
judge-requires-clause-whole c =
    told_of c.args.job.now c.in_ok-run.run' _ (comes c.args.job.now c.in_ok-run.run' c.requires.accepted (runs_in_order_are_maximal _ _ _ c.in_ok-run.ensures.run)) c.in_ok-stretches.stretches c.in_ok-clocks.clocks c.in_ok-stretches.ensures c.in_ok-clocks.ensures.order

pub judge-requires-clause-few_items : goal.judge-requires-clause-few_items
judge-requires-clause-few_items c = few_in_all c.args.job.now c.in_ok-run.run' c.requires.accepted (runs_in_order_are_maximal _ _ _ c.in_ok-run.ensures.run)

pub judge-requires-clause-fit : goal.judge-requires-clause-fit
judge-requires-clause-fit c = all_fit c.args.job.now c.in_ok-run.run' c.requires.accepted c.in_ok-run.ensures.run
