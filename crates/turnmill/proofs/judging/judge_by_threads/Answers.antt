-- The parts of a verdict get what they need of the run.
use Rattle.std.proofs.Common.{arith}
use Rattle.channel_machine.specs.StartStates.{start_of}
use Rattle.product_run.proofs.JudgedRuns.{comes, comes_from_one, few, few_in_all, few_in_each}
use Rattle.turnmill.proofs.JudgeLemmas.{all_fit, judged_by}
use Rattle.zone_stretches.proofs.ToldRuns.{told_of}
use Rattle.turnmill.proofs.judging.judge_by_threads.Goals as goal

pub clocks_of-requires-clause-few : goal.clocks_of-requires-clause-few
clocks_of-requires-clause-few g c = let short = few c.args.job.now c.args.run c.requires.accepted c.requires.maximal in omega (arith, short)

pub clocks_of-requires-clause-whole : goal.clocks_of-requires-clause-whole
clocks_of-requires-clause-whole g c = comes_from_one c.args.job.now c.args.run c.requires.accepted c.requires.maximal

pub stretches_of-requires-clause-whole : goal.stretches_of-requires-clause-whole
stretches_of-requires-clause-whole g c = comes_from_one c.args.job.now c.args.run c.requires.accepted c.requires.maximal

pub stretches_of-requires-clause-few_entries : goal.stretches_of-requires-clause-few_entries
stretches_of-requires-clause-few_entries g c = let short = few c.args.job.now c.args.run c.requires.accepted c.requires.maximal in omega (arith, short)

pub stretches_of-requires-clause-few_items : goal.stretches_of-requires-clause-few_items
stretches_of-requires-clause-few_items g c = few_in_each c.args.job.now c.args.run c.requires.accepted c.requires.maximal

pub stretches_of-requires-clause-fit : goal.stretches_of-requires-clause-fit
stretches_of-requires-clause-fit g c = all_fit c.args.job.now c.args.run c.requires.accepted c.requires.maximal

pub judge_shared-requires-clause-whole : goal.judge_shared-requires-clause-whole
judge_shared-requires-clause-whole g c = λ _ _.
    told_of c.args.job.now c.args.run (start_of c.args.job.now) (comes c.args.job.now c.args.run c.requires.accepted c.requires.maximal) c.in_ok-stretches.stretches c.in_ok-clocks.clocks c.in_ok-stretches.ensures c.in_ok-clocks.ensures.order

pub judge_shared-requires-clause-few_entries : goal.judge_shared-requires-clause-few_entries
judge_shared-requires-clause-few_entries g c = let short = few c.args.job.now c.args.run c.requires.accepted c.requires.maximal in omega (arith, short)

pub judge_shared-requires-clause-few_items : goal.judge_shared-requires-clause-few_items
judge_shared-requires-clause-few_items g c = λ _ _. few_in_all c.args.job.now c.args.run c.requires.accepted c.requires.maximal

pub judge_shared-requires-clause-fit : goal.judge_shared-requires-clause-fit
judge_shared-requires-clause-fit g c = λ _ _. all_fit c.args.job.now c.args.run c.requires.accepted c.requires.maximal

pub returns-clause-judged : goal.returns-clause-judged
returns-clause-judged g c =
    judged_by c.args.job.now c.args.run c.requires.accepted c.requires.maximal c.in_ok-stretches.stretches c.in_ok-clocks.clocks c.in_ok-verdict.verdict c.in_ok-stretches.ensures
    c.in_ok-clocks.ensures.order c.in_ok-clocks.ensures.race c.in_ok-verdict.ensures
