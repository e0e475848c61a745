-- The pairs of a run are few enough to be counted; more than the job allows, or not.
use Rattle.std.proofs.Common.{◌≡◌, ◌<◌, ◌≤◌, ap, sym, arith}
use Rattle.clash_check.proofs.VerdictLaws.{few_enough, few_pairs, too_many}
use Rattle.job_types.specs.Job.{JobView}
use Rattle.order_clocks.specs.Tells.{is_before_in}
use Rattle.clash_check.proofs.judging.budget_verdict.Goals as goal

pub returns-then-count-from : goal.returns-then-count-from
returns-then-count-from c = λ later.
    let budget : c.job.inside.budget ≡ c.args.job.now.budget = ap (λ (j : JobView). j.budget) c.job.view_is in
    let many : c.args.job.now.budget < c.count-count.result = omega (arith, budget) in
    rw budget (sym (too_many (is_before_in c.args.clocks.now.rows) c.args.job.now c.args.stretches.now c.count-count.result later c.count-count.ensures many))

pub returns-else-count-from : goal.returns-else-count-from
returns-else-count-from c = λ later.
    let budget : c.job.inside.budget ≡ c.args.job.now.budget = ap (λ (j : JobView). j.budget) c.job.view_is in
    let few : c.count-count.result ≤ c.args.job.now.budget = omega (arith, budget) in
    sym (few_enough (is_before_in c.args.clocks.now.rows) c.args.job.now c.args.stretches.now c.count-count.result later c.count-count.ensures few)

pub count-count-requires : goal.count-count-requires
count-count-requires c = record {
  whole = (c.args.run.now, c.requires.told);
  few = few_pairs c.args.job.now c.args.run.now c.args.stretches.now c.args.clocks.now (is_before_in c.args.clocks.now.rows) c.requires.told
      (record { entries = c.requires.few_entries; items = c.requires.few_items; goes = c.see_goes.ensures });
}
