-- The run in order is reported.
use Rattle.std.proofs.Common.{◌≤◌, All, length}
use Rattle.channel_machine.specs.StartStates.{start_of}
use Rattle.job_report.specs.Channels.{IsListedEnd}
use Rattle.product_run.proofs.JudgedRuns.{few}
use Rattle.product_run.specs.RunLaws.{step_limit}
use Rattle.channel_machine.specs.Scripts.{IsRunInOrder}
use Rattle.turnmill.proofs.JudgeLemmas.{both_ok, listed_ends, reported_in_order}
use Rattle.turnmill.proofs.judging.judge_in_order.Goals as goal
use Rattle.turnmill.specs.Judgements.{IsJudgedByClocks}
use Rattle.turnmill.specs.Output.{CallsForReport}
use Rattle.turnmill.specs.declared.judging.Judgement.{Judgement}

pub returns-clause-reported : goal.returns-clause-reported
returns-clause-reported c =
    let job = c.args.job.now in
    both_ok c.judge_job.result (λ (j : Judgement). IsJudgedByClocks job j.run j.clocks j.stretches j.verdict) (λ j. IsRunInOrder job (start_of job) j.run) (λ j. CallsForReport job j.run j.verdict)
    (λ j judged ordered. reported_in_order job j.run j.clocks j.stretches j.verdict judged ordered) c.judge_job.ensures.judged c.judge_job.ensures.in_order

pub returns-clause-listed : goal.returns-clause-listed
returns-clause-listed c =
    let job = c.args.job.now in
    both_ok c.judge_job.result (λ (j : Judgement). IsJudgedByClocks job j.run j.clocks j.stretches j.verdict) (λ j. IsRunInOrder job (start_of job) j.run) (λ j. All IsListedEnd j.run.ends)
    (λ j judged ordered. listed_ends job j.run c.requires.accepted judged.judged.maximal) c.judge_job.ensures.judged c.judge_job.ensures.in_order

pub returns-clause-few : goal.returns-clause-few
returns-clause-few c =
    let job = c.args.job.now in
    both_ok c.judge_job.result (λ (j : Judgement). IsJudgedByClocks job j.run j.clocks j.stretches j.verdict) (λ j. IsRunInOrder job (start_of job) j.run) (λ j. length j.run.entries ≤ step_limit)
    (λ j judged ordered. few job j.run c.requires.accepted judged.judged.maximal) c.judge_job.ensures.judged c.judge_job.ensures.in_order
