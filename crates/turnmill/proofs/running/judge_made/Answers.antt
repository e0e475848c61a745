-- A run without a race is reported.
use Rattle.std.proofs.Common.{◌≡◌, None}
use Rattle.product_run.proofs.JudgedRuns.{few}
use Rattle.turnmill.proofs.AlikeInOrder.{reported_quiet}
use Rattle.turnmill.proofs.JudgeLemmas.{listed_ends}
use Rattle.turnmill.proofs.running.judge_made.Goals as goal

pub returns-in-None-clause-reported : goal.returns-in-None-clause-reported
returns-in-None-clause-reported g c =
    let j = c.in_ok-judgement.judgement in
    let none : j.clocks.race ≡ None = cc in
    reported_quiet c.args.job.now c.requires.accepted j.run j.clocks j.stretches j.verdict c.in_ok-judgement.ensures.judged none

pub returns-in-None-clause-listed : goal.returns-in-None-clause-listed
returns-in-None-clause-listed g c = listed_ends c.args.job.now c.in_ok-judgement.judgement.run c.requires.accepted c.in_ok-judgement.ensures.judged.judged.maximal

pub returns-in-None-clause-few : goal.returns-in-None-clause-few
returns-in-None-clause-few g c = few c.args.job.now c.in_ok-judgement.judgement.run c.requires.accepted c.in_ok-judgement.ensures.judged.judged.maximal
