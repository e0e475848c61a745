-- A job is answered by its two lines.
use Rattle.std.proofs.Common.{◌∙◌, ℕ, List, Ok, subst, sym}
use Rattle.exit_statuses.specs.declared.Status.{Status}
use Rattle.job_report.specs.Summary.{summary_bytes}
use Rattle.turnmill.specs.Summary.{IsSummaryBy}
use Rattle.turnmill.proofs.CalledVerdicts.{no_refusal}
use Rattle.turnmill.proofs.SampleLemmas.{front_of_summary, summary_called}
use Rattle.turnmill.proofs.sample.answer_job.Goals as goal

pub returns-in-Ok-summary-clause-whole : goal.returns-in-Ok-summary-clause-whole
returns-in-Ok-summary-clause-whole g c = λ whole.
    let job = c.args.job.now in
    let called = summary_called c.args.number job c.in-Ok.judgement.run c.in-Ok.judgement.clocks c.in-Ok.judgement.stretches c.in-Ok.judgement.verdict c.in-Ok.ensures.judged c.in-Ok.ensures.in_order c.in-Some.figures c.in-Some.ensures in
    let bytes : List ℕ = summary_bytes c.in-Some.figures c.in-Ok.judgement.verdict in
    record {
      bytes = bytes;
      called_for = subst (λ (s : Status). IsSummaryBy c.args.number (Ok job) s bytes) (sym c.of_verdict.ensures) called;
      grows = c.in-Ok-summary.ensures.whole;
    }

pub returns-in-Err-clause-front : goal.returns-in-Err-clause-front
returns-in-Err-clause-front g c = λ is. front_of_summary c.args.number c.args.job.now c.in-Ok.judgement.run c.in-Ok.judgement.clocks c.in-Ok.judgement.stretches c.in-Ok.judgement.verdict c.in-Ok.ensures.judged
    c.in-Ok.ensures.in_order c.in-Some.figures _ _ c.in-Some.ensures c.in-Err.ensures.front

pub returns-in-Ok-summary-clause-never_refused : goal.returns-in-Ok-summary-clause-never_refused
returns-in-Ok-summary-clause-never_refused g c = λ refused. no_refusal c.in-Ok.judgement.verdict (sym c.of_verdict.ensures ∙ refused)
