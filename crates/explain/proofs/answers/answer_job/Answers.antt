use Rattle.explain.proofs.BeginLaws.{explained_begins}
use Rattle.explain.proofs.answers.answer_job.Goals as goal

pub returns : goal.returns
returns g c = record {
  run = c.in_ok-judgement.judgement.run;
  clocks = c.in_ok-judgement.judgement.clocks;
  stretches = c.in_ok-judgement.judgement.stretches;
  verdict = c.in_ok-judgement.judgement.verdict;
  met = c.as_slice.result.now;
  judged = c.in_ok-judgement.ensures;
  listed = rw c.as_slice.ensures.value c.in_ok-met.ensures;
  status_is = c.of_verdict.ensures;
  begins = λ is. explained_begins _ _ _ _ c.in_ok-judgement.judgement.clocks _ _ _ _ (c.in_ok-text.ensures.told is);
  told = c.in_ok-text.ensures.told;
  drawn = c.in_ok-text.ensures.drawn;
}
