use Rattle.std.proofs.lemmas.Result.{IfOk-weaker}
use Rattle.explain.proofs.LeftOutLaws.{answered}
use Rattle.tape_job.proofs.SoundJobs.{accepted_sound}
use Rattle.explain.proofs.answers.answer_input.Goals as goal

pub answer_job-requires-clause-accepted : goal.answer_job-requires-clause-accepted
answer_job-requires-clause-accepted g c = accepted_sound _ _ c.in-Ok.ensures.exact

pub returns-in-Ok : goal.returns-in-Ok
returns-in-Ok g c =
    IfOk-weaker c.with_left_out.result _ _
    (λ told is. answered _ _ _ _ _ _ _ _ _ c.in_ok-lines.ensures c.in-Ok.ensures.exact c.in_ok-answer-in-Ok.ensures is.0 is.1)
    c.with_left_out.ensures
