-- A sample is answered by what it is read as.
use Rattle.std.proofs.Common.{◌≡◌, ◌∙◌, List, ℕ, Ok, Err, ap, subst, sym}
use Rattle.sample_jobs.specs.Samples.{sample_bytes}
use Rattle.tape_job.proofs.SoundJobs.{accepted_sound}
use Rattle.tape_job.specs.Read.{GivesRead, read_of}
use Rattle.tape_job.specs.declared.fault.JobFault.{JobFault}
use Rattle.tape_job.specs.declared.fault.JobFault.TheVariants.{Refused}
use Rattle.turnmill.proofs.SampleLemmas.{front_of_read, not_refused}
use Rattle.turnmill.proofs.sample.answer_sample.Goals as goal

pub answer_job-status-requires-clause-accepted : goal.answer_job-status-requires-clause-accepted
answer_job-status-requires-clause-accepted g c = accepted_sound c.deref.result.now c.in-Ok-read_job.job c.in-Ok-read_job.ensures.exact

pub unreachable-requires : goal.unreachable-requires
unreachable-requires g c =
    let bytes_are : c.deref.result.now ≡ sample_bytes c.args.number = c.deref.ensures.value ∙ c.in-Ok.ensures.exact in
    let given : GivesRead (Err (Refused c.in-Err-Refused.field-0-0)) (read_of c.deref.result.now) =
    subst (λ (fault : JobFault). GivesRead (Err fault) (read_of c.deref.result.now)) c.in-Err-Refused.field-0-is c.in-Err-Refused.ensures.exact in
    not_refused c.args.number c.in-Err-Refused.field-0-0 (ap read_of (sym bytes_are) ∙ given)

pub returns-in-Ok-read_job-clause-front : goal.returns-in-Ok-read_job-clause-front
returns-in-Ok-read_job-clause-front g c = λ is.
    let bytes_are : c.deref.result.now ≡ sample_bytes c.args.number = c.deref.ensures.value ∙ c.in-Ok.ensures.exact in
    let read : read_of (sample_bytes c.args.number) ≡ Ok c.in-Ok-read_job.job = ap read_of (sym bytes_are) ∙ c.in-Ok-read_job.ensures.exact in
    front_of_read c.args.number (Ok c.in-Ok-read_job.job) (read_of (sample_bytes c.args.number)) _ _ read (c.answer_job-status.ensures.front is)
