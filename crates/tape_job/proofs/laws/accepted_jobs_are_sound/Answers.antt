use Rattle.tape_job.proofs.SoundJobs.{accepted_sound}
use Rattle.tape_job.proofs.laws.accepted_jobs_are_sound.Goals as goal

pub returns : goal.returns
returns c = λ input job accepted. accepted_sound input job accepted
