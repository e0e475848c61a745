use Rattle.tape_job.proofs.SoundJobs.{accepted_sound}
use Rattle.state_search.proofs.verdicts.job_of.Goals as goal

pub returns-in-Ok-clause-sound : goal.returns-in-Ok-clause-sound
returns-in-Ok-clause-sound c = accepted_sound _ c.in-Ok.job c.in-Ok.ensures.exact
