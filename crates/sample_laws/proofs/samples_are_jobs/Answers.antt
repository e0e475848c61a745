use Rattle.sample_laws.proofs.Accepted.{sample_accepted}
use Rattle.sample_laws.proofs.samples_are_jobs.Goals as goal

pub returns : goal.returns
returns c = λ number. sample_accepted number
