use Rattle.std.proofs.Common.{◌≡◌, Err, rules}
use Rattle.tape_job.proofs.InputLemmas.{gives_fault}
use Rattle.tape_job.proofs.job_reader.JobReader.finish.Goals as goal

pub returns-in-Err-clause-exact : goal.returns-in-Err-clause-exact
returns-in-Err-clause-exact c = λ bytes taken.
    let is : c.args.self.progress ≡ Err c.in-Err.fault = search rules in
    gives_fault c.args.self c.in-Err.fault bytes is taken
