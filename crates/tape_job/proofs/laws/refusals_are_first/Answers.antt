use Rattle.tape_job.proofs.FirstRefusalLemmas.{read_as}
use Rattle.tape_job.proofs.laws.refusals_are_first.Goals as goal

pub returns : goal.returns
returns c = λ input. read_as input
