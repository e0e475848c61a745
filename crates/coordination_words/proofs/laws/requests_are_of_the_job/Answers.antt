use Rattle.coordination_words.proofs.RequestLaws.{asks}
use Rattle.coordination_words.proofs.laws.requests_are_of_the_job.Goals as goal
use Rattle.coordination_words.specs.declared.asked.Request.TheVariants.{Act}

pub returns : goal.returns
returns c setting parameters word operands action is = asks setting parameters word operands (Act action) is
