use Rattle.coordination_words.proofs.RequestLaws.{asks}
use Rattle.coordination_words.proofs.laws.switches_are_of_held_zones.Goals as goal
use Rattle.coordination_words.specs.declared.asked.Request.TheVariants.{Switch}

pub returns : goal.returns
returns c setting parameters word operands zone on is = asks setting parameters word operands (Switch zone on) is
