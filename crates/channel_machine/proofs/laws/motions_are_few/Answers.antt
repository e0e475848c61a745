use Rattle.channel_machine.proofs.RunLaws.{few_items}
use Rattle.channel_machine.proofs.laws.motions_are_few.Goals as goal

pub returns : goal.returns
returns c s c' = few_items s c'
