use Rattle.coordination_words.proofs.RequestLaws.{no_mark_named}
use Rattle.coordination_words.proofs.laws.clearm_without_arguments_lowers_all.Goals as goal

pub returns : goal.returns
returns c setting parameters operands marks few is none = no_mark_named setting parameters operands marks few is none
