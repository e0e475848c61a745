use Rattle.std.proofs.Common.{sym, ◌∙◌}
use Rattle.coordination_words.proofs.SetSteps.{with_is}
use Rattle.coordination_words.proofs.operands.with_mark.Goals as goal

pub returns-clause-value : goal.returns-clause-value
returns-clause-value c = with_is c.args.set c.with.result c.args.mark (c.requires.size ∙ sym c.with.ensures.size) c.with.ensures.members
