use Rattle.std.proofs.Common.{sym, ◌∙◌}
use Rattle.coordination_words.proofs.SetSteps.{with_is}
use Rattle.coordination_words.proofs.operands.with_member.Goals as goal

pub returns-clause-value : goal.returns-clause-value
returns-clause-value g c = with_is c.args.set c.with.result (g.I.Member.number_of c.args.member) (c.requires.size ∙ sym c.with.ensures.size) c.with.ensures.members
