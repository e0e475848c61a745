use Rattle.std.proofs.Common.{sym, ◌∙◌}
use Rattle.coordination_words.proofs.SetSteps.{without_is}
use Rattle.coordination_words.proofs.words.without.Goals as goal

pub returns : goal.returns
returns c = without_is c.args.named c.without.result c.args.channel (c.requires ∙ sym c.without.ensures.size) c.without.ensures.members
