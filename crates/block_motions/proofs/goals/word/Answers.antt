use Rattle.std.proofs.Common.{◌∙◌}
use Rattle.block_motions.proofs.goals.word.Goals as goal

pub returns : goal.returns
returns c h are = c.word.ensures.state ∙ are.words c.args.group c.requires
