use Rattle.axis_sets.specs.Sets.{has}
use Rattle.coordination_words.proofs.SetSteps.{all_by_none}
use Rattle.coordination_words.proofs.words.are_among.Goals as goal

pub returns : goal.returns
returns c = all_by_none (has c.args.set) c.args.axes c.minus.result c.is_empty.result c.minus.ensures.members c.is_empty.ensures.empty
