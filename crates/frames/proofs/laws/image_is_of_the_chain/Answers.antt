use Rattle.frames.proofs.ChainLaws.{slot-below, slots-apart}
use Rattle.frames.proofs.PointLaws.{chain-sent}
use Rattle.frames.proofs.laws.image_is_of_the_chain.Goals as goal

pub returns-clause-sends : goal.returns-clause-sends
returns-clause-sends c = chain-sent

pub returns-clause-slots : goal.returns-clause-slots
returns-clause-slots c = slot-below

pub returns-clause-slots_apart : goal.returns-clause-slots_apart
returns-clause-slots_apart c = slots-apart
