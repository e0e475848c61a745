use Rattle.frames.proofs.ChainLaws.{four-turns, turn-back, mirror-back}
use Rattle.frames.proofs.laws.turns_and_mirrors_end.Goals as goal

pub returns-clause-four_turns : goal.returns-clause-four_turns
returns-clause-four_turns c = four-turns

pub returns-clause-turn_back : goal.returns-clause-turn_back
returns-clause-turn_back c = turn-back

pub returns-clause-two_mirrors : goal.returns-clause-two_mirrors
returns-clause-two_mirrors c = mirror-back
