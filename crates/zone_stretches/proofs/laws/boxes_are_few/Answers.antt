use Rattle.zone_stretches.proofs.BoxCounts.{boxes_are_few, pairs_are_few}
use Rattle.zone_stretches.proofs.laws.boxes_are_few.Goals as goal

pub returns-clause-boxes : goal.returns-clause-boxes
returns-clause-boxes c job start run = boxes_are_few job start run

pub returns-clause-pairs : goal.returns-clause-pairs
returns-clause-pairs c before job start run = pairs_are_few before job start run
