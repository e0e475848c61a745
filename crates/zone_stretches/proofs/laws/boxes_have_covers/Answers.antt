use Rattle.zone_stretches.proofs.CoverLaws.{boxes_have_covers}
use Rattle.zone_stretches.proofs.laws.boxes_have_covers.Goals as goal

pub returns : goal.returns
returns c job b run = boxes_have_covers job b run
