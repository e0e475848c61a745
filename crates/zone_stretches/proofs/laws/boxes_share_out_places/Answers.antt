use Rattle.zone_stretches.proofs.ShareLaws.{boxes_share_out_places, stretches_share_out_places}
use Rattle.zone_stretches.proofs.laws.boxes_share_out_places.Goals as goal

pub returns-clause-spans : goal.returns-clause-spans
returns-clause-spans c span = boxes_share_out_places span

pub returns-clause-stretches : goal.returns-clause-stretches
returns-clause-stretches c job b run = stretches_share_out_places job b run
