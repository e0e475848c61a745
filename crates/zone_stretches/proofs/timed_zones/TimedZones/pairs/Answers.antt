use Rattle.zone_stretches.proofs.TimedLaws.{from_start}
use Rattle.zone_stretches.proofs.timed_zones.TimedZones.pairs.Goals as goal

pub returns : goal.returns
returns c = from_start c.args.self.now
