use Rattle.speed_laws.proofs.StartZones.{zone_times_in_order}
use Rattle.speed_laws.proofs.zone_times_are_in_order.Goals as goal

pub returns : goal.returns
returns c = zone_times_in_order
