use Rattle.speed_laws.proofs.PresentStretches.{zones_have_present_stretches}
use Rattle.speed_laws.proofs.zones_have_present_stretches.Goals as goal

pub returns : goal.returns
returns c = zones_have_present_stretches
