use Rattle.speed_laws.proofs.AllSpeeds.{always_safe}
use Rattle.speed_laws.proofs.zones_never_meet.Goals as goal

pub returns : goal.returns
returns c = always_safe
