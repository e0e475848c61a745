use Rattle.micro_units.proofs.NearestWhole.{half_away-nearest}
use Rattle.micro_units.proofs.rounding.rounding_is_nearest.Goals as goal

pub returns : goal.returns
returns c = half_away-nearest
