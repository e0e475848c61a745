use Rattle.explain_stops.specs.Races.{races}
use Rattle.explain_stops.proofs.races.race_remedy.Goals as goal

pub returns : goal.returns
unfolding races
returns c = c.remedy_of.ensures
