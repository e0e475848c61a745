use Rattle.explain_stops.specs.Races.{races}
use Rattle.explain_stops.proofs.races.race_prize.Goals as goal

pub returns : goal.returns
unfolding races
returns c = c.prize_of.ensures
