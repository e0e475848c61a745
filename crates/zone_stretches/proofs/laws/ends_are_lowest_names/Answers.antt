use Rattle.zone_stretches.proofs.NameLaws.{ends_are_lowest_names}
use Rattle.zone_stretches.proofs.laws.ends_are_lowest_names.Goals as goal

pub returns : goal.returns
returns c job b run = ends_are_lowest_names job b run
