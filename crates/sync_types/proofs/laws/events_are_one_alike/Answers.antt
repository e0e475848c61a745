use Rattle.sync_types.proofs.Links.{are_one_alike, has_one_lowest_name}
use Rattle.sync_types.proofs.laws.events_are_one_alike.Goals as goal

pub returns-clause-alike : goal.returns-clause-alike
returns-clause-alike c = are_one_alike

pub returns-clause-lowest : goal.returns-clause-lowest
returns-clause-lowest c = has_one_lowest_name
