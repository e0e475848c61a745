use Rattle.axis_sets.proofs.SetLaws.{same_sets, list_any-members_of, members_of-ascending}
use Rattle.axis_sets.proofs.laws.sets_are_known_by_their_members.Goals as goal

pub returns-clause-same : goal.returns-clause-same
returns-clause-same c = same_sets

pub returns-clause-listed : goal.returns-clause-listed
returns-clause-listed c = list_any-members_of

pub returns-clause-ascending : goal.returns-clause-ascending
returns-clause-ascending c = members_of-ascending
