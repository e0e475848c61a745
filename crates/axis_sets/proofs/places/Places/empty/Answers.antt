use Rattle.axis_sets.proofs.WordLaws.{none_in_zero, length-bits_of}
use Rattle.axis_sets.proofs.places.Places.empty.Goals as goal

pub returns-clause-members : goal.returns-clause-members
returns-clause-members g c = none_in_zero g.row.N

pub returns-clause-size : goal.returns-clause-size
returns-clause-size g c = length-bits_of g.row.N 0
