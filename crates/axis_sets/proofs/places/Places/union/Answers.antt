use Rattle.std.proofs.Common.{refl, ◌∙◌, bit_or}
use Rattle.std.proofs.lemmas.Nat.{or_lt}
use Rattle.axis_sets.proofs.WordLaws.{has_bit_or, length-bits_of}
use Rattle.axis_sets.proofs.places.Places.union.Goals as goal

pub invariant_of-result : goal.invariant_of-result
invariant_of-result g c = (or_lt g.row.N c.self.inside.word c.other.inside.word c.self.invariant.0 c.other.invariant.0, c.self.invariant.1)

pub returns-clause-members : goal.returns-clause-members
returns-clause-members g c m = has_bit_or g.row.N c.self.inside.word c.other.inside.word c.self.invariant.0 c.other.invariant.0 m ∙ rw (c.self.view_is, c.other.view_is) refl

pub returns-clause-size : goal.returns-clause-size
returns-clause-size g c = length-bits_of g.row.N (bit_or c.self.inside.word c.other.inside.word)
