use Rattle.std.proofs.Common.{◌*◌, ◌%◌, ◌^◌, refl, ◌∙◌, bit_or}
use Rattle.axis_sets.proofs.WordLaws.{has_bit_with, fits_with, length-bits_of}
use Rattle.axis_sets.proofs.places.Places.with.Goals as goal

pub invariant_of-result : goal.invariant_of-result
invariant_of-result g c = (fits_with g.row.N c.self.inside.word c.args.place c.self.invariant.1 c.self.invariant.0 c.requires, c.self.invariant.1)

pub returns-clause-members : goal.returns-clause-members
returns-clause-members g c m = has_bit_with g.row.N c.self.inside.word c.args.place c.self.invariant.1 c.self.invariant.0 c.requires m ∙ rw (c.self.view_is) refl

pub returns-clause-size : goal.returns-clause-size
returns-clause-size g c = length-bits_of g.row.N (bit_or c.self.inside.word (1 * 2 ^ c.args.place % 18446744073709551616))
