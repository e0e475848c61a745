use Rattle.std.proofs.Common.{◌-◌, ◌*◌, ◌%◌, ◌^◌, refl, sym, ◌∙◌, bit_and}
use Rattle.axis_sets.proofs.WordLaws.{has_bit_without, not_there, length-bits_of}
use Rattle.axis_sets.proofs.places.Places.without.Goals as goal

pub returns-then-place-clause-members : goal.returns-then-place-clause-members
returns-then-place-clause-members g c m = has_bit_without g.row.N c.self.inside.word c.args.place c.self.invariant.1 c.self.invariant.0 c.if-place.true m ∙ rw (c.self.view_is) refl

pub returns-then-place-clause-size : goal.returns-then-place-clause-size
returns-then-place-clause-size g c = length-bits_of g.row.N (bit_and c.self.inside.word (18446744073709551615 - 1 * 2 ^ c.args.place % 18446744073709551616))

pub returns-else-place-clause-members : goal.returns-else-place-clause-members
returns-else-place-clause-members g c m = rw (sym c.self.view_is) (not_there g.row.N c.self.inside.word c.args.place c.self.invariant.0 c.if-place.false m)

pub returns-else-place-clause-size : goal.returns-else-place-clause-size
returns-else-place-clause-size g c = length-bits_of g.row.N c.self.inside.word
