use Rattle.std.proofs.Common.{◌-◌, ◌&&◌, not, refl, sym, ap, ◌∙◌, bit_and}
use Rattle.axis_sets.specs.Sets.{has}
use Rattle.axis_sets.specs.Words.{bits_of}
use Rattle.axis_sets.proofs.WordLaws.{has_bit, has_bit_minus, length-bits_of}
use Rattle.axis_sets.proofs.places.Places.minus.Goals as goal

pub returns-clause-members : goal.returns-clause-members
returns-clause-members g c m = has_bit_minus g.row.N c.self.inside.word c.other.inside.word c.self.invariant.1 c.self.invariant.0 c.other.invariant.0 m
    ∙ ap (λ x. has (bits_of g.row.N c.self.inside.word) m && not x) (sym (has_bit g.row.N c.other.inside.word c.other.invariant.0 m))
    ∙ rw (c.self.view_is, c.other.view_is) refl

pub returns-clause-size : goal.returns-clause-size
returns-clause-size g c = length-bits_of g.row.N (bit_and c.self.inside.word (18446744073709551615 - c.other.inside.word))
