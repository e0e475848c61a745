use Rattle.std.proofs.Common.{◌∙◌, refl}
use Rattle.axis_sets.proofs.WordLaws.{same_bits}
use Rattle.axis_sets.proofs.places.PlacesPartialEq.eq.Goals as goal

pub returns : goal.returns
returns g c =
    same_bits g.row.N c.self.inside.word c.other.inside.word c.self.invariant.0 c.other.invariant.0
    ∙ rw (c.self.view_is, c.other.view_is) refl
