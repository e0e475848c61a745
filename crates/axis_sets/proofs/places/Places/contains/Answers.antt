use Rattle.std.proofs.Common.{length, sym, ap, ◌∙◌, le-ltb}
use Rattle.axis_sets.specs.Sets.{has}
use Rattle.axis_sets.proofs.WordLaws.{has_bit_tested, has_bit_past, length-bits_of}
use Rattle.axis_sets.proofs.places.Places.contains.Goals as goal

pub returns-then-place-clause-member : goal.returns-then-place-clause-member
returns-then-place-clause-member g c = has_bit_tested g.row.N c.self.inside.word c.self.invariant.0 c.args.place ∙ ap (λ s. has s c.args.place) c.self.view_is

pub returns-then-place-clause-size : goal.returns-then-place-clause-size
returns-then-place-clause-size g c = ap length (sym c.self.view_is) ∙ length-bits_of g.row.N c.self.inside.word

pub returns-else-place-clause-member : goal.returns-else-place-clause-member
returns-else-place-clause-member g c = le-ltb c.args.place g.row.N c.if-place.false ∙ sym (ap (λ s. has s c.args.place) (sym c.self.view_is) ∙ has_bit_past g.row.N c.self.inside.word c.self.invariant.0 c.args.place c.if-place.false)

pub returns-else-place-clause-size : goal.returns-else-place-clause-size
returns-else-place-clause-size g c = ap length (sym c.self.view_is) ∙ length-bits_of g.row.N c.self.inside.word
