use Rattle.std.proofs.Common.{length, sym, ap, subst, ◌∙◌, w64}
use Rattle.axis_sets.specs.Sets.{IsEmpty, IsLowest}
use Rattle.axis_sets.specs.Words.{bits_of}
use Rattle.std.specs.Int.{trailing_zeros}
use Rattle.axis_sets.proofs.WordLaws.{none_in_zero, lowest_place, length-bits_of}
use Rattle.axis_sets.proofs.places.Places.lowest.Goals as goal

pub returns-then-self-eq0-clause-lowest : goal.returns-then-self-eq0-clause-lowest
returns-then-self-eq0-clause-lowest g c = subst IsEmpty (ap (bits_of g.row.N) (sym c.if-self-eq0.true) ∙ c.self.view_is) (none_in_zero g.row.N)

pub returns-then-self-eq0-clause-size : goal.returns-then-self-eq0-clause-size
returns-then-self-eq0-clause-size g c = ap length (sym c.self.view_is) ∙ length-bits_of g.row.N c.self.inside.word

pub returns-else-self-eq0-clause-lowest : goal.returns-else-self-eq0-clause-lowest
returns-else-self-eq0-clause-lowest g c = subst (λ s. IsLowest s (trailing_zeros w64 c.self.inside.word)) c.self.view_is (lowest_place g.row.N c.self.inside.word c.self.invariant.1 c.self.invariant.0 c.if-self-eq0.false).0

pub returns-else-self-eq0-clause-below : goal.returns-else-self-eq0-clause-below
returns-else-self-eq0-clause-below g c = (lowest_place g.row.N c.self.inside.word c.self.invariant.1 c.self.invariant.0 c.if-self-eq0.false).1

pub returns-else-self-eq0-clause-size : goal.returns-else-self-eq0-clause-size
returns-else-self-eq0-clause-size g c = ap length (sym c.self.view_is) ∙ length-bits_of g.row.N c.self.inside.word
