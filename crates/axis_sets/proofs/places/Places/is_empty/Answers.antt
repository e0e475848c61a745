use Rattle.std.proofs.Common.{◌≡◌, length, sym, ap, subst, ◌∙◌, IsTrue, nat_eq, eq-eqb, eqb-true}
use Rattle.axis_sets.specs.Sets.{IsEmpty}
use Rattle.axis_sets.specs.Words.{bits_of}
use Rattle.axis_sets.proofs.WordLaws.{none_in_zero, zero_of_none, length-bits_of}
use Rattle.axis_sets.proofs.places.Places.is_empty.Goals as goal

pub returns-clause-empty : goal.returns-clause-empty
returns-clause-empty g c = (
  λ is_zero. subst IsEmpty (ap (bits_of g.row.N) (sym (zero is_zero)) ∙ c.self.view_is) (none_in_zero g.row.N),
  λ none. eq-eqb c.self.inside.word 0 (zero_of_none g.row.N c.self.inside.word c.self.invariant.0 (subst IsEmpty (sym c.self.view_is) none)),
)
  where
    zero : IsTrue (nat_eq c.self.inside.word 0) → c.self.inside.word ≡ 0
    zero is_zero = eqb-true c.self.inside.word 0 is_zero

pub returns-clause-size : goal.returns-clause-size
returns-clause-size g c = ap length (sym c.self.view_is) ∙ length-bits_of g.row.N c.self.inside.word
