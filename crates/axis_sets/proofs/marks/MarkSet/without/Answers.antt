use Rattle.std.proofs.Common.{◌≡◌, ℕ, ◌==◌, ◌++◌, ◌&&◌, not, List, Bool, subst, ◌∙◌, sym, arith}
use Rattle.axis_sets.specs.Sets.{has}
use Rattle.axis_sets.specs.declared.limits.TheConstants.{MARK_HALF}
use Rattle.axis_sets.proofs.MarkLaws.{without_low, without_high}
use Rattle.axis_sets.proofs.marks.MarkSet.without.Goals as goal

pub returns-else-place-lt-MARK_HALF-clause-members : goal.returns-else-place-lt-MARK_HALF-clause-members
returns-else-place-lt-MARK_HALF-clause-members c =
    let place = c.from-place.ensures in
    subst (λ (s : List Bool). (m : ℕ) → has (c.self.inside.low ++ c.without-else-place-lt-MARK_HALF.result) m ≡ (has s m && not (m == c.args.mark))) c.self.view_is
    (rw place at (without_high MARK_HALF c.from-place.result c.self.inside.low c.self.inside.high c.without-else-place-lt-MARK_HALF.result c.self.invariant.0 (omega arith)
    c.without-else-place-lt-MARK_HALF.ensures.members))
