use Rattle.std.proofs.Common.{IsTrue, rules, sym, subst, ◌∙◌, refl, true, false}
use Rattle.std.proofs.lemmas.Bool.{true≢false}
use Rattle.axis_sets.specs.Sets.{IsEmpty}
use Rattle.axis_sets.specs.declared.limits.TheConstants.{MARK_HALF}
use Rattle.axis_sets.proofs.MarkLaws.{empty_halves, halves_empty}
use Rattle.axis_sets.proofs.marks.MarkSet.is_empty.Goals as goal

pub returns-then-is_empty-clause-empty : goal.returns-then-is_empty-clause-empty
returns-then-is_empty-clause-empty c = (
  (λ on. subst IsEmpty c.self.view_is
      (empty_halves MARK_HALF c.self.inside.low c.self.inside.high c.self.invariant.0 (c.if-is_empty.ensures.empty.0 refl) (c.is_empty-then-is_empty.ensures.empty.0 on))),
  (λ none. c.is_empty-then-is_empty.ensures.empty.1
      (halves_empty MARK_HALF c.self.inside.low c.self.inside.high c.self.invariant.0 c.self.invariant.1 (subst IsEmpty (sym c.self.view_is) none)).1),
)

pub returns-else-is_empty-clause-empty : goal.returns-else-is_empty-clause-empty
returns-else-is_empty-clause-empty c = (
  (λ on. absurd (true≢false (sym on ∙ c.if-is_empty.false))),
  (λ none. c.is_empty.ensures.empty.1
      (halves_empty MARK_HALF c.self.inside.low c.self.inside.high c.self.invariant.0 c.self.invariant.1 (subst IsEmpty (sym c.self.view_is) none)).0),
)
