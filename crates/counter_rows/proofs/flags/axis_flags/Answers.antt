use Rattle.axis_sets.specs.declared.limits.TheConstants.{AXIS_LIMIT}
use Rattle.std.proofs.Common.{◌≡◌, length, false, inl, inr, sym, ◌∙◌, arith}
use Rattle.std.proofs.lemmas.Bool.{cases_lt}
use Rattle.std.proofs.Math.ListN.{get_or-eq_default}
use Rattle.counter_rows.proofs.flags.axis_flags.Goals as goal

pub returns-clause-members : goal.returns-clause-members
returns-clause-members c =
    let low = c.loop-index-test.false in
    let size : length c.args.set.now ≡ AXIS_LIMIT = c.is_empty.ensures.size in
    let same = c.loop-index.invariant.size in
    c.sets_are_known_by_their_members.ensures.same c.loop-index.flags c.args.set.now same (λ k. elim (cases_lt k c.loop-index.index) [
      | inl below ↦ c.loop-index.invariant.done k below
      | inr past ↦ get_or-eq_default c.loop-index.flags false (omega arith) ∙ sym (get_or-eq_default c.args.set.now false (omega arith))
    ])
