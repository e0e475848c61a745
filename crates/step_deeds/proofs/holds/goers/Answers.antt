use Rattle.axis_sets.specs.declared.limits.TheConstants.{CHANNEL_PLACES}
use Rattle.std.proofs.Common.{◌≡◌, length, false, inl, inr, sym, ◌∙◌, rules, arith}
use Rattle.std.proofs.lemmas.Bool.{cases_lt}
use Rattle.std.proofs.Math.ListN.{get_or-eq_default}
use Rattle.step_deeds.proofs.HoldLaws.{past_gone}
use Rattle.step_deeds.proofs.holds.goers.Goals as goal

pub returns-clause-members : goal.returns-clause-members
returns-clause-members c = λ k.
    let low = c.loop-c-test.false in
    let size = c.loop-c.invariant.size in
    let sizes : length c.args.gone.now ≡ CHANNEL_PLACES = search rules in
    elim (cases_lt k c.loop-c.c) [
      | inl below ↦ c.loop-c.invariant.done k below
      | inr past ↦ get_or-eq_default c.loop-c.goes false (omega arith) ∙ sym (past_gone c.args.gone.now k (omega arith))
    ]
