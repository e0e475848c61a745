use Rattle.std.proofs.Common.{◌<◌, None, inl, inr, sym, ap, ◌∙◌, arith}
use Rattle.std.specs.Prelude.{is_some}
use Rattle.std.proofs.lemmas.Bool.{cases_lt}
use Rattle.std.proofs.Math.ListN.{get_or-eq_default}
use Rattle.step_deeds.proofs.holds.axes_with_position.Goals as goal

pub returns : goal.returns
returns c = λ x.
    let low = c.loop-index-test.false in
    let above : 0 < c.loop-index.index = omega arith in
    let size = c.loop-index.invariant.size above in
    elim (cases_lt x c.loop-index.index) [
      | inl below ↦ c.loop-index.invariant.done x below
      | inr past ↦ c.loop-index.invariant.rest x past ∙ sym (ap is_some (get_or-eq_default c.args.at.now None (omega arith)))
    ]
