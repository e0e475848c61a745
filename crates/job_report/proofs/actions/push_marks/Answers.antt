use Rattle.std.proofs.Common.{◌≡◌, ◌∙◌, ◌+◌, sym, arith}
use Rattle.axis_sets.specs.Sets.{has}
use Rattle.job_report.specs.Actions.{next_number}
use Rattle.job_report.proofs.RowLemmas.{text-taken, text-passed}
use Rattle.job_report.proofs.actions.push_marks.Goals as goal
use Rattle.job_report.proofs.actions.push_marks.Goals.{then-contains, else-contains}

pub loop-number-preserved : goal.loop-number-preserved
loop-number-preserved c =
    let number : 0 + c.loop-number.number ≡ c.loop-number.number = omega arith in
    elim c.if-contains.branch [
      | then-contains w ↦ record {
        text = text-taken next_number (has c.args.set.now) 0 c.loop-number.number _ _ _ _ number (sym c.contains.ensures.member ∙ w.if-contains.true)
            c.loop-number.invariant.text (w.page-is ∙ w.push_next_number.ensures.text);
        room = rw w.page-is (omega (arith, w.push_next_number.ensures.room, c.loop-number.invariant.room));
      }
      | else-contains w ↦ record {
        text = text-passed next_number (has c.args.set.now) 0 c.loop-number.number _ _ _ _ number (sym c.contains.ensures.member ∙ w.if-contains.false)
            c.loop-number.invariant.text w.page-is;
        room = rw w.page-is (omega (arith, c.loop-number.invariant.room));
      }
    ]
