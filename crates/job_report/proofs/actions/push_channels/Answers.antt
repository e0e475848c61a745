use Rattle.std.proofs.Common.{◌≡◌, ◌∙◌, ◌+◌, sym, arith}
use Rattle.axis_sets.specs.Sets.{has}
use Rattle.job_report.specs.Actions.{next_number}
use Rattle.job_report.proofs.RowLemmas.{text-taken, text-passed}
use Rattle.job_report.proofs.actions.push_channels.Goals as goal
use Rattle.job_report.proofs.actions.push_channels.Goals.{then-contains, else-contains}

pub loop-index-preserved : goal.loop-index-preserved
loop-index-preserved c =
    let number : 1 + c.loop-index.index ≡ c.loop-index.index + 1 = omega arith in
    elim c.if-contains.branch [
      | then-contains w ↦ record {
        text = text-taken next_number (has c.args.set.now) 1 c.loop-index.index _ _ _ _ number (sym c.contains.ensures.member ∙ w.if-contains.true)
            c.loop-index.invariant.text (w.page-is ∙ w.push_next_number.ensures.text);
        room = rw w.page-is (omega (arith, w.push_next_number.ensures.room, c.loop-index.invariant.room));
      }
      | else-contains w ↦ record {
        text = text-passed next_number (has c.args.set.now) 1 c.loop-index.index _ _ _ _ number (sym c.contains.ensures.member ∙ w.if-contains.false)
            c.loop-index.invariant.text w.page-is;
        room = rw w.page-is (omega (arith, c.loop-index.invariant.room));
      }
    ]
