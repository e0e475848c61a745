-- A line more; and no line is left.
use Rattle.std.proofs.Common.{◌∙◌, length, sym}
use Rattle.std.proofs.lemmas.Bool.{eqb-true}
use Rattle.std.proofs.lemmas.Result.{IfOk-weaker}
use Rattle.explain_ready.proofs.CopyLaws.{few_more, finishes, first_of, left_over, left_step, none_left, stays_step, text_step}
use Rattle.explain_ready.proofs.copying.ready_text.Goals as goal

pub returns-then-is_empty : goal.returns-then-is_empty
returns-then-is_empty c =
    let none = none_left _ c.loop-code.rest.now (eqb-true (length c.loop-code.rest.now) 0 (sym c.if-is_empty.ensures)) in
    IfOk-weaker c.finished.result _ _ (λ ready done. finishes _ _ _ _ ready none c.loop-code.invariant.copied c.loop-code.invariant.left c.loop-code.invariant.stays done) c.finished.ensures

pub loop-code-preserved : goal.loop-code-preserved
loop-code-preserved c = let follows = left_over c.first_length-length.result c.loop-code.rest.now in record {
  few = few_more _ _ _ _ _ _ _ _ c.counts_with-counts.ensures c.first_length-length.ensures follows c.loop-code.invariant.few;
  copied =
      text_step _ _ _ _ _ _ _ (first_of _ _ _ _ _ _ c.loop-code-test.true c.first_length-length.ensures follows) c.in_ok-place.ensures c.put_line.ensures
      ∙ c.loop-code.invariant.copied;
  left =
      left_step _ _ _ _ _ _ _ (first_of _ _ _ _ _ _ c.loop-code-test.true c.first_length-length.ensures follows) c.in_ok-place.ensures c.counts_with-counts.ensures
      ∙ c.loop-code.invariant.left;
  stays =
      stays_step _ _ _ _ _ _ _ (first_of _ _ _ _ _ _ c.loop-code-test.true c.first_length-length.ensures follows) c.in_ok-place.ensures c.counts_with-counts.ensures
      ∙ c.loop-code.invariant.stays;
}
