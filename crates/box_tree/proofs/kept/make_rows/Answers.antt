use Rattle.std.proofs.Common.{◌∙◌, List, [], ◌∷◌, Option, None, ap, arith, length, length-append}
use Rattle.box_tree.proofs.HullLaws.{no_row}
use Rattle.box_tree.proofs.RowLaws.{count_push}
use Rattle.box_tree.specs.Rows.{box_count, row_of}
use Rattle.swept_boxes.specs.declared.Box3.{Box3}
use Rattle.box_tree.proofs.kept.make_rows.Goals as goal

pub loop-at-preserved : goal.loop-at-preserved
loop-at-preserved c = record {
  same = λ k. ap (λ (rows : List (Option (List Box3))). row_of rows k) c.in_ok-push.ensures.items ∙ no_row c.loop-at.rows.items k ∙ c.loop-at.invariant.same k;
  room =
      let long = ap (λ (xs : List (Option (List Box3))). length xs) c.in_ok-push.ensures.items ∙ length-append c.loop-at.rows.items (None ∷ []) in
      let before = c.loop-at.invariant.room in
      omega (arith, long, before);
  count = ap (λ (rows : List (Option (List Box3))). box_count rows) c.in_ok-push.ensures.items ∙ count_push c.loop-at.rows.items ∙ c.loop-at.invariant.count;
}

pub returns-in_err-push-clause-same : goal.returns-in_err-push-clause-same
returns-in_err-push-clause-same c k = ap (λ (rows : List (Option (List Box3))). row_of rows k) c.in_err-push.ensures.items ∙ c.loop-at.invariant.same k

pub returns-in_err-push-clause-count : goal.returns-in_err-push-clause-count
returns-in_err-push-clause-count c = ap (λ (rows : List (Option (List Box3))). box_count rows) c.in_err-push.ensures.items ∙ c.loop-at.invariant.count
