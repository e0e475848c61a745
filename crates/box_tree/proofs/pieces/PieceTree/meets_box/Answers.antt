use Rattle.std.proofs.Common.{◌∙◌, List, length, ap, sym, arith}
use Rattle.std.specs.List.{list_any}
use Rattle.box_tree.proofs.HullLaws.{found_is}
use Rattle.swept_boxes.specs.Boxes.{boxes_meet}
use Rattle.swept_boxes.specs.declared.Box3.{Box3}
use Rattle.box_tree.proofs.pieces.PieceTree.meets_box.Goals as goal

pub returns : goal.returns
returns c =
    let first = c.len.ensures.value in
    let second = c.len-2.ensures.value in
    let within = c.met_between.ensures.within in
    found_is (λ piece. boxes_meet piece c.args.met.now) c.as_slice.result.now c.met_between.result c.len-2.result (second ∙ sym (ap (λ (bs : List Box3). length bs) c.as_slice.ensures.value))
    (omega (arith, first, second, within)) (λ less. c.met_between.ensures.met (omega (arith, first, second, less))) c.met_between.ensures.none
    ∙ ap (λ (bs : List Box3). list_any (λ piece. boxes_meet piece c.args.met.now) bs) (c.as_slice.ensures.value ∙ c.self.view_is)
