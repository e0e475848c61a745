use Rattle.std.proofs.Common.{◌≡◌, ◌∙◌, ◌↔◌, IsTrue, List, [], map, get_or, ap, sym, subst}
use Rattle.std.proofs.lemmas.List.{get_or-map}
use Rattle.arrayvec.specs.ArrayVec.{ArrayVec}
use Rattle.explain_reach.specs.Lots.{DoLotsMeet}
use Rattle.swept_boxes.specs.declared.Box3.{Box3}
use Rattle.explain_reach.proofs.depths.meet_at.Goals as goal

pub returns : goal.returns
returns c =
    let own : get_or (map (λ (l : ArrayVec Box3). l.items) c.args.lefts.now) c.args.depth [] ≡ c.as_slice.result.now =
    get_or-map (λ (l : ArrayVec Box3). l.items) c.args.lefts.now c.args.depth c.index-lefts-depth.result [] c.requires.left
    ∙ ap (λ (l : ArrayVec Box3). l.items) (sym c.index-lefts-depth.is) ∙ sym c.as_slice.ensures.value in
    let other : get_or (map (λ (l : ArrayVec Box3). l.items) c.args.rights.now) c.args.depth [] ≡ c.as_slice-2.result.now =
    get_or-map (λ (l : ArrayVec Box3). l.items) c.args.rights.now c.args.depth c.index-rights-depth.result [] c.requires.right
    ∙ ap (λ (l : ArrayVec Box3). l.items) (sym c.index-rights-depth.is) ∙ sym c.as_slice-2.ensures.value in
    subst (λ (boxes : List Box3). IsTrue c.do_lots_meet.result ↔ DoLotsMeet boxes (get_or (map (λ (l : ArrayVec Box3). l.items) c.args.rights.now) c.args.depth [])) (sym own)
    (subst (λ (others : List Box3). IsTrue c.do_lots_meet.result ↔ DoLotsMeet c.as_slice.result.now others) (sym other) c.do_lots_meet.ensures)
