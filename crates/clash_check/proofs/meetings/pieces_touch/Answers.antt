use Rattle.std.proofs.Common.{◌≡◌, ◌∙◌, ◌&&◌, Bool, true, List, get_or, ap, refl, sym}
use Rattle.std.proofs.lemmas.List.{get_or_default}
use Rattle.std.specs.List.{list_any}
use Rattle.swept_boxes.specs.Boxes.{boxes_meet}
use Rattle.swept_boxes.specs.declared.Box3.{Box3}
use Rattle.zone_stretches.specs.Cases.{place_of}
use Rattle.zone_stretches.specs.Pieces.{piece_boxes}
use Rattle.zone_stretches.specs.declared.stretches.ZoneBox.{ZoneBox}
use Rattle.clash_check.proofs.meetings.pieces_touch.Goals as goal

passed : (m a x : Bool) → m ≡ a → m ≡ true → x ≡ (a && x)
passed m a x p on = rw (sym p ∙ on) refl

pub returns-in-Some-clause-met : goal.returns-in-Some-clause-met
returns-in-Some-clause-met c d =
    let others : List Box3 = piece_boxes c.args.two.now.scene.now.job.now c.args.two.now.scene.now.run.now (place_of c.args.two.now.right.now.zone.now c.args.two.now.right.now.stretch.now (get_or c.args.boxes.now c.args.place d)) in
    c.in-Some.ensures.met others (c.requires.kept.pieces c.args.place d c.requires.place)
    ∙ passed c.meets_box.result (list_any (λ piece. boxes_meet piece (get_or c.args.boxes.now c.args.place d).cover) c.args.pieces.now) _
    (c.meets_box.ensures ∙ ap (λ (b : ZoneBox). list_any (λ piece. boxes_meet piece b.cover) c.args.pieces.now) (get_or_default c.args.boxes.now c.args.place _ d c.requires.place)) c.if-not-meets_box.false

pub returns-clause-met : goal.returns-clause-met
returns-clause-met c d =
    c.meets_made.ensures.met d
    ∙ passed c.meets_box.result (list_any (λ piece. boxes_meet piece (get_or c.args.boxes.now c.args.place d).cover) c.args.pieces.now) _
    (c.meets_box.ensures ∙ ap (λ (b : ZoneBox). list_any (λ piece. boxes_meet piece b.cover) c.args.pieces.now) (get_or_default c.args.boxes.now c.args.place _ d c.requires.place)) c.if-not-meets_box.false
