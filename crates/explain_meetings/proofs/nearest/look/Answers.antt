use Rattle.std.proofs.Common.{◌≡◌, List, subst}
use Rattle.explain_meetings.specs.KeptBoxes.{IsKeptAt}
use Rattle.swept_boxes.specs.declared.Box3.{Box3}
use Rattle.zone_stretches.specs.Cases.{place_of}
use Rattle.zone_stretches.specs.Pieces.{piece_boxes}
use Rattle.explain_meetings.proofs.nearest.look.Goals as goal

pub returns-then-are_kept-clause-near : goal.returns-then-are_kept-clause-near
returns-then-are_kept-clause-near c seen are =
    let others : c.kept_at-others.result.now ≡ piece_boxes c.args.two.now.scene.now.job.now c.args.two.now.scene.now.run.now (place_of c.args.two.now.right.now.zone.now c.args.two.now.right.now.stretch.now c.args.later.now.whole.now) =
    c.kept_at-others.ensures (piece_boxes c.args.two.now.scene.now.job.now c.args.two.now.scene.now.run.now (place_of c.args.two.now.right.now.zone.now c.args.two.now.right.now.stretch.now c.args.later.now.whole.now))
    (λ made at. c.in_ok-keep_at.ensures.made made (subst (λ (kept : List (List Box3)). IsKeptAt kept c.args.later.now.place made) c.as_slice.ensures.value at)) in
    c.in_ok-look_by_pieces.ensures c.args.two.now.scene.now.job.now c.args.two.now.scene.now.run.now seen c.requires.pieces others are

pub returns-clause-near : goal.returns-clause-near
returns-clause-near c seen are = c.in_ok-look_by_pieces-2.ensures c.args.two.now.scene.now.job.now c.args.two.now.scene.now.run.now seen c.requires.pieces c.in_ok-made.ensures are
