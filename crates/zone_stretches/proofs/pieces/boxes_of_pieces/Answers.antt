use Rattle.swept_boxes.specs.declared.limits.TheConstants.{PIECE_LIMIT}
use Rattle.std.proofs.Common.{◌≡◌, ◌∙◌, ◌<◌, List, length, ap, arith}
use Rattle.std.proofs.lemmas.Iterator.Consumers.{YieldsList-from_first, YieldsList-turn}
use Rattle.std.proofs.lemmas.List.{length-map}
use Rattle.swept_boxes.specs.Ranges.{RangesView}
use Rattle.swept_boxes.specs.declared.Box3.{Box3}
use Rattle.zone_stretches.specs.Pieces.{piece_box}
use Rattle.zone_stretches.proofs.pieces.boxes_of_pieces.Goals as goal

pub push-requires : goal.push-requires
push-requires c =
    let turn = YieldsList-turn
    (YieldsList-from_first (λ x. x) (λ left. left) c.pieces_of-piece-items.result c.into_iter-piece-iterator.ensures.into_iter_gives)
    c.loop-piece.yielded _ c.loop-piece.yielded_by _ _ _ c.in-Some.is c.next.ensures.steps in
    let long : length c.loop-piece.boxes.items ≡ length c.loop-piece.yielded =
    ap (λ (boxes : List Box3). length boxes) c.loop-piece.invariant ∙ length-map c.loop-piece.yielded (λ (piece : RangesView). piece_box c.args.margin c.args.zone.now.sides piece c.args.cover.now) in
    let room : length c.loop-piece.boxes.items < PIECE_LIMIT = omega (arith, long, turn.0, c.pieces_of-piece-items.ensures.few) in
    (omega arith, room)
