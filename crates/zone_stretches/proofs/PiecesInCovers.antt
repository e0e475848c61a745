-- The boxes by which a box of a stretch is compared lie in its cover.
use Rattle.std.proofs.Common.{◌≡◌, ◌∙◌, ◌-◌, ◌==◌, ℕ, ℤ, not, Bool, true, false, cond, List, [], ◌∷◌, map, filter, slice_get, slice_index_or, Option, None, Some, option_and_then, All, sym, ap, subst, arith}
use Rattle.std.specs.Prelude.{◌≤ℤ◌}
use Rattle.std.specs.List.{flat_map}
use Rattle.std.proofs.lemmas.Int.{ints}
use Rattle.std.proofs.lemmas.List.Elements.{All-nil, All-cons, All-head, All-tail, All-append, All-map, All-filter, All-weaker}
use Rattle.job_types.specs.Job.{JobView}
use Rattle.job_types.specs.declared.job.ZoneLine.{ZoneLine}
use Rattle.path_geometry.specs.Motions.{IsSound}
use Rattle.path_geometry.specs.declared.motion.Motion.{Motion}
use Rattle.swept_boxes.proofs.PieceLaws.{in_cover}
use Rattle.swept_boxes.specs.Boxes.{low_of, high_of}
use Rattle.swept_boxes.specs.Cover.{cover_of}
use Rattle.swept_boxes.specs.Pieces.{pieces_at}
use Rattle.swept_boxes.specs.Ranges.{LieIn}
use Rattle.swept_boxes.specs.declared.Box3.{Box3}
use Rattle.sync_types.specs.Boards.{Board}
use Rattle.sync_types.specs.Items.{motion_of, movement_of}
use Rattle.sync_types.specs.Views.{RunView}
use Rattle.zone_stretches.proofs.CoverLaws.{boxes_have_covers, item_is_fit}
use Rattle.zone_stretches.proofs.PieceLaws.{piece_box_is, piece_lies}
use Rattle.zone_stretches.specs.InCovers.{IsWithin, IsInCover, AreInCover, IsTimeInCover, ArePairsInCover}
use Rattle.zone_stretches.specs.Overlaps.{Order, Pair, ZoneTime, are_compared, may_overlap, box_pairs, stretch_pairs, pairs_of_zones, pairs_by_group, zone_times, compared_pairs}
use Rattle.zone_stretches.specs.Pieces.{motion_at, piece_box, piece_boxes, boxes_in_pieces}
use Rattle.zone_stretches.specs.SoundStretches.{IsCoverBy, HasCover}
use Rattle.zone_stretches.specs.Stretches.{StretchView, StretchesView, all_stretches}
use Rattle.zone_stretches.specs.ZoneBoxes.{IsFit, low_in, high_in, zone_box}
use Rattle.zone_stretches.specs.declared.stretches.ZoneBox.{ZoneBox}

-- ---- a box of a stretch

at_most_itself : (a : ℤ) → a ≤ℤ a
at_most_itself a = omega (arith, ints)

only_itself : (box : Box3) → All (IsWithin box) (box ∷ [])
only_itself box =
    All-cons (IsWithin box) box [] (record { low = λ direction. at_most_itself (low_of box direction); high = λ direction. at_most_itself (high_of box direction) }) (All-nil (IsWithin box))

-- the boxes of the pieces of a sound motion lie in the zone box of its cover
pieces_lie : (margin : ℤ) (depth : ℕ) (zone : ZoneLine) (at : ℕ → ℤ) (motion : Motion) → IsSound motion
    → All (IsWithin (zone_box margin zone (low_in (cover_of motion) at) (high_in (cover_of motion) at)))
    (map (λ piece. piece_box margin zone.sides piece (zone_box margin zone (low_in (cover_of motion) at) (high_in (cover_of motion) at))) (pieces_at motion depth))
pieces_lie margin depth zone at motion sound =
    let whole : Box3 = zone_box margin zone (low_in (cover_of motion) at) (high_in (cover_of motion) at) in
    All-map (IsWithin whole) (λ piece. piece_box margin zone.sides piece whole) (pieces_at motion depth)
    (All-weaker (λ piece. LieIn piece (cover_of motion)) (λ piece. IsWithin whole (piece_box margin zone.sides piece whole))
    (λ piece lies. subst (λ (box : Box3). IsWithin whole box) (sym (piece_box_is margin zone piece (cover_of motion) at lies)) (piece_lies margin zone piece (cover_of motion) at lies))
    (pieces_at motion depth) (in_cover motion depth sound))

-- a box has the cover of its motion, or stands
box_in_cover : (job : JobView) (run : RunView) (zone : ZoneLine) (stretch : StretchView) → All (All IsFit) run.items → (box : ZoneBox) → HasCover job run zone stretch box
    → IsInCover job run (record { zone = zone; stretch = stretch; box = box })
unfolding piece_boxes
box_in_cover job run zone stretch fit box has = by_motion box.motion has
  where
    by_motion : (o : Option ℕ) → IsCoverBy job.margin zone (slice_index_or run.items stretch.entry []) box.cover o
        → All (IsWithin box.cover) (boxes_in_pieces job.margin job.depth zone.sides box.cover (motion_at run stretch.entry o))
    by_motion None has = only_itself box.cover
    by_motion (Some place) has =
        let is : option_and_then motion_of (slice_get (slice_index_or run.items stretch.entry []) (place - 1)) ≡ Some (movement_of has.item) = ap (option_and_then motion_of) has.there ∙ has.moves in
        let sound : IsFit has.item = item_is_fit run.items stretch.entry (place - 1) has.item fit has.there in
        subst (λ (o : Option Motion). All (IsWithin box.cover) (boxes_in_pieces job.margin job.depth zone.sides box.cover o)) (sym is)
        (subst (λ (cover : Box3). All (IsWithin cover) (map (λ piece. piece_box job.margin zone.sides piece cover) (pieces_at (movement_of has.item) job.depth))) (sym has.covers)
        (pieces_lie job.margin job.depth zone has.at (movement_of has.item) sound.sound))

-- ---- the zones of a job

pub times_in_cover : (job : JobView) (b : Board) (run : RunView) → All (All IsFit) run.items → All (IsTimeInCover job run) (zone_times job (all_stretches job b run))
times_in_cover job b run fit =
    All-weaker (λ (time : ZoneTime). All (λ stretch. All (HasCover job run time.zone stretch) stretch.boxes) time.stretches) (IsTimeInCover job run)
    (λ (time : ZoneTime) all. All-weaker (λ (stretch : StretchView). All (HasCover job run time.zone stretch) stretch.boxes) (AreInCover job run time.zone)
    (λ (stretch : StretchView) each. All-weaker (HasCover job run time.zone stretch) (λ box. IsInCover job run (record { zone = time.zone; stretch = stretch; box = box }))
    (box_in_cover job run time.zone stretch fit) stretch.boxes each) time.stretches all)
    (zone_times job (all_stretches job b run)) (boxes_have_covers job b run)

-- ---- compared pairs

all_flat : {X Y : Type 0} (Q : X → Type 0) (P : Y → Type 0) (f : X → List Y) → ((x : X) → Q x → All P (f x)) → (xs : List X) → All Q xs → All P (flat_map f xs)
all_flat Q P f each [] all = All-nil P
all_flat Q P f each (x ∷ xs) all = All-append P (f x) (flat_map f xs) (each x (All-head Q x xs all)) (all_flat Q P f each xs (All-tail Q x xs all))

module _ (job : JobView) (run : RunView) where
  abbrev IsPairInCover : Pair → Type 0
  IsPairInCover pair = IsInCover job run pair.0 × IsInCover job run pair.1

  in_boxes : (zone : ZoneLine) (left : StretchView) (other : ZoneLine) (right : StretchView) → AreInCover job run zone left → AreInCover job run other right
      → ArePairsInCover job run (box_pairs zone left other right)
  in_boxes zone left other right own later =
      all_flat (λ (box : ZoneBox). IsInCover job run (record { zone = zone; stretch = left; box = box })) IsPairInCover
      (λ (box : ZoneBox). map (λ after. (record { zone = zone; stretch = left; box = box }, record { zone = other; stretch = right; box = after })) (filter (are_compared left right box) right.boxes))
      (λ box is. All-map IsPairInCover (λ after. (record { zone = zone; stretch = left; box = box }, record { zone = other; stretch = right; box = after })) (filter (are_compared left right box) right.boxes)
      (All-weaker (λ after. IsInCover job run (record { zone = other; stretch = right; box = after }))
      (λ after. IsPairInCover (record { zone = zone; stretch = left; box = box }, record { zone = other; stretch = right; box = after })) (λ after there. (is, there)) (filter (are_compared left right box) right.boxes)
      (All-filter (are_compared left right box) (λ after. IsInCover job run (record { zone = other; stretch = right; box = after })) right.boxes later))) left.boxes own

  in_stretches : (before : Order) (zone : ZoneLine) (left : StretchView) (other : ZoneLine) (right : StretchView) → AreInCover job run zone left → AreInCover job run other right
      → ArePairsInCover job run (stretch_pairs before zone left other right)
  in_stretches before zone left other right own later = by_overlap (may_overlap before left right)
    where
      by_overlap : (b : Bool) → ArePairsInCover job run (cond b (box_pairs zone left other right) [])
      by_overlap true = in_boxes zone left other right own later
      by_overlap false = All-nil IsPairInCover

  in_zones : (before : Order) (one two : ZoneTime) → IsTimeInCover job run one → IsTimeInCover job run two → ArePairsInCover job run (pairs_of_zones before one two)
  unfolding pairs_of_zones
  in_zones before one two own later =
      all_flat (AreInCover job run one.zone) IsPairInCover (λ (left : StretchView). flat_map (λ right. stretch_pairs before one.zone left two.zone right) two.stretches)
      (λ left is. all_flat (AreInCover job run two.zone) IsPairInCover (λ (right : StretchView). stretch_pairs before one.zone left two.zone right)
      (λ right there. in_stretches before one.zone left two.zone right is there) two.stretches later) one.stretches own

  in_groups : (times : List ZoneTime) → All (IsTimeInCover job run) times → All (λ two. IsTimeInCover job run two.0 × IsTimeInCover job run two.1) (pairs_by_group times)
  in_groups [] all = All-nil (λ two. IsTimeInCover job run two.0 × IsTimeInCover job run two.1)
  in_groups (one ∷ others) all =
      let Both : ZoneTime × ZoneTime → Type 0 = λ two. IsTimeInCover job run two.0 × IsTimeInCover job run two.1 in
      let own : IsTimeInCover job run one = All-head (IsTimeInCover job run) one others all in
      let rest : All (IsTimeInCover job run) others = All-tail (IsTimeInCover job run) one others all in
      All-append Both (map (λ (two : ZoneTime). (one, two)) (filter (λ two. not (one.zone.group == two.zone.group)) others)) (pairs_by_group others)
      (All-map Both (λ (two : ZoneTime). (one, two)) (filter (λ two. not (one.zone.group == two.zone.group)) others)
      (All-weaker (IsTimeInCover job run) (λ (two : ZoneTime). Both (one, two)) (λ two there. (own, there)) (filter (λ two. not (one.zone.group == two.zone.group)) others)
      (All-filter (λ (two : ZoneTime). not (one.zone.group == two.zone.group)) (IsTimeInCover job run) others rest)))
      (in_groups others rest)

  pub pairs_in_cover : (before : Order) (stretches : StretchesView) → All (IsTimeInCover job run) (zone_times job stretches) → ArePairsInCover job run (compared_pairs before job stretches)
  unfolding compared_pairs
  pairs_in_cover before stretches all =
      all_flat (λ (two : ZoneTime × ZoneTime). IsTimeInCover job run two.0 × IsTimeInCover job run two.1) IsPairInCover (λ two. pairs_of_zones before two.0 two.1)
      (λ two both. in_zones before two.0 two.1 both.0 both.1) (pairs_by_group (zone_times job stretches)) (in_groups (zone_times job stretches) all)
