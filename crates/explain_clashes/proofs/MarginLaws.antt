-- The margin with which boxes are apart.
use Rattle.std.proofs.Common.{◌≡◌, ℕ, ℤ, ◌<◌, true, false, List, [], ◌∷◌, length, Option, None, Some, find, arith}
use Rattle.std.specs.Prelude.{pos, ◌+ℤ◌, ◌-ℤ◌, ◌*ℤ◌, ◌≤ℤ◌, ◌<ℤ◌, ◌==◌}
use Rattle.std.specs.Int.RustNames.{int_lt}
use Rattle.std.specs.Option.{option_map_or}
use Rattle.std.proofs.lemmas.Int.{ints}
use Rattle.explain_reach.proofs.LotLaws.{grown_apart, grown_meet}
use Rattle.explain_reach.proofs.SomeLaws.{some_lot}
use Rattle.explain_reach.specs.Lots.{IsGreatest, reaches}
use Rattle.job_types.specs.Job.{JobView}
use Rattle.job_types.specs.declared.job.Side.{Side}
use Rattle.job_types.specs.declared.job.ZoneLine.{ZoneLine}
use Rattle.explain_clashes.specs.Clashes.{IsPartingMargin, boxes_at}
use Rattle.path_geometry.specs.declared.motion.Motion.{Motion}
use Rattle.zone_stretches.specs.Pieces.{boxes_in_pieces, motion_at, piece_box}
use Rattle.swept_boxes.specs.declared.Box3.{Box3}
use Rattle.sync_types.specs.Views.{RunView}
use Rattle.explain_places.specs.declared.place.Place.{Place}

above : (margin left other : ℤ) → left <ℤ other → (left -ℤ margin) <ℤ (other -ℤ margin)
above margin left other h = omega (arith, ints)

before_all : (left other : ℤ) → left <ℤ pos 0 → pos 0 ≤ℤ other → left <ℤ other
before_all left other p q = omega (arith, ints)

-- below 0 there is no such margin
pub margin_none : (margin : ℤ) (lefts rights : List Box3) (n left : ℤ) → IsGreatest (Some n) (reaches lefts rights) → pos 0 ≤ℤ (n +ℤ (((left -ℤ margin) +ℤ pos 1) *ℤ pos 2)) → left <ℤ pos 0
    → IsPartingMargin margin lefts rights None
margin_none margin lefts rights n left is large less other from points =
    grown_meet lefts rights n (left -ℤ margin) (other -ℤ margin) is.0 large (above margin left other (before_all left other less from)) points.0 points.1

pub margin_some : (margin : ℤ) (lefts rights : List Box3) (n left : ℤ) → IsGreatest (Some n) (reaches lefts rights) → (n +ℤ ((left -ℤ margin) *ℤ pos 2)) <ℤ pos 0
    → pos 0 ≤ℤ (n +ℤ (((left -ℤ margin) +ℤ pos 1) *ℤ pos 2)) → pos 0 ≤ℤ left → IsPartingMargin margin lefts rights (Some left)
margin_some margin lefts rights n left is small large from = (
  from,
  λ meet. grown_apart lefts rights n (left -ℤ margin) is.1 small meet,
  λ other more points. grown_meet lefts rights n (left -ℤ margin) (other -ℤ margin) is.0 large (above margin left other more) points.0 points.1,
)

-- each place has boxes
some_boxes : (margin : ℤ) (depth : ℕ) (sides : List Side) (cover : Box3) (motion : Option Motion) → 0 < length (boxes_in_pieces margin depth sides cover motion)
some_boxes margin depth sides cover None = omega arith
some_boxes margin depth sides cover (Some motion) = some_lot (λ piece. piece_box margin sides piece cover) motion depth

pub some_place : (job : JobView) (run : RunView) (place : Place) (depth : ℕ) → 0 < length (boxes_at job run place depth)
unfolding boxes_at
some_place job run place depth = by_zone (find (λ (zone : ZoneLine). zone.zone == place.name.zone) job.zones)
  where
    by_zone : (o : Option ZoneLine) → 0 < length (option_map_or (λ (zone : ZoneLine). boxes_in_pieces job.margin depth zone.sides place.cover (motion_at run place.entry place.motion)) o (place.cover ∷ []))
    by_zone None = omega arith
    by_zone (Some zone) = some_boxes job.margin depth zone.sides place.cover (motion_at run place.entry place.motion)

-- whether a number is below 0
pub below : (a : ℤ) → int_lt a (pos 0) ≡ true → a <ℤ pos 0
below a on = grind (arith, ints)

pub not_below : (a : ℤ) → int_lt a (pos 0) ≡ false → pos 0 ≤ℤ a
not_below a off = grind (arith, ints)

-- two summands
pub apart_sum : (margin room reach : ℤ) → (reach +ℤ (room *ℤ pos 2)) <ℤ pos 0 → (reach +ℤ (((margin +ℤ room) -ℤ margin) *ℤ pos 2)) <ℤ pos 0
apart_sum margin room reach h = omega (arith, ints)

pub most_sum : (margin room reach : ℤ) → pos 0 ≤ℤ (reach +ℤ ((room +ℤ pos 1) *ℤ pos 2)) → pos 0 ≤ℤ (reach +ℤ ((((margin +ℤ room) -ℤ margin) +ℤ pos 1) *ℤ pos 2))
most_sum margin room reach h = omega (arith, ints)
