-- The box of a zone in a piece of a motion, as it is compared, is the zone box of the piece; and a point that a box covers is in one of them.
use Rattle.std.proofs.Common.{◌≡◌, ℕ, zero, suc, ℤ, pos, ◌+◌, ◌+ℤ◌, ◌*ℤ◌, ◌-◌, ◌<◌, ◌==◌, Bool, true, false, cond, List, [], ◌∷◌, map, length, get_or, find, slice_get, Option, None, Some, option_and_then, IsNone, All, Any, inl, inr, refl, sym, subst, arith}
use Rattle.std.proofs.lemmas.Bool.{eqb-true}
use Rattle.std.proofs.lemmas.Int.{ints}
use Rattle.std.proofs.lemmas.List.Elements.{All-head, All-tail, All-weaker}
use Rattle.std.specs.Option.{option_map, option_map_or}
use Rattle.job_types.specs.Zones.{has_axis}
use Rattle.job_types.specs.declared.job.ZoneLine.{ZoneLine}
use Rattle.number_laws.proofs.Lists.{SomeOf, SomeOf-weaker, SomeOf-map, found_passes, All-found}
use Rattle.number_laws.specs.Fractions.{IsIn}
use Rattle.path_geometry.specs.Motions.{axes_of, IsSound, axis_end}
use Rattle.path_geometry.specs.Path.{Point}
use Rattle.path_geometry.specs.declared.motion.Arc.{Arc}
use Rattle.path_geometry.specs.declared.motion.Motion.{Motion}
use Rattle.path_geometry.specs.declared.motion.Motion.TheVariants.{Line, Rapid}
use Rattle.path_geometry.specs.declared.motion.Motion.TheVariants as Kind
use Rattle.speed_laws.proofs.Covers.{Covers, IsCovered, IsNamed}
use Rattle.speed_laws.specs.Places.{StandsAt, IsAlong}
use Rattle.swept_boxes.proofs.PieceLaws.{covered, in_cover}
use Rattle.swept_boxes.specs.Cover.{cover_of}
use Rattle.swept_boxes.specs.Pieces.{range_between, range_over, pieces_at}
use Rattle.swept_boxes.specs.PlaneBoxes.{BoxInPlane}
use Rattle.swept_boxes.specs.Ranges.{RangesView, Hold, LieIn}
use Rattle.swept_boxes.specs.declared.Box3.{Box3}
use Rattle.sync_types.proofs.Positions.{end_moved}
use Rattle.sync_types.specs.Items.{motion_of, movement_of}
use Rattle.sync_types.specs.declared.Item.{Item}
use Rattle.zone_stretches.proofs.PieceLaws.{absent, piece_box_is}
use Rattle.zone_stretches.specs.Pieces.{piece_box, boxes_in_pieces}
use Rattle.zone_stretches.specs.ZoneBoxes.{zone_box, low_in, high_in, PlaceBox, cover_during}

-- ---- the pieces of a motion

-- an axis that the ranges have not, the motion has not
abbrev HasAxesOf : Motion → RangesView → Type 0
HasAxesOf motion ranges = (axis : ℕ) → find (λ r. r.0 == axis) ranges.axes ≡ None → find (λ e. e.0 == axis) (axes_of motion) ≡ None

-- ranges made of the axes one by one have each of them
made_has_axes : (f : ℕ × ℤ × ℤ → ℕ × ℤ × ℤ) → ((e : ℕ × ℤ × ℤ) → (f e).0 ≡ e.0) → (axis : ℕ) (ends : List (ℕ × ℤ × ℤ)) → find (λ r. r.0 == axis) (map f ends) ≡ None
    → find (λ e. e.0 == axis) ends ≡ None
made_has_axes f same axis [] none = refl
made_has_axes f same axis (e ∷ ends) none = by_test (e.0 == axis) (subst (λ (n : ℕ). cond (n == axis) (Some (f e)) (find (λ r. r.0 == axis) (map f ends)) ≡ None) (same e) none) (made_has_axes f same axis ends)
  where
    by_test : (b : Bool) → cond b (Some (f e)) (find (λ r. r.0 == axis) (map f ends)) ≡ None
        → (find (λ r. r.0 == axis) (map f ends) ≡ None → find (λ r. r.0 == axis) ends ≡ None) → cond b (Some e) (find (λ r. r.0 == axis) ends) ≡ None
    by_test true none rest = absurd cc
    by_test false none rest = rest none

same_axis : (arc : Arc) (box : BoxInPlane) (e : ℕ × ℤ × ℤ) → (range_over arc box e).0 ≡ e.0
same_axis arc box e = by_tests (e.0 == arc.first) (e.0 == arc.second)
  where
    by_tests : (first second : Bool)
        → (cond first (e.0, arc.centre.0 +ℤ box.u_low, arc.centre.0 +ℤ box.u_high) (cond second (e.0, arc.centre.1 +ℤ box.v_low, arc.centre.1 +ℤ box.v_high) (range_between e))).0 ≡ e.0
    by_tests true second = refl
    by_tests false true = refl
    by_tests false false = refl

-- the cover has all axes of the motion, and each piece has those of the cover
cover_has_axes : (motion : Motion) → HasAxesOf motion (cover_of motion)
cover_has_axes (Line ends) axis none = made_has_axes range_between (λ e. refl) axis ends.axes none
cover_has_axes (Rapid ends) axis none = made_has_axes range_between (λ e. refl) axis ends.axes none
cover_has_axes (Kind.Arc arc) axis none = made_has_axes (range_over arc _) (same_axis arc _) axis arc.ends.axes none

pieces_have_axes : (motion : Motion) (depth : ℕ) → IsSound motion → All (HasAxesOf motion) (pieces_at motion depth)
pieces_have_axes motion depth sound =
    All-weaker (λ piece. LieIn piece (cover_of motion)) (HasAxesOf motion) (λ piece lies axis none. cover_has_axes motion axis (absent piece.axes (cover_of motion).axes axis lies none))
    (pieces_at motion depth) (in_cover motion depth sound)

some_with_all : {X : Type 0} (P Q : X → Type 0) (xs : List X) → Any P xs → All Q xs → SomeOf (λ x. P x × Q x) xs
some_with_all {X = X} P Q xs (k, x, within, is, holds) all = go xs k within is all
  where
    go : (ys : List X) (k : ℕ) → k < length ys → get_or ys k x ≡ x → All Q ys → SomeOf (λ y. P y × Q y) ys
    go [] k within is all = absurd (omega arith)
    go (y ∷ ys) zero within is all = inl (subst (λ z. P z × Q z) (sym is) (holds, subst Q is (All-head Q y ys all)))
    go (y ∷ ys) (suc k) within is all = inr (go ys k (omega arith) is (All-tail Q y ys all))

some_of_all : {X : Type 0} (P Q : X → Type 0) (xs : List X) → SomeOf P xs → All Q xs → SomeOf (λ x. P x × Q x) xs
some_of_all P Q [] some all = absurd some
some_of_all P Q (x ∷ xs) (inl here) all = inl (here, All-head Q x xs all)
some_of_all P Q (x ∷ xs) (inr there) all = inr (some_of_all P Q xs there (All-tail Q x xs all))

in_itself : (z t : ℤ) (n : ℕ) → t ≡ z *ℤ pos n → IsIn z z t n
in_itself z t n is = record { above = omega (arith, ints); below = omega (arith, ints) }

-- at a point of a motion that a piece holds, each axis is within the piece's bounds, or stands
within_piece : (at : ℕ → ℤ) (item : Item) (point : Point) (ranges : RangesView) → IsAlong at item point → Hold ranges point → HasAxesOf (movement_of item) ranges
    → (axis : ℕ) → IsIn (low_in ranges at axis) (high_in ranges at axis) (point.top axis) point.under
unfolding low_in high_in axis_end
within_piece at item point ranges along hold has axis = by_range (find (λ r. r.0 == axis) ranges.axes) refl
  where
    by_range : (o : Option (ℕ × ℤ × ℤ)) → find (λ r. r.0 == axis) ranges.axes ≡ o
        → IsIn (option_map_or (λ r. r.1) o (at axis)) (option_map_or (λ r. r.2) o (at axis)) (point.top axis) point.under
    by_range None is =
        let stands : StandsAt point axis (at axis) = along.others axis (let nothing : find (λ (e : ℕ × ℤ × ℤ). e.0 == axis) (axes_of (movement_of item)) ≡ None = has axis is in subst (λ (o : Option ℤ). IsNone o) (sym (end_moved axis item)) (rw nothing refl)) in
        in_itself (at axis) (point.top axis) point.under stands
    by_range (Some r) is =
        let same : r.0 ≡ axis = eqb-true r.0 axis (found_passes (λ (e : ℕ × ℤ × ℤ). e.0 == axis) ranges.axes r is) in
        subst (λ a. IsIn r.1 r.2 (point.top a) point.under) same (All-found (λ r. IsIn r.1 r.2 (point.top r.0) point.under) (λ e. e.0 == axis) ranges.axes r hold is)

-- ---- the pieces of a box

-- the zone's axes are within these bounds at the point
abbrev pub AxesWithin : ZoneLine → (ℕ → ℤ) → (ℕ → ℤ) → Point → Type 0
AxesWithin zone low high point = (axis : ℕ) → has_axis zone axis ≡ true → IsIn (low axis) (high axis) (point.top axis) point.under

-- the motion of a box, as its place names it among these items
abbrev pub motion_named : List Item → Option ℕ → Option Motion
motion_named items place = option_and_then (λ k. option_and_then motion_of (slice_get items (k - 1))) place

-- What holds of the zone box of all bounds that hold the zone's axes, holds of one of the boxes by which a box is compared that covers the point.
pub some_piece : (P : Box3 → Type 0) (margin : ℤ) (zone : ZoneLine) (depth : ℕ) (items : List Item) (place : ℕ) (point : Point) (box : PlaceBox)
    → ((low high : ℕ → ℤ) → AxesWithin zone low high point → P (zone_box margin zone low high)) → Covers zone items place point box
    → SomeOf P (boxes_in_pieces margin depth zone.sides (cover_during margin zone box.at box.motion) (motion_named items (option_map (λ moved. moved.0) box.motion)))
some_piece P margin zone depth items place point box holds covers = by_motion box.motion covers.named covers.covered
  where
    whole : Item → Box3
    whole item = zone_box margin zone (low_in (cover_of (movement_of item)) box.at) (high_in (cover_of (movement_of item)) box.at)

    of_other : (item : Item) (other : Point) (ranges : RangesView) → IsAlong box.at item other → other.under ≡ point.under
        → ((axis : ℕ) → has_axis zone axis ≡ true → other.top axis ≡ point.top axis)
        → (Hold ranges other × HasAxesOf (movement_of item) ranges) × LieIn ranges (cover_of (movement_of item))
        → P (piece_box margin zone.sides ranges (whole item))
    of_other item other ranges along under tops piece =
        subst P (sym (piece_box_is margin zone ranges (cover_of (movement_of item)) box.at piece.1))
        (holds (low_in ranges box.at) (high_in ranges box.at)
        (λ axis has. subst (λ n. IsIn (low_in ranges box.at axis) (high_in ranges box.at axis) (point.top axis) n) under
        (subst (λ t. IsIn (low_in ranges box.at axis) (high_in ranges box.at axis) t other.under) (tops axis has)
        (within_piece box.at item other ranges along piece.0.0 piece.0.1 axis))))

    by_motion : (o : Option (ℕ × Item)) → IsNamed items o → IsCovered zone box.at o point
        → SomeOf P (boxes_in_pieces margin depth zone.sides (cover_during margin zone box.at o) (motion_named items (option_map (λ moved. moved.0) o)))
    by_motion None named stands = inl (holds box.at box.at (λ axis has. in_itself (box.at axis) (point.top axis) point.under (stands axis has)))
    by_motion (Some (k, item)) named (sound, other, along, under, tops) =
        let motion : Motion = movement_of item in
        subst (λ (o : Option Motion). SomeOf P (boxes_in_pieces margin depth zone.sides (whole item) o)) (sym named)
        (SomeOf-map P (λ ranges. piece_box margin zone.sides ranges (whole item)) (pieces_at motion depth)
        (SomeOf-weaker (λ ranges. (Hold ranges other × HasAxesOf motion ranges) × LieIn ranges (cover_of motion)) (λ ranges. P (piece_box margin zone.sides ranges (whole item)))
        (λ ranges piece. of_other item other ranges along under tops piece) (pieces_at motion depth)
        (some_of_all (λ ranges. Hold ranges other × HasAxesOf motion ranges) (λ ranges. LieIn ranges (cover_of motion)) (pieces_at motion depth)
        (some_with_all (λ ranges. Hold ranges other) (HasAxesOf motion) (pieces_at motion depth)
        (covered motion depth other sound along.path) (pieces_have_axes motion depth sound))
        (in_cover motion depth sound))))
