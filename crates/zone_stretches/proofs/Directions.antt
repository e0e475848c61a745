-- The sides of a zone, one for each direction of space, and their bounds within a piece of a motion.
use Rattle.std.proofs.Common.{◌≡◌, ◌∙◌, ℕ, ℤ, ◌==◌, ◌+ℤ◌, ◌-ℤ◌, Bool, true, false, cond, List, [], ◌∷◌, length, get_or, Some, find, refl, sym, w32, arith}
use Rattle.std.proofs.lemmas.Int.{to_z-of_z}
use mir.Val.{to_z, of_z, SFits}
use Rattle.job_types.specs.declared.job.Side.{Side}
use Rattle.swept_boxes.specs.Ranges.{RangesView}
use Rattle.zone_stretches.specs.Pieces.{by_direction, piece_high, piece_low}
use Rattle.zone_stretches.specs.ZoneBoxes.{carried_bound, carried_high, carried_low, side_high, side_low}

-- a signed number that is stored keeps its value
pub stored : (z v : ℤ) → SFits w32 z → z ≡ v → to_z w32 (of_z w32 z) ≡ v
stored z v fits e = to_z-of_z w32 z fits ∙ e

-- each of three sides with its direction, one by one
pub by_direction-three : (f : Side → ℕ → ℤ) (sides : List Side) (a b c : Side) → length sides ≡ 3
    → by_direction f 0 sides ≡ f (get_or sides 0 a) 0 ∷ f (get_or sides 1 b) 1 ∷ f (get_or sides 2 c) 2 ∷ []
by_direction-three f [] a b c n = absurd (omega arith)
by_direction-three f (x ∷ []) a b c n = absurd (omega arith)
by_direction-three f (x ∷ y ∷ []) a b c n = absurd (omega arith)
by_direction-three f (x ∷ y ∷ z ∷ []) a b c n = refl
by_direction-three f (x ∷ y ∷ z ∷ w ∷ xs) a b c n = absurd (omega arith)

-- ---- a side within a piece

carried_low_is : (bound : ℤ) (axis : ℕ) (minus : Bool) (low high : ℕ → ℤ) → carried_low (Some (axis, minus)) bound low high ≡ carried_bound bound (cond minus (high axis) (low axis)) minus
carried_low_is bound axis true low high = refl
carried_low_is bound axis false low high = refl

carried_high_is : (bound : ℤ) (axis : ℕ) (minus : Bool) (low high : ℕ → ℤ) → carried_high (Some (axis, minus)) bound low high ≡ carried_bound bound (cond minus (low axis) (high axis)) minus
carried_high_is bound axis true low high = refl
carried_high_is bound axis false low high = refl

-- the bounds of a side whose carrier is in the piece
pub low_within : (margin : ℤ) (ranges : RangesView) (side : Side) (cover : ℤ) (axis : ℕ) (minus : Bool) (name : ℕ) (least most bound : ℤ) → side.carrier ≡ Some (axis, minus)
    → Some (name, least, most) ≡ find (λ r. r.0 == axis) ranges.axes → bound ≡ carried_bound (side.lo -ℤ margin) (cond minus most least) minus → bound ≡ piece_low margin ranges side cover
unfolding piece_low side_low
low_within margin ranges side cover axis minus name least most bound carrier found is =
    rw (carrier, ← found) (is ∙ sym (carried_low_is (side.lo -ℤ margin) axis minus (λ a. least) (λ a. most)))

pub high_within : (margin : ℤ) (ranges : RangesView) (side : Side) (cover : ℤ) (axis : ℕ) (minus : Bool) (name : ℕ) (least most bound : ℤ) → side.carrier ≡ Some (axis, minus)
    → Some (name, least, most) ≡ find (λ r. r.0 == axis) ranges.axes → bound ≡ carried_bound (side.hi +ℤ margin) (cond minus least most) minus → bound ≡ piece_high margin ranges side cover
unfolding piece_high side_high
high_within margin ranges side cover axis minus name least most bound carrier found is =
    rw (carrier, ← found) (is ∙ sym (carried_high_is (side.hi +ℤ margin) axis minus (λ a. least) (λ a. most)))
