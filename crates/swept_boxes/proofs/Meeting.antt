-- Two boxes share a point exactly where their bounds touch in all three directions.
use Rattle.std.proofs.Common.{◌≡◌, ◌<◌, ◌↔◌, ℕ, IsTrue, arith, w32}
use Rattle.std.specs.Prelude.{ℤ, pos, ◌*ℤ◌, ◌≤ℤ◌}
use Rattle.std.specs.Int.{int_max, int_min}
use Rattle.std.proofs.lemmas.Int.{ints, clamps, to_z-of_z}
use Rattle.number_laws.proofs.Integers.{≤ℤ_trans, times_cancel}
use Rattle.swept_boxes.specs.declared.Box3.{Box3}
use Rattle.swept_boxes.specs.Boxes.{low_of, high_of, DoMeet, TouchInAll}
use mir.Val.{SFits, of_z, to_z}
use lib.Signed.{le_z}

-- the code's test of two numbers
pub test_is : (l h low high : ℤ) → l ≡ low → h ≡ high → SFits w32 l → SFits w32 h
    → IsTrue (le_z (to_z w32 (of_z w32 l)) (to_z w32 (of_z w32 h))) ↔ (low ≤ℤ high)
test_is l h low high e f p q = grind (arith, ints, to_z-of_z)

between : (a b t : ℤ) (n : ℕ) → 0 < n → (a *ℤ pos n) ≤ℤ t → t ≤ℤ (b *ℤ pos n) → a ≤ℤ b
between a b t n some low high = times_cancel n a b some (≤ℤ_trans low high)

touch_from : (a b c d : ℤ) → a ≤ℤ c → a ≤ℤ d → b ≤ℤ c → b ≤ℤ d → int_max a b ≤ℤ int_min c d
touch_from a b c d p q r s = omega (arith, ints, clamps)

pub touch-from_meet : (left right : Box3) → DoMeet left right → TouchInAll left right
touch-from_meet left right (p, l, r) direction in_space =
    let a = low_of left direction in
    let b = low_of right direction in
    let c = high_of left direction in
    let d = high_of right direction in
    let t = p.top direction in
    touch_from a b c d
    (between a c t p.under l.fraction (l.above direction in_space) (l.below direction in_space))
    (between a d t p.under l.fraction (l.above direction in_space) (r.below direction in_space))
    (between b c t p.under l.fraction (r.above direction in_space) (l.below direction in_space))
    (between b d t p.under l.fraction (r.above direction in_space) (r.below direction in_space))

above_left : (a b : ℤ) → (a *ℤ pos 1) ≤ℤ int_max a b
above_left a b = omega (arith, ints, clamps)

above_right : (a b : ℤ) → (b *ℤ pos 1) ≤ℤ int_max a b
above_right a b = omega (arith, ints, clamps)

below_left : (a c d : ℤ) → a ≤ℤ int_min c d → a ≤ℤ (c *ℤ pos 1)
below_left a c d h = omega (arith, ints, clamps)

below_right : (a c d : ℤ) → a ≤ℤ int_min c d → a ≤ℤ (d *ℤ pos 1)
below_right a c d h = omega (arith, ints, clamps)

-- in each direction the greater of the low bounds
greater_low : Box3 → Box3 → ℕ → ℤ
greater_low left right direction = int_max (low_of left direction) (low_of right direction)

pub meet-from_touch : (left right : Box3) → TouchInAll left right → DoMeet left right
unfolding greater_low
meet-from_touch left right touch = (
  record { top = greater_low left right; under = 1 },
  record {
    fraction = omega arith;
    above = λ d h. above_left (low_of left d) (low_of right d);
    below = λ d h. below_left (greater_low left right d) (high_of left d) (high_of right d) (touch d h);
  },
  record {
    fraction = omega arith;
    above = λ d h. above_right (low_of left d) (low_of right d);
    below = λ d h. below_right (greater_low left right d) (high_of left d) (high_of right d) (touch d h);
  },
)
