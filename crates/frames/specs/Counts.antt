-- Steps. The whole counts of an axis: what a map at the end of the chain makes of them, and where a value goes.
use Rattle.std.specs.Prelude.{◌≡◌, ℕ, ◌*◌, ◌%◌, ◌<◌, ◌^◌, ◌==◌, nat_le, ℤ, pos, ◌+ℤ◌, ◌*ℤ◌, Bool, true, false, ◌&&◌, Result, MatchResult}
use Rattle.std.specs.Int.RustNames.{unsigned_abs}
use Rattle.frames.specs.declared.axis_map.AxisMap.{AxisMap}
use Rattle.frames.specs.Faults.{is_scale}
use Rattle.frames.specs.Images.{sign, other_sign}
use Rattle.fault_codes.specs.declared.alarms.TheConstants.{OUT_OF_RANGE, SCALE_NOT_ALLOWED}

-- the shift of an axis that is moved by so many millionths before it goes
abbrev pub shift_when_moved : AxisMap → ℤ → ℤ
shift_when_moved axis by = axis.shift +ℤ (sign axis.minus *ℤ (pos axis.factor *ℤ by))

-- all but the shift, the factor or the sign is as it was
pub record IsMoved (old : AxisMap) (by : ℤ) (new : AxisMap) : Type 0 where
  pub slot : new.slot ≡ old.slot
  pub minus : new.minus ≡ old.minus
  pub factor : new.factor ≡ old.factor
  pub shift : new.shift ≡ shift_when_moved old by

pub record IsScaled (old : AxisMap) (by : ℤ) (new : AxisMap) : Type 0 where
  pub slot : new.slot ≡ old.slot
  pub minus : new.minus ≡ old.minus
  pub factor : new.factor * 1000000 ≡ old.factor * unsigned_abs by
  pub shift : new.shift ≡ old.shift

pub record IsMirrored (old : AxisMap) (changed : Bool) (new : AxisMap) : Type 0 where
  pub slot : new.slot ≡ old.slot
  pub minus : new.minus ≡ other_sign changed old.minus
  pub factor : new.factor ≡ old.factor
  pub shift : new.shift ≡ old.shift

-- the product of two factors in millionths is a whole count of millionths, and at most 1000
abbrev pub is_product_allowed : ℕ → ℕ → Bool
is_product_allowed factor by = ((factor * by) % 1000000 == 0) && nat_le (factor * by) 1000000000000000

abbrev pub GivesMoved : AxisMap → ℤ → Result AxisMap ℕ → Type 0
GivesMoved old by answer =
    MatchResult answer (λ new. IsMoved old by new) (λ alarm. (alarm ≡ OUT_OF_RANGE) × (10 ^ 16 < unsigned_abs (shift_when_moved old by)))

abbrev pub GivesScaled : AxisMap → ℤ → Result AxisMap ℕ → Type 0
GivesScaled old by answer =
    MatchResult answer
    (λ new. (is_scale by ≡ true) × IsScaled old by new)
    (λ alarm. (alarm ≡ SCALE_NOT_ALLOWED) × ((is_scale by && is_product_allowed old.factor (unsigned_abs by)) ≡ false))

-- a place in 2,000,000,000ths of a micrometre, for twice a value in millionths of a millimetre
abbrev pub place_sum : AxisMap → ℤ → ℤ → ℤ
place_sum axis twice offset =
    (pos 2 *ℤ axis.shift) +ℤ (sign axis.minus *ℤ (pos axis.factor *ℤ twice)) +ℤ (offset *ℤ pos 2000000000)

abbrev pub change_sum : AxisMap → ℤ → ℤ
change_sum axis twice = sign axis.minus *ℤ (pos axis.factor *ℤ twice)
