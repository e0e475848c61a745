-- Meaning. What a chain of maps makes of one axis: a slot, a sign, a factor and a shift.
use Rattle.std.specs.Prelude.{◌≡◌, ℕ, zero, suc, ◌*◌, ◌==◌, if◌then◌else◌, ℤ, pos, negsuc, ◌+ℤ◌, ◌*ℤ◌, Bool, true, false, not, List, [], ◌∷◌}
use Rattle.frames.specs.declared.Plane.{Plane}
use Rattle.frames.specs.Maps.{Map, Point, shifting, scaling, mirroring, turning, first_axis, second_axis, quarters_in}

-- the axis goes to the slot, as shift + sign · factor · value; factor and shift (in millimetres) are
-- numbers over one common number under both
pub record Image : Type 0 where
  pub slot : ℕ
  pub minus : Bool
  pub factor : ℤ
  pub shift : ℤ
  pub under : ℕ

-- the sign, which is a minus or not
abbrev pub sign : Bool → ℤ
sign true = negsuc 0
sign false = pos 1

-- where no map is, an axis goes to its own slot unchanged
abbrev pub own_image : ℕ → Image
own_image axis = record { slot = axis; minus = false; factor = pos 1; shift = pos 0; under = 1 }

-- the image where a map sends it on; maps of other axes leave it as it is
abbrev pub shifted_image : ℕ → ℤ → Image → Image
shifted_image axis value i = record {
  slot = i.slot;
  minus = i.minus;
  factor = i.factor *ℤ pos 1000000;
  shift = (i.shift *ℤ pos 1000000) +ℤ (if i.slot == axis then value *ℤ pos i.under else pos 0);
  under = i.under * 1000000;
}

abbrev pub scaled_image : ℕ → ℤ → Image → Image
scaled_image axis value i = record {
  slot = i.slot;
  minus = i.minus;
  factor = i.factor *ℤ (if i.slot == axis then value else pos 1000000);
  shift = i.shift *ℤ (if i.slot == axis then value else pos 1000000);
  under = i.under * 1000000;
}

-- the sign, changed where that is asked for
abbrev pub other_sign : Bool → Bool → Bool
other_sign true minus = not minus
other_sign false minus = minus

-- the image in a slot, with the other sign where that is asked for
abbrev pub image_in_slot : ℕ → Bool → Image → Image
image_in_slot slot turned i = record {
  slot = slot;
  minus = other_sign turned i.minus;
  factor = i.factor;
  shift = sign turned *ℤ i.shift;
  under = i.under;
}

abbrev pub mirrored_image : ℕ → Image → Image
mirrored_image axis i = image_in_slot i.slot (i.slot == axis) i

-- by a turn of 90 degrees, what was in the first slot is in the second, and what was in the second is in the first with the other sign
abbrev pub quarter_image : Plane → Image → Image
quarter_image plane i =
    if i.slot == first_axis plane
    then image_in_slot (second_axis plane) false i
    else (if i.slot == second_axis plane then image_in_slot (first_axis plane) true i else i)

abbrev pub quarters_image : Plane → ℕ → Image → Image
quarters_image plane zero i = i
quarters_image plane (suc n) i = quarter_image plane (quarters_image plane n i)

abbrev pub sent_on : Map → Image → Image
sent_on (shifting axis value) i = shifted_image axis value i
sent_on (scaling axis value) i = scaled_image axis value i
sent_on (mirroring axis) i = mirrored_image axis i
sent_on (turning plane angle) i = quarters_image plane (quarters_in angle) i

-- what a chain makes of an axis
abbrev pub image_of : List Map → ℕ → Image
image_of [] axis = own_image axis
image_of (m ∷ ms) axis = sent_on m (image_of ms axis)

-- a point has in the slot of an image what the image makes of value / under: shift + sign · factor · value
pub record IsSent (i : Image) (value : ℤ) (under : ℕ) (p : Point) : Type 0 where
  pub top : p.top i.slot ≡ (i.shift *ℤ pos under) +ℤ (sign i.minus *ℤ (i.factor *ℤ value))
  pub under_is : p.under ≡ i.under * under
