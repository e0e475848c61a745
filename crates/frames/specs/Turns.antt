-- Steps. A frame with turns of 90 degrees at the end of its chain.
use Rattle.std.specs.Prelude.{ℕ, zero, suc, ◌<◌, true, false}
use Rattle.frames.specs.declared.axis_map.AxisMap.{AxisMap}
use Rattle.frames.specs.declared.Frame.{Frame}
use Rattle.frames.specs.declared.Plane.{Plane}
use Rattle.frames.specs.Counts.{IsMirrored}
use Rattle.frames.specs.Images.{own_image, quarters_image}
use Rattle.frames.specs.Composition.{axis_of}

-- each axis goes where the axis went to whose slot the turns bring it, with the sign that they give it
abbrev pub IsTurned : Frame → Plane → ℕ → Frame → Type 0
IsTurned old plane quarters new =
    (axis : ℕ) → axis < 3
    → let image = quarters_image plane quarters (own_image axis) in
    IsMirrored (axis_of old image.slot) image.minus (axis_of new axis)

-- the first and the second axis of a plane after turns
abbrev pub IsTurnedFirst : AxisMap → AxisMap → ℕ → AxisMap → Type 0
IsTurnedFirst first second zero new = IsMirrored first false new
IsTurnedFirst first second (suc zero) new = IsMirrored second false new
IsTurnedFirst first second (suc (suc zero)) new = IsMirrored first true new
IsTurnedFirst first second (suc (suc (suc n))) new = IsMirrored second true new

abbrev pub IsTurnedSecond : AxisMap → AxisMap → ℕ → AxisMap → Type 0
IsTurnedSecond first second zero new = IsMirrored second false new
IsTurnedSecond first second (suc zero) new = IsMirrored first true new
IsTurnedSecond first second (suc (suc zero)) new = IsMirrored second true new
IsTurnedSecond first second (suc (suc (suc n))) new = IsMirrored first false new
