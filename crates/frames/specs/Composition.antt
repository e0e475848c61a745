-- Meaning. A frame, and the chain of maps that it stands for.
use Rattle.std.specs.Prelude.{◌≡◌, ℕ, ◌+◌, ◌^◌, ℤ, pos, ◌*ℤ◌, List, [], ◌∷◌, ◌++◌, Option, Some, None, Result, Ok, Err, MatchResult, ◌==◌, if◌then◌else◌}
use Rattle.frames.specs.declared.axis_map.AxisMap.{AxisMap}
use Rattle.frames.specs.declared.Frame.{Frame}
use Rattle.frames.specs.declared.Plane.{Plane}
use Rattle.frames.specs.Maps.{Map, shifting, scaling, mirroring, turning}
use Rattle.frames.specs.Images.{Image, image_of}
use Rattle.frames.specs.Faults.{adding_fault}

-- the whole counts of an axis are what the chain makes of it
pub record IsImage (axis : AxisMap) (image : Image) : Type 0 where
  pub slot : axis.slot ≡ image.slot
  pub minus : axis.minus ≡ image.minus
  pub factor : pos axis.factor *ℤ pos image.under ≡ image.factor *ℤ pos 1000000
  pub shift : axis.shift *ℤ pos image.under ≡ image.shift *ℤ pos (10 ^ 12)

-- the frame is the composition of the chain
pub record IsComposed (chain : List Map) (frame : Frame) : Type 0 where
  pub x : IsImage frame.x (image_of chain 0)
  pub y : IsImage frame.y (image_of chain 1)
  pub z : IsImage frame.z (image_of chain 2)

-- the maps of the words of one block, from this axis on
abbrev pub shifts : ℕ → List (Option ℤ) → List Map
shifts axis [] = []
shifts axis (None ∷ values) = shifts (axis + 1) values
shifts axis (Some value ∷ values) = shifting axis value ∷ shifts (axis + 1) values

abbrev pub scales : ℕ → List (Option ℤ) → List Map
scales axis [] = []
scales axis (None ∷ values) = scales (axis + 1) values
scales axis (Some value ∷ values) = scaling axis value ∷ scales (axis + 1) values

abbrev pub mirrors : ℕ → List (Option ℤ) → List Map
mirrors axis [] = []
mirrors axis (None ∷ values) = mirrors (axis + 1) values
mirrors axis (Some value ∷ values) = mirroring axis ∷ mirrors (axis + 1) values

abbrev pub turns : Plane → Option ℤ → List Map
turns plane None = []
turns plane (Some angle) = turning plane angle ∷ []

-- the frame is the composition of the chain with these maps at its end, and they bring no alarm
pub record IsExtended (chain new : List Map) (frame : Frame) : Type 0 where
  pub no_fault : adding_fault chain new ≡ None
  pub composed : IsComposed (chain ++ new) frame

-- the answer to adding maps at the end of a chain: the frame of the longer chain, or the first alarm
abbrev pub GivesComposed : List Map → List Map → Result Frame ℕ → Type 0
GivesComposed chain new answer =
    MatchResult answer (λ frame. IsExtended chain new frame) (λ alarm. adding_fault chain new ≡ Some alarm)

-- the same of a frame in its place
abbrev pub Adds : {T : Type 0} → List Map → List Map → Result T ℕ → Frame → Type 0
Adds chain new answer frame =
    MatchResult answer (λ _. IsExtended chain new frame) (λ alarm. adding_fault chain new ≡ Some alarm)

-- a frame of three axes, or the alarm of the first that has one
abbrev pub Joins : Result AxisMap ℕ → Result AxisMap ℕ → Result AxisMap ℕ → Result Frame ℕ → Type 0
Joins (Err alarm) y z answer = answer ≡ Err alarm
Joins (Ok x) (Err alarm) z answer = answer ≡ Err alarm
Joins (Ok x) (Ok y) (Err alarm) answer = answer ≡ Err alarm
Joins (Ok x) (Ok y) (Ok z) answer = answer ≡ Ok (record { x = x; y = y; z = z })

-- the axis of a frame
abbrev pub axis_of : Frame → ℕ → AxisMap
axis_of frame axis = if axis == 0 then frame.x else (if axis == 1 then frame.y else frame.z)
