-- Meaning. Alarms of frames: those of a map by itself, then those of the chain.
use Rattle.std.specs.Prelude.{ℕ, ◌*◌, ◌%◌, ◌==◌, nat_lt, nat_le, if◌then◌else◌, ℤ, pos, negsuc, Bool, false, ◌&&◌, List, [], ◌∷◌, ◌++◌, Option, Some, None}
use Rattle.std.specs.Int.RustNames.{unsigned_abs}
use Rattle.frames.specs.Maps.{Map, shifting, scaling, mirroring, turning}
use Rattle.frames.specs.Images.{Image, image_of}
use Rattle.fault_codes.specs.declared.alarms.TheConstants.{SCALE_NOT_ALLOWED, NO_QUARTER_TURN, OUT_OF_RANGE}

-- the first of two alarms
abbrev pub or_else : Option ℕ → Option ℕ → Option ℕ
or_else None later = later
or_else (Some code) later = Some code

-- a factor in millionths: a positive multiple of 0.001, at most 1000
abbrev pub is_scale : ℤ → Bool
is_scale (pos n) = nat_lt 0 n && (n % 1000 == 0) && nat_le n 1000000000
is_scale (negsuc n) = false

-- an angle in millionths of a degree: a multiple of 90
abbrev pub is_square_angle : ℤ → Bool
is_square_angle angle = unsigned_abs angle % 90000000 == 0

abbrev pub map_fault : Map → Option ℕ
map_fault (shifting axis value) = None
map_fault (scaling axis value) = if is_scale value then None else Some SCALE_NOT_ALLOWED
map_fault (mirroring axis) = None
map_fault (turning plane angle) = if is_square_angle angle then None else Some NO_QUARTER_TURN

abbrev pub maps_fault : List Map → Option ℕ
maps_fault [] = None
maps_fault (m ∷ ms) = or_else (map_fault m) (maps_fault ms)

-- the factor of an axis is a whole count of millionths, at most 1000; the shift is at most 10,000 millimetres in size
abbrev pub is_factor_allowed : Image → Bool
is_factor_allowed i =
    ((unsigned_abs i.factor * 1000000) % i.under == 0) && nat_le (unsigned_abs i.factor) (1000 * i.under)

abbrev pub is_shift_allowed : Image → Bool
is_shift_allowed i = nat_le (unsigned_abs i.shift) (10000 * i.under)

abbrev pub image_fault : Image → Option ℕ
image_fault i = if is_factor_allowed i then (if is_shift_allowed i then None else Some OUT_OF_RANGE) else Some SCALE_NOT_ALLOWED

-- the axes X, Y and Z in this order
abbrev pub chain_fault : List Map → Option ℕ
chain_fault maps =
    or_else (image_fault (image_of maps 0)) (or_else (image_fault (image_of maps 1)) (image_fault (image_of maps 2)))

-- the alarm of adding maps at the end of a chain
abbrev pub adding_fault : List Map → List Map → Option ℕ
adding_fault chain new = or_else (maps_fault new) (chain_fault (chain ++ new))
