-- Meaning. A motion whose axes are shifted, each by so much.
use Rattle.std.specs.Prelude.{◌≡◌, ℕ, ℤ, pos, ◌+ℤ◌, ◌*ℤ◌, ◌==◌, ◌&&◌, Bool, if◌then◌else◌, List, find, map, Result, Ok, Err}
use Rattle.std.specs.List.{list_all}
use Rattle.std.specs.Option.{option_map_or}
use Rattle.fault_codes.specs.declared.alarms.TheConstants.{OUT_OF_RANGE}
use Rattle.micro_units.specs.Position.{is_position}
use Rattle.path_geometry.specs.Ends.{EndsView}
use Rattle.path_geometry.specs.Path.{Point, IsOnPath}
use Rattle.path_geometry.specs.declared.motion.Arc.{Arc}
use Rattle.path_geometry.specs.declared.motion.Motion.{Motion}
use Rattle.path_geometry.specs.declared.motion.Motion.TheVariants.{Line, Rapid}
use Rattle.path_geometry.specs.declared.motion.Motion.TheVariants as Kind

-- by how much an axis is shifted; one that is not named stays
abbrev pub shift_of : List (ℕ × ℤ) → ℕ → ℤ
shift_of by axis = option_map_or (λ s. s.1) (find (λ s. s.0 == axis) by) (pos 0)

-- the start and the end of an axis, shifted
abbrev pub shifted_entry : List (ℕ × ℤ) → ℕ × ℤ × ℤ → ℕ × ℤ × ℤ
shifted_entry by e = (e.0, e.1 +ℤ shift_of by e.0, e.2 +ℤ shift_of by e.0)

abbrev pub shifted_ends : List (ℕ × ℤ) → EndsView → EndsView
shifted_ends by ends = record { axes = map (shifted_entry by) ends.axes }

-- a centre in the plane of two axes, shifted
abbrev pub shifted_centre : List (ℕ × ℤ) → ℕ → ℕ → ℤ × ℤ → ℤ × ℤ
shifted_centre by first second centre = (centre.0 +ℤ shift_of by first, centre.1 +ℤ shift_of by second)

-- an arc keeps its radii and its plane
abbrev pub shifted_arc : List (ℕ × ℤ) → Arc → Arc
shifted_arc by arc = record arc { ends = shifted_ends by arc.ends; centre = shifted_centre by arc.first arc.second arc.centre }

-- each start, each end and the centre of a motion, shifted
abbrev pub shifted : List (ℕ × ℤ) → Motion → Motion
shifted by (Line ends) = Line (shifted_ends by ends)
shifted by (Rapid ends) = Rapid (shifted_ends by ends)
shifted by (Kind.Arc arc) = Kind.Arc (shifted_arc by arc)

-- each axis starts and ends in range
abbrev pub is_entry_in_range : ℕ × ℤ × ℤ → Bool
is_entry_in_range e = is_position e.1 && is_position e.2

abbrev pub are_in_range : EndsView → Bool
are_in_range ends = list_all is_entry_in_range ends.axes

-- and a centre is in range
abbrev pub is_in_range : Motion → Bool
is_in_range (Line ends) = are_in_range ends
is_in_range (Rapid ends) = are_in_range ends
is_in_range (Kind.Arc arc) = are_in_range arc.ends && (is_position arc.centre.0 && is_position arc.centre.1)

-- a motion in range; else alarm 13
unfoldable pub in_range_or_alarm : Motion → Result Motion ℕ
in_range_or_alarm motion = if is_in_range motion then Ok motion else Err OUT_OF_RANGE

-- what a motion gives, shifted
abbrev pub shifted_if_made : List (ℕ × ℤ) → Result Motion ℕ → Result Motion ℕ
shifted_if_made by (Ok motion) = Ok (shifted by motion)
shifted_if_made by (Err alarm) = Err alarm

-- the point is a point of the path of the motion, with each axis shifted
pub record IsOnShiftedPath (by : List (ℕ × ℤ)) (motion : Motion) (point : Point) : Type 0 where
  pub from : Point
  pub on : IsOnPath motion from
  pub under : point.under ≡ from.under
  pub top : (axis : ℕ) → point.top axis ≡ from.top axis +ℤ (shift_of by axis *ℤ pos from.under)
