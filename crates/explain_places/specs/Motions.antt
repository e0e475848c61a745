-- Meaning. How axes and motions are said.
use Rattle.std.specs.Prelude.{ℕ, ℤ, List, [], ◌∷◌, ◌++◌, slice_get, codes}
use Rattle.std.specs.Fmt.{decimal}
use Rattle.std.specs.List.{flat_map}
use Rattle.std.specs.Option.{option_map_or}
use Rattle.growing_text.specs.Lengths.{millimetres_text}
use Rattle.job_types.specs.Job.{JobView}
use Rattle.job_types.specs.declared.job.AxisLine.{AxisLine}
use Rattle.path_geometry.specs.Motions.{axes_of}
use Rattle.path_geometry.specs.declared.motion.Motion.{Motion}
use Rattle.path_geometry.specs.declared.motion.Motion.TheVariants.{Line, Rapid}
use Rattle.path_geometry.specs.declared.motion.Motion.TheVariants as kind

-- the name of an axis: its letter and its number
abbrev pub name_text : AxisLine → List ℕ
name_text line = line.letter ∷ decimal line.number

-- the job names no axis beyond its AXIS lines
unfoldable pub axis_text : JobView → ℕ → List ℕ
axis_text job axis = option_map_or name_text (slice_get job.axes axis) []

-- an axis, and from where to where it moves
unfoldable pub end_text : JobView → ℕ × ℤ × ℤ → List ℕ
end_text job end = axis_text job end.0 ++ (codes " from " ++ (millimetres_text end.1 ++ (codes " to " ++ millimetres_text end.2)))

-- the same after others
unfoldable pub next_end_text : JobView → ℕ × ℤ × ℤ → List ℕ
next_end_text job end = codes ", " ++ end_text job end

unfoldable pub way_text : Motion → List ℕ
way_text (Line ends) = codes "a straight line"
way_text (Rapid ends) = codes "a rapid, each axis by itself"
way_text (kind.Arc arc) = codes "an arc"

-- what a motion is, and from where to where each of its axes moves
unfoldable pub motion_text : JobView → Motion → List ℕ
motion_text job motion = way_text motion ++ flat_map (next_end_text job) (axes_of motion)
