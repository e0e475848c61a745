-- Meaning. The texts of axes and of positions.
use Rattle.std.specs.Prelude.{ℕ, ℤ, pos, negsuc, suc, ◌/◌, ◌%◌, List, [], ◌++◌, slice_get, codes}
use Rattle.std.specs.Fmt.{decimal}
use Rattle.std.specs.Option.{option_map_or}
use Rattle.job_types.specs.Axes.{axis_name}
use Rattle.job_types.specs.Job.{JobView}

-- so many micrometres, as millimetres with three decimals
unfoldable pub millimetres_text : ℕ → List ℕ
millimetres_text size = decimal (size / 1000) ++ (codes "." ++ (decimal (size / 100 % 10) ++ (decimal (size / 10 % 10) ++ decimal (size % 10))))

-- a position in micrometres, as millimetres with a sign where it is negative
unfoldable pub position_text : ℤ → List ℕ
position_text (pos n) = millimetres_text n
position_text (negsuc n) = codes "-" ++ millimetres_text (suc n)

-- the name of an axis; the job names no axis beyond its AXIS lines
unfoldable pub axis_text : JobView → ℕ → List ℕ
axis_text job axis = option_map_or axis_name (slice_get job.axes axis) []

-- an axis of a motion with the position at the motion's end
unfoldable pub end_text : JobView → ℕ × ℤ × ℤ → List ℕ
end_text job end = codes " " ++ (axis_text job end.0 ++ (codes "=" ++ position_text end.2))
