-- Meaning. What a contract sees of the ends of a motion.
use Rattle.std.specs.Prelude.{ℕ, ℤ, pos, ◌==◌, List, find}
use Rattle.std.specs.Option.{option_map_or}
use Rattle.micro_units.specs.declared.Um.{Um}
use Rattle.axis_sets.specs.declared.ids.AxisId.{AxisId}

-- each axis with its start and its end
pub record EndsView : Type 0 where
  pub axes : List (AxisId × Um × Um)

-- where an axis starts and where it ends; 0 where it is not among the axes
abbrev pub start_of : EndsView → ℕ → ℤ
start_of ends axis = option_map_or (λ e. e.1) (find (λ e. e.0 == axis) ends.axes) (pos 0)

abbrev pub end_of : EndsView → ℕ → ℤ
end_of ends axis = option_map_or (λ e. e.2) (find (λ e. e.0 == axis) ends.axes) (pos 0)
