-- Meaning. Where jumps and repetitions find their blocks.
use Rattle.std.specs.Prelude.{ℕ, ◌==◌, Bool, false, List, Option, option_map, find}
use Rattle.std.specs.Option.{option_or, option_map_or}
use Rattle.std.specs.Str.{bytes_eq}
use Rattle.nc_blocks.specs.declared.blocks.Way.{Way}
use Rattle.nc_blocks.specs.declared.blocks.Way.TheVariants.{Forward, Backward, Either, Optional}
use Rattle.nc_blocks.specs.declared.blocks.Target.{Target}
use Rattle.nc_blocks.specs.declared.blocks.Target.TheVariants.{Label, Number}
use Rattle.nc_blocks.specs.Statement.{BlockView}
use Rattle.nc_control_flow.specs.Places.{those_after, those_before}

abbrev pub is_label : List ℕ → Option (List ℕ) → Bool
is_label name label = option_map_or (λ own. bytes_eq own name) label false

abbrev pub is_number : ℕ → Option ℕ → Bool
is_number number own = option_map_or (λ n. n == number) own false

abbrev pub has_label : List ℕ → BlockView → Bool
has_label name block = is_label name block.label

abbrev pub has_number : ℕ → BlockView → Bool
has_number number block = is_number number block.number

-- whether a block is one that the target means
abbrev pub is_target : Target → BlockView → Bool
is_target (Label name) block = has_label name block
is_target (Number number) block = has_number number block

-- the place of the first that passes
abbrev pub nearest : (BlockView → Bool) → List (ℕ × BlockView) → Option ℕ
nearest test es = option_map (λ e. e.0) (find (λ e. test e.1) es)

abbrev pub nearest_ahead : (BlockView → Bool) → ℕ → List BlockView → Option ℕ
nearest_ahead test pc blocks = nearest test (those_after pc blocks)

abbrev pub nearest_before : (BlockView → Bool) → ℕ → List BlockView → Option ℕ
nearest_before test pc blocks = nearest test (those_before pc blocks)

-- the place to which a jump goes
unfoldable pub target_of : Way → Target → ℕ → List BlockView → Option ℕ
target_of Forward target pc blocks = nearest_ahead (is_target target) pc blocks
target_of Backward target pc blocks = nearest_before (is_target target) pc blocks
target_of Either target pc blocks = option_or (nearest_ahead (is_target target) pc blocks) (nearest_before (is_target target) pc blocks)
target_of Optional target pc blocks = option_or (nearest_ahead (is_target target) pc blocks) (nearest_before (is_target target) pc blocks)

-- the first block of a REPEAT with a label
unfoldable pub first_of_range : List ℕ → ℕ → List BlockView → Option ℕ
first_of_range name pc blocks = nearest_before (has_label name) pc blocks

-- the block of a REPEATB
unfoldable pub single_block : List ℕ → ℕ → List BlockView → Option ℕ
single_block name pc blocks = option_or (nearest_before (has_label name) pc blocks) (nearest_ahead (has_label name) pc blocks)
