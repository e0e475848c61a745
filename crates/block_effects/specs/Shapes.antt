-- Meaning. Blocks of frames: what they make of the chain of maps.
use Rattle.std.specs.Prelude.{ℕ, ◌==◌, ℤ, Bool, true, false, if◌then◌else◌, List, [], ◌∷◌, ◌++◌, replicate, slice_set, Option, None, Some, Result, Ok, Err}
use Rattle.frames.specs.Composition.{shifts, scales, mirrors, turns}
use Rattle.frames.specs.Faults.{adding_fault}
use Rattle.frames.specs.Maps.{Map}
use Rattle.frames.specs.declared.Plane.{Plane}
use Rattle.frames.specs.declared.Plane.TheVariants.{G17, G18, G19}
use Rattle.nc_blocks.specs.declared.blocks.FrameWord.{FrameWord}
use Rattle.nc_blocks.specs.declared.blocks.FrameWord.TheVariants.{Trans, Atrans, Scale, Ascale, Mirror, Amirror}
use Rattle.nc_expressions.specs.Tree.{Tree}
use Rattle.nc_expressions.specs.Value.{◌>>=◌, value_of}
use Rattle.nc_expressions.specs.Values.{Values}
use Rattle.block_effects.specs.Words.{option_read}

-- the values of the words X, Y and Z, found from left to right
abbrev pub values_done : Values → List (Option ℤ) → List (ℕ × Tree) → Result (List (Option ℤ)) ℕ
values_done values row [] = Ok row
values_done values row ((axis, tree) ∷ more) = value_of values tree >>= λ value. values_done values (slice_set row axis (Some value)) more

-- no value
unfoldable pub no_values : List (Option ℤ)
no_values = replicate 3 None

abbrev pub unless_alarmed : Option ℕ → List Map → Result (List Map) ℕ
unless_alarmed None chain = Ok chain
unless_alarmed (Some code) chain = Err code

-- a chain with maps at its end, or the alarm of that
unfoldable pub chain_with : List Map → List Map → Result (List Map) ℕ
chain_with chain maps = unless_alarmed (adding_fault chain maps) (chain ++ maps)

-- TRANS, SCALE and MIRROR begin a new chain; the others add to the one that is there
unfoldable pub shape_chain : List Map → FrameWord → List (Option ℤ) → Result (List Map) ℕ
shape_chain chain Trans values = chain_with [] (shifts 0 values)
shape_chain chain Atrans values = chain_with chain (shifts 0 values)
shape_chain chain Scale values = chain_with [] (scales 0 values)
shape_chain chain Ascale values = chain_with chain (scales 0 values)
shape_chain chain Mirror values = chain_with [] (mirrors 0 values)
shape_chain chain Amirror values = chain_with chain (mirrors 0 values)

-- ROT begins a new chain, AROT adds to the one that is there
unfoldable pub turn_chain : List Map → Plane → Bool → Option ℤ → Result (List Map) ℕ
turn_chain chain plane false angle = chain_with [] (turns plane angle)
turn_chain chain plane true angle = chain_with chain (turns plane angle)

-- what a block makes of the chain that is a frame word and the words X, Y and Z after it: all values are found before the maps are added
abbrev pub shaped_by : Values → List Map → FrameWord → List (ℕ × Tree) → Result (List Map) ℕ
shaped_by values chain word words = values_done values no_values words >>= λ row. shape_chain chain word row

-- and one that is ROT or AROT with this angle
abbrev pub turned_by : Values → List Map → Plane → Bool → Option Tree → Result (List Map) ℕ
turned_by values chain plane additive angle = option_read values angle >>= λ value. turn_chain chain plane additive value

-- the plane of a word of its group
unfoldable pub plane_of : ℕ → Plane
plane_of code = if code == 17 then G17 else if code == 19 then G19 else G18
