-- Meaning. Programs whose structures match.
use Rattle.std.specs.Prelude.{◌≡◌, ℕ, List, [], fold, map, Result, Ok, Err}
use Rattle.nc_blocks.specs.Statement.{BlockView}
use Rattle.nc_control_flow.specs.declared.nest.Opened.{Opened}
use Rattle.nc_control_flow.specs.Nest.{nest_after}

-- the open structures after one more line, unless a line before it has a fault
abbrev pub nested_on : Result (List Opened) ℕ → ℕ × BlockView → Result (List Opened) ℕ
nested_on (Ok all) line = nest_after all line.0 line.1.statement
nested_on (Err code) line = Err code

-- the open structures after some lines
abbrev pub nest_of : List (ℕ × BlockView) → Result (List Opened) ℕ
nest_of lines = fold nested_on (Ok []) lines

-- a new nest takes the lines in turn, and none is open at the end
abbrev pub IsNested : List (ℕ × BlockView) → Type 0
IsNested lines = nest_of lines ≡ Ok []

-- the lines without their numbers
abbrev pub blocks_of : List (ℕ × BlockView) → List BlockView
blocks_of lines = map (λ line. line.1) lines
