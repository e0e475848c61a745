-- Meaning. The structures that are open, the innermost first.
use Rattle.std.specs.Prelude.{◌≡◌, ℕ, ◌==◌, Bool, true, false, List, [], ◌∷◌, length, Result, Ok, Err, if◌then◌else◌}
use Rattle.nc_blocks.specs.Statement.{Statement, If, Else, EndIf, While, EndWhile, Repeat, Until, Loop, EndLoop, For, EndFor}
use Rattle.nc_control_flow.specs.declared.nest.Opened.{Opened}
use Rattle.nc_control_flow.specs.declared.nest.Structure.{Structure}
use Rattle.nc_control_flow.specs.declared.nest.Structure.TheVariants as structure
use Rattle.nc_control_flow.specs.declared.limits.TheConstants.{STRUCTURE_LIMIT}

-- whether the end of the first structure ends the second, which is open
abbrev pub ends : Structure → Structure → Bool
ends structure.If structure.If = true
ends structure.If structure.IfElse = true
ends structure.While structure.While = true
ends structure.Repeat structure.Repeat = true
ends structure.Loop structure.Loop = true
ends structure.For structure.For = true
ends one other = false

abbrev pub nest_with : List Opened → Structure → ℕ → Result (List Opened) ℕ
nest_with all one line = if length all == STRUCTURE_LIMIT then Err 26 else Ok (record { structure = one; line = line } ∷ all)

abbrev pub nest_without : Structure → List Opened → Result (List Opened) ℕ
nest_without one [] = Err 25
nest_without one (innermost ∷ others) = if ends one innermost.structure then Ok others else Err 25

abbrev pub with_else : Structure → Opened → List Opened → Result (List Opened) ℕ
with_else structure.If innermost others = Ok (record innermost { structure = structure.IfElse } ∷ others)
with_else other innermost others = Err 25

-- an ELSE goes on with the innermost structure, which is an IF that has none yet
abbrev pub nest_with_else : List Opened → Result (List Opened) ℕ
nest_with_else [] = Err 25
nest_with_else (innermost ∷ others) = with_else innermost.structure innermost others

-- the open structures after one more line
unfoldable pub nest_after : List Opened → ℕ → Statement → Result (List Opened) ℕ
nest_after all line (If c) = nest_with all structure.If line
nest_after all line (While c) = nest_with all structure.While line
nest_after all line Repeat = nest_with all structure.Repeat line
nest_after all line Loop = nest_with all structure.Loop line
nest_after all line (For i a b) = nest_with all structure.For line
nest_after all line Else = nest_with_else all
nest_after all line EndIf = nest_without structure.If all
nest_after all line EndWhile = nest_without structure.While all
nest_after all line (Until c) = nest_without structure.Repeat all
nest_after all line EndLoop = nest_without structure.Loop all
nest_after all line EndFor = nest_without structure.For all
nest_after all line other = Ok all

-- after a fault the nest is unchanged
abbrev pub Nests : Result (List Opened) ℕ → Result Unit ℕ → List Opened → List Opened → Type 0
Nests (Ok all) result old new = (result ≡ Ok tt) × (new ≡ all)
Nests (Err code) result old new = (result ≡ Err code) × (new ≡ old)
