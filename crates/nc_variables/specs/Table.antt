-- Meaning. The variables of a program.
use Rattle.std.specs.Prelude.{ℕ, List, []}
use Rattle.nc_blocks.specs.declared.blocks.VarKind.{VarKind}

-- each variable by its name, with what it holds, the parameters first; and how many parameters there are
pub record TableView : Type 0 where
  pub names : List (List ℕ × VarKind)
  pub parameters : ℕ

-- a program without variables
abbrev pub no_variables : TableView
no_variables = record { names = []; parameters = 0 }
