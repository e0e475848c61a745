-- Law. The codes by which a block is refused.
use Rattle.std.specs.Prelude.{ℕ, ◌==◌, IsTrue, List, [], ◌∷◌}
use Rattle.std.specs.List.{list_any}
use Rattle.nc_expressions.specs.declared.faults.SyntaxFault.{SyntaxFault}
use Rattle.nc_expressions.specs.declared.faults.SyntaxFault.TheVariants.{Refused, NoMemory}

-- a number, a form or a depth that cannot be, up to 27; what is not supported, from 40 on
unfoldable pub block_refusals : List ℕ
block_refusals =
    21 ∷ 22 ∷ 23 ∷ 24 ∷ 26 ∷ 27 ∷ 40 ∷ 41 ∷ 42 ∷ 43 ∷ 44 ∷ 45 ∷ 46 ∷ 47 ∷ 48 ∷ 49 ∷ 50 ∷ 51 ∷ 52 ∷ 53 ∷ 54 ∷ 55 ∷ 56 ∷ 57 ∷ 58 ∷ 59 ∷ []

-- the code is one of these
unfoldable pub IsBlockRefusal : ℕ → Type 0
IsBlockRefusal code = IsTrue (list_any (λ other. other == code) block_refusals)

-- a refusal has one of these codes
abbrev pub IsListed : SyntaxFault → Type 0
IsListed (Refused code) = IsBlockRefusal code
IsListed NoMemory = Unit {0}
