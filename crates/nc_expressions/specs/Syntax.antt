-- Law. The grammar of expressions.
use Rattle.std.specs.Prelude.{◌≡◌, ◌+◌, ◌<◌, ◌≤◌, ℕ, ℤ, Bool, true, List, [], ◌∷◌, ◌++◌, Option, Some, None, IsSome, IsTrue}
use Rattle.nc_expressions.specs.declared.trees.UnaryOp.{UnaryOp}
use Rattle.nc_expressions.specs.declared.trees.UnaryOp.TheVariants as unary
use Rattle.nc_expressions.specs.declared.trees.BinaryOp.{BinaryOp}
use Rattle.nc_expressions.specs.declared.trees.BinaryOp.TheVariants.{Add, Sub}
use Rattle.nc_expressions.specs.declared.levels.Level.{Level}
use Rattle.nc_expressions.specs.declared.levels.Level.TheVariants.{Plain}
use Rattle.nc_expressions.specs.declared.symbols.Symbol.{Symbol}
use Rattle.nc_expressions.specs.declared.symbols.Symbol.TheVariants as symbol
use Rattle.nc_expressions.specs.Tree.{Tree, Number, Parameter, Indexed, Unary, Binary}
use Rattle.nc_expressions.specs.Levels.{connecting, rank, kind, joint_level}
use Rattle.nc_expressions.specs.Limits.{Limits, all_limits, has_room}
use Rattle.nc_expressions.specs.Symbols.{truth, index_of}

-- an expression as it is written; of a constant also whether it is digits alone
pub data Syntax : Type 0 where
  Constant : ℤ → (digits : Bool) → Syntax
  Truth : Bool → Syntax
  Positive : Syntax → Syntax
  Negative : Syntax → Syntax
  Denied : Syntax → Syntax
  Named : ℤ → Syntax
  Indexing : Syntax → Syntax
  Called : UnaryOp → Syntax → Syntax
  Grouped : Syntax → Syntax
  Chained : BinaryOp → Syntax → Syntax → Syntax

-- its symbols; the number of a parameter is digits alone
abbrev pub spelling : Syntax → List Symbol
spelling (Constant z digits) = symbol.Number z digits ∷ []
spelling (Truth b) = symbol.Truth b ∷ []
spelling (Positive x) = symbol.Operator Add ∷ spelling x
spelling (Negative x) = symbol.Operator Sub ∷ spelling x
spelling (Denied x) = symbol.Not ∷ spelling x
spelling (Named z) = symbol.Letter ∷ (symbol.Number z true ∷ [])
spelling (Indexing x) = symbol.Letter ∷ (symbol.OpenBracket ∷ (spelling x ++ (symbol.CloseBracket ∷ [])))
spelling (Called f x) = symbol.Function f ∷ (symbol.Open ∷ (spelling x ++ (symbol.Close ∷ [])))
spelling (Grouped x) = symbol.Open ∷ (spelling x ++ (symbol.Close ∷ []))
spelling (Chained op a b) = spelling a ++ (symbol.Operator op ∷ spelling b)

abbrev pub parameter_of : Option ℕ → Tree
parameter_of (Some i) = Parameter i
parameter_of None = Parameter 0

-- its tree: parentheses and a plus sign leave nothing
abbrev pub tree : Syntax → Tree
tree (Constant z digits) = Number z
tree (Truth b) = Number (truth b)
tree (Positive x) = tree x
tree (Negative x) = Unary unary.Minus (tree x)
tree (Denied x) = Unary unary.Not (tree x)
tree (Named z) = parameter_of (index_of z)
tree (Indexing x) = Indexed (tree x)
tree (Called f x) = Unary f (tree x)
tree (Grouped x) = tree x
tree (Chained op a b) = Binary op (tree a) (tree b)

-- how tightly it holds together: as its operator, or more than any where none stands outside brackets and after signs
abbrev pub tightness : Syntax → ℕ
tightness (Constant z digits) = 6
tightness (Truth b) = 6
tightness (Positive x) = 6
tightness (Negative x) = 6
tightness (Denied x) = 6
tightness (Named z) = 6
tightness (Indexing x) = 6
tightness (Called f x) = 6
tightness (Grouped x) = 6
tightness (Chained op a b) = rank op

abbrev pub and_then : Option Level → (Level → Option Level) → Option Level
and_then (Some l) f = f l
and_then None f = None

-- what stands in it outside brackets; None where a rule of the level is broken
abbrev pub level : Limits → Syntax → Option Level
level limits (Constant z digits) = Some Plain
level limits (Truth b) = Some Plain
level limits (Positive x) = level limits x
level limits (Negative x) = level limits x
level limits (Denied x) = and_then (level limits x) (joint_level (connecting limits))
level limits (Named z) = Some Plain
level limits (Indexing x) = Some Plain
level limits (Called f x) = Some Plain
level limits (Grouped x) = Some Plain
level limits (Chained op a b) = and_then (level limits a) (λ l. and_then (level limits b) (λ m. and_then (joint_level (kind limits op) m) (joint_level l)))

-- it is of the grammar, with so many parentheses open around it
abbrev pub Fits : Limits → ℕ → Syntax → Type 0
Fits limits n (Constant z digits) = Unit {0}
Fits limits n (Truth b) = Unit {0}
Fits limits n (Positive x) = (tightness x ≡ 6) × Fits limits n x
Fits limits n (Negative x) = (tightness x ≡ 6) × Fits limits n x
Fits limits n (Denied x) = (tightness x ≡ 6) × Fits limits n x
Fits limits n (Named z) = IsSome (index_of z)
Fits limits n (Indexing x) = IsSome (level limits x) × Fits limits n x
Fits limits n (Called f x) = IsTrue (has_room limits n) × IsSome (level limits x) × Fits limits (n + 1) x
Fits limits n (Grouped x) = IsTrue (has_room limits n) × IsSome (level limits x) × Fits limits (n + 1) x
Fits limits n (Chained op a b) = (rank op ≤ tightness a) × (rank op < tightness b) × Fits limits n a × Fits limits n b

-- a whole expression, of the grammar with these limits, and with all
abbrev pub IsExpressionUnder : Limits → Syntax → Type 0
IsExpressionUnder limits x = IsSome (level limits x) × Fits limits 0 x

abbrev pub IsExpression : Syntax → Type 0
IsExpression x = IsExpressionUnder all_limits x

-- what can stand after an expression that has ended
abbrev pub Follows : List Symbol → Type 0
Follows [] = Unit {0}
Follows (symbol.Number z digits ∷ ss) = Unit {0}
Follows (symbol.Truth b ∷ ss) = Unit {0}
Follows (symbol.Operator op ∷ ss) = ⊥
Follows (symbol.Not ∷ ss) = Unit {0}
Follows (symbol.Function f ∷ ss) = Unit {0}
Follows (symbol.Letter ∷ ss) = Unit {0}
Follows (symbol.Open ∷ ss) = Unit {0}
Follows (symbol.Close ∷ ss) = Unit {0}
Follows (symbol.OpenBracket ∷ ss) = Unit {0}
Follows (symbol.CloseBracket ∷ ss) = Unit {0}
Follows (symbol.Exponent ∷ ss) = ⊥
Follows (symbol.Other ∷ ss) = Unit {0}
