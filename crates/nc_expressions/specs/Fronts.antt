-- Law. How far a line can be read as an expression.
use Rattle.std.specs.Prelude.{◌≡◌, ℕ, ◌⊎◌, List, [], ◌∷◌, ◌++◌}
use Rattle.nc_expressions.specs.declared.trees.UnaryOp.{UnaryOp}
use Rattle.nc_expressions.specs.declared.symbols.Symbol.{Symbol}
use Rattle.nc_expressions.specs.declared.symbols.Symbol.TheVariants as symbol
use Rattle.nc_expressions.specs.Limits.{Limits, all_limits, any_nesting, any_mixture}
use Rattle.nc_expressions.specs.Tree.{Tree}
use Rattle.nc_expressions.specs.Syntax.{Syntax, spelling, tree, IsExpressionUnder, IsExpression, Follows}

-- the symbols begin with an expression of this tree, and these are after it
abbrev pub Found : List Symbol → Tree → List Symbol → Type 0
Found symbols t rest =
    (x : Syntax) × IsExpression x × (tree x ≡ t) × Follows rest × (symbols ≡ spelling x ++ rest)

-- some line that begins so begins with an expression, of the grammar with these limits, and with all
abbrev pub IsFrontUnder : Limits → List Symbol → Type 0
IsFrontUnder limits symbols =
    (x : Syntax) × (rest : List Symbol) × (more : List Symbol) × IsExpressionUnder limits x × Follows rest × (symbols ++ more ≡ spelling x ++ rest)

abbrev pub IsFront : List Symbol → Type 0
IsFront symbols = IsFrontUnder all_limits symbols

-- some expression begins so
abbrev pub BeginsExpressionUnder : Limits → List Symbol → Type 0
BeginsExpressionUnder limits symbols = (x : Syntax) × (more : List Symbol) × IsExpressionUnder limits x × (symbols ++ more ≡ spelling x)

abbrev pub BeginsExpression : List Symbol → Type 0
BeginsExpression symbols = BeginsExpressionUnder all_limits symbols

-- some expression begins so, or would if any number of parentheses could be open, where only the name of a function at the
-- end is too much: then its parenthesis is the place of the refusal, and not its name
abbrev pub MayGoOn : List Symbol → Type 0
MayGoOn symbols =
    BeginsExpression symbols
    ⊎ ((before : List Symbol) × (f : UnaryOp) ×
    (symbols ≡ before ++ (symbol.Function f ∷ [])) × BeginsExpression before × BeginsExpressionUnder any_nesting symbols)

-- the code of a place at which no expression goes on: 26 where one goes on but for the number of parentheses, 23 where one goes
-- on but for a comparison beside AND, OR, XOR or NOT, else 22
abbrev pub HasCode : List Symbol → ℕ → Type 0
HasCode symbols code =
    ((code ≡ 26) × IsFrontUnder any_nesting symbols × ¬ (IsFrontUnder any_mixture symbols))
    ⊎ (((code ≡ 23) × ¬ (IsFrontUnder any_nesting symbols) × IsFrontUnder any_mixture symbols)
    ⊎ ((code ≡ 22) × ¬ (IsFrontUnder any_nesting symbols) × ¬ (IsFrontUnder any_mixture symbols)))

-- the symbols break off at the first at which no expression goes on, with the code of this place; or at their end, where one
-- could go on, with 22
abbrev pub Broken : List Symbol → ℕ → Type 0
Broken symbols code =
    ((before : List Symbol) × (one : Symbol) × (following : List Symbol) ×
    (symbols ≡ before ++ (one ∷ following)) × MayGoOn before × ¬ (IsFront (before ++ (one ∷ []))) × HasCode (before ++ (one ∷ [])) code)
    ⊎ (MayGoOn symbols × ((x : Syntax) → IsExpression x → ¬ (symbols ≡ spelling x)) × (code ≡ 22))
