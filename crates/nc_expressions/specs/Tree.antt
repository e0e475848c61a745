-- Meaning. The tree of an expression, as a contract sees it.
use Rattle.std.specs.Prelude.{◌≤◌, ℕ, ℤ}
use Rattle.nc_expressions.specs.declared.trees.UnaryOp.{UnaryOp}
use Rattle.nc_expressions.specs.declared.trees.BinaryOp.{BinaryOp}
use Rattle.nc_expressions.specs.declared.trees.Expr.{Expr}
use Rattle.nc_expressions.specs.declared.trees.Expr.TheVariants as expr
use Rattle.nc_expressions.specs.declared.limits.TheConstants.{LAST_PARAMETER}

pub data Tree : Type 0 where
  Number : (millionths : ℤ) → Tree
  Parameter : (index : ℕ) → Tree
  Indexed : Tree → Tree
  Unary : UnaryOp → Tree → Tree
  Binary : BinaryOp → Tree → Tree → Tree

-- the same tree without boxes
abbrev pub tree_of : Expr → Tree
tree_of (expr.Number n) = Number n
tree_of (expr.Parameter i) = Parameter i
tree_of (expr.Indexed' p e) = Indexed (tree_of e)
tree_of (expr.Unary' op p e) = Unary op (tree_of e)
tree_of (expr.Binary' op p a q b) = Binary op (tree_of a) (tree_of b)

-- each parameter that a tree names by its number is one of the 1,000
abbrev pub IndicesFit : Tree → Type 0
IndicesFit (Number n) = Unit {0}
IndicesFit (Parameter i) = i ≤ LAST_PARAMETER
IndicesFit (Indexed t) = IndicesFit t
IndicesFit (Unary op t) = IndicesFit t
IndicesFit (Binary op a b) = IndicesFit a × IndicesFit b
