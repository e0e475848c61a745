-- Steps. How the logic stores the tree of an expression, by which it tells two jobs apart: its marks in postfix order. No contract says more by this.
use Rattle.std.specs.Prelude.{◌≡◌, ◌⊎◌, ℕ, ℤ, pos, List, [], ◌∷◌, Option, Some, None}
use Rattle.std.specs.Coded.{Coded, code_by, coded_ℕ, coded_ℤ, coded_list, coded_option, coded⊎}
use Rattle.std.proofs.Common.{inl, inr, refl, ◌∙◌}
use Rattle.nc_expressions.specs.Tree.{Tree, Number, Parameter, Indexed, Unary, Binary}
use Rattle.nc_expressions.specs.contracts.trees.BinaryOp as binary
use Rattle.nc_expressions.specs.contracts.trees.UnaryOp as unary
use Rattle.nc_expressions.specs.declared.trees.BinaryOp.{BinaryOp}
use Rattle.nc_expressions.specs.declared.trees.UnaryOp.{UnaryOp}

-- a number, a parameter, an index or a unary operator, a binary operator
abbrev pub Mark : Type 0
Mark = (ℤ ⊎ ℕ) ⊎ (Option UnaryOp ⊎ BinaryOp)

-- the marks of a tree before others
abbrev pub marks : Tree → List Mark → List Mark
marks (Number millionths) rest = inl (inl millionths) ∷ rest
marks (Parameter index) rest = inl (inr index) ∷ rest
marks (Indexed t) rest = marks t (inr (inl None) ∷ rest)
marks (Unary op t) rest = marks t (inr (inl (Some op)) ∷ rest)
marks (Binary op a b) rest = marks a (marks b (inr (inr op) ∷ rest))

abbrev pub with_unary : Option UnaryOp → List Tree → List Tree
with_unary None (t ∷ trees) = Indexed t ∷ trees
with_unary (Some op) (t ∷ trees) = Unary op t ∷ trees
with_unary op [] = []

abbrev pub with_binary : BinaryOp → List Tree → List Tree
with_binary op (b ∷ a ∷ trees) = Binary op a b ∷ trees
with_binary op trees = trees

abbrev pub top : List Tree → Tree
top [] = Number (pos 0)
top (t ∷ trees) = t

-- the tree that marks make after trees that are made
abbrev pub tree_of_marks : List Tree → List Mark → Tree
tree_of_marks trees [] = top trees
tree_of_marks trees (inl (inl millionths) ∷ rest) = tree_of_marks (Number millionths ∷ trees) rest
tree_of_marks trees (inl (inr index) ∷ rest) = tree_of_marks (Parameter index ∷ trees) rest
tree_of_marks trees (inr (inl op) ∷ rest) = tree_of_marks (with_unary op trees) rest
tree_of_marks trees (inr (inr op) ∷ rest) = tree_of_marks (with_binary op trees) rest

pub made-marks : (t : Tree) (trees : List Tree) (rest : List Mark) → tree_of_marks trees (marks t rest) ≡ tree_of_marks (t ∷ trees) rest
made-marks (Number millionths) trees rest = refl
made-marks (Parameter index) trees rest = refl
made-marks (Indexed t) trees rest = made-marks t trees (inr (inl None) ∷ rest)
made-marks (Unary op t) trees rest = made-marks t trees (inr (inl (Some op)) ∷ rest)
made-marks (Binary op a b) trees rest = made-marks a trees (marks b (inr (inr op) ∷ rest)) ∙ made-marks b (a ∷ trees) (inr (inr op) ∷ rest)

abbrev pub tree_code : Coded Tree
tree_code =
    code_by (List Mark) (coded_list (coded⊎ (coded⊎ coded_ℤ coded_ℕ) (coded⊎ (coded_option unary.the_row.coded) binary.the_row.coded)))
    (λ t. marks t []) (tree_of_marks []) (λ t. made-marks t [] [])
