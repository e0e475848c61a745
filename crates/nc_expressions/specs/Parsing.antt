-- Meaning. What is read at a place of a line, with the place after it.
use Rattle.std.specs.Prelude.{◌≡◌, ◌+◌, ◌-◌, ◌≤◌, ℕ, ℤ, neg_ℤ, Bool, true, false, List, length, drop, Option, Some, None, Result, Ok, Err, slice_get, if◌then◌else◌}
use Rattle.nc_expressions.specs.declared.trees.BinaryOp.TheVariants.{Add, Sub}
use Rattle.nc_expressions.specs.declared.trees.Expr.{Expr}
use Rattle.nc_expressions.specs.declared.faults.SyntaxFault.{SyntaxFault}
use Rattle.nc_expressions.specs.declared.faults.SyntaxFault.TheVariants.{Refused, NoMemory}
use Rattle.nc_expressions.specs.declared.symbols.Symbol.{Symbol}
use Rattle.nc_expressions.specs.declared.symbols.Symbol.TheVariants as symbol
use Rattle.nc_expressions.specs.Tree.{Tree, Number, tree_of}
use Rattle.nc_expressions.specs.Limits.{all_limits}
use Rattle.nc_expressions.specs.Machine.{Reading, read}
use Rattle.nc_expressions.specs.Value.{◌>>=◌}

-- the answer has the tree of a reading and the place where what is left begins, or its refusal, or memory ran out
abbrev pub Reads : List Symbol → Reading → Result (Expr × ℕ) SyntaxFault → Type 0
Reads symbols reading (Ok p) = (p.1 ≤ length symbols) × (reading ≡ Ok (tree_of p.0, drop p.1 symbols))
Reads symbols reading (Err (Refused code)) = reading ≡ Err code
Reads symbols reading (Err NoMemory) = Unit {0}

-- a reading with its place: of so many symbols, those that are left are no more of it
abbrev pub reading_with_place : ℕ → Reading → Result (Tree × ℕ) ℕ
reading_with_place all (Ok p) = Ok (p.0, all - length p.1)
reading_with_place all (Err code) = Err code

-- the expression at a place, and the place after it
unfoldable pub expr_at : List Symbol → ℕ → Result (Tree × ℕ) ℕ
expr_at symbols at = reading_with_place (length symbols) (read all_limits (drop at symbols))

-- the answer is this tree and place, or this refusal, or memory ran out
abbrev pub GivesExpr : Result (Tree × ℕ) ℕ → Result (Expr × ℕ) SyntaxFault → Type 0
GivesExpr read (Ok p) = read ≡ Ok (tree_of p.0, p.1)
GivesExpr read (Err (Refused code)) = read ≡ Err code
GivesExpr read (Err NoMemory) = Unit {0}

-- a plus or a minus sign: Some true is a minus sign
abbrev pub sign_of : Option Symbol → Option Bool
sign_of (Some (symbol.Operator Add)) = Some false
sign_of (Some (symbol.Operator Sub)) = Some true
sign_of one = None

abbrev pub is_exponent : Option Symbol → Bool
is_exponent (Some symbol.Exponent) = true
is_exponent one = false

-- a number with no exponent after it
abbrev pub plain_number : Option Symbol → Option Symbol → Result ℤ ℕ
plain_number (Some (symbol.Number z digits)) following = if is_exponent following then Err 22 else Ok z
plain_number one following = Err 22

unfoldable pub number_at : List Symbol → ℕ → Result ℤ ℕ
number_at symbols at = plain_number (slice_get symbols at) (slice_get symbols (at + 1))

abbrev pub signed_constant : Option Bool → List Symbol → ℕ → Result (Tree × ℕ) ℕ
signed_constant None symbols at = number_at symbols at >>= λ z. Ok (Number z, at + 1)
signed_constant (Some false) symbols at = number_at symbols (at + 1) >>= λ z. Ok (Number z, at + 2)
signed_constant (Some true) symbols at = number_at symbols (at + 1) >>= λ z. Ok (Number (neg_ℤ z), at + 2)

-- the constant at a place, with its sign if it has one, and the place after it
unfoldable pub constant_at : List Symbol → ℕ → Result (Tree × ℕ) ℕ
constant_at symbols at = signed_constant (sign_of (slice_get symbols at)) symbols at

-- the answer is this tree and place, or this refusal
abbrev pub GivesConstant : Result (Tree × ℕ) ℕ → Result (Expr × ℕ) ℕ → Type 0
GivesConstant read (Ok p) = read ≡ Ok (tree_of p.0, p.1)
GivesConstant read (Err code) = read ≡ Err code
