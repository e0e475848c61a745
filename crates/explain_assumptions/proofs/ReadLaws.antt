-- What is told to be read is what a block reads.
use Rattle.std.proofs.Common.{◌≡◌, ◌∙◌, ℕ, ℤ, ◌==◌, ◌||◌, Bool, true, false, List, [], ◌∷◌, ◌++◌, Option, None, Some, Result, Ok, Err, refl, sym, ap, ap₂}
use Rattle.std.specs.List.{flat_map, list_any}
use Rattle.explain_readings.specs.Reads as by
use Rattle.nc_blocks.specs.Statement.{OperandView, Value, Text, AxisName, WordView, Assign, AssignAt, G, Axis, Radius, Aux, End, Statement, Empty, WordBlock, Jump, IfJump, If, Else, EndIf, While, EndWhile, Repeat, Until, Loop, EndLoop, For, EndFor, Case, RepeatFrom, RepeatBlock, Call, Return, Proc, Shape, Turn, Coord, Message}
use Rattle.nc_expressions.specs.Symbols.{index_of}
use Rattle.nc_expressions.specs.Tree.{Tree, Number, Parameter, Indexed, Unary, Binary}
use Rattle.nc_expressions.specs.Value.{value_of}
use Rattle.nc_expressions.specs.Values.{Values}
use Rattle.explain_assumptions.specs.Reads.{block_reads, end_reads, entry_reads, for_reads, is_reading, operand_reads, option_reads, read, read_at, read_index, reads, set, set_at, set_index, word_reads}
use Rattle.explain_assumptions.specs.declared.remarks.Remark.{Remark}

or-false : (b : Bool) → (b || false) ≡ b
or-false true = refl
or-false false = refl

or-assoc : (a b c : Bool) → ((a || b) || c) ≡ (a || (b || c))
or-assoc true b c = refl
or-assoc false b c = refl

module _ {X : Type 0} (p : X → Bool) where
  any-append : (xs ys : List X) → list_any p (xs ++ ys) ≡ (list_any p xs || list_any p ys)
  any-append [] ys = refl
  any-append (x ∷ xs) ys = ap (λ (b : Bool). p x || b) (any-append xs ys) ∙ sym (or-assoc (p x) (list_any p xs) (list_any p ys))

  any-flat : {Y : Type 0} (f : Y → List X) (g : Y → Bool) (ys : List Y) → ((y : Y) → list_any p (f y) ≡ g y) → list_any p (flat_map f ys) ≡ list_any g ys
  any-flat f g [] same = refl
  any-flat f g (y ∷ ys) same = any-append (f y) (flat_map f ys) ∙ ap₂ (λ (a b : Bool). a || b) (same y) (any-flat f g ys same)

module _ (values : Values) (line number : ℕ) where
  abbrev Has : List Remark → Bool → Type 0
  Has remarks b = list_any (is_reading number) remarks ≡ b

  both : (xs ys : List Remark) (a b : Bool) → Has xs a → Has ys b → Has (xs ++ ys) (a || b)
  both xs ys a b first second = any-append (is_reading number) xs ys ∙ ap₂ (λ (c d : Bool). c || d) first second

  one : (n : ℕ) → Has (read line n ∷ []) (n == number)
  one n = or-false (n == number)

  -- a setting is no reading
  first_of : (xs ys : List Remark) (a : Bool) → Has xs a → Has ys false → Has (xs ++ ys) a
  first_of xs ys a first second = both xs ys a false first second ∙ or-false a

  set_index_none : (o : Option ℕ) → Has (set_index line o) false
  set_index_none None = refl
  set_index_none (Some n) = refl

  set_none : (r : Result ℤ ℕ) → Has (set_at line r) false
  set_none (Ok value) = set_index_none (index_of value)
  set_none (Err code) = refl

  at_index : (o : Option ℕ) → Has (read_index line o) (by.is_number number o)
  at_index None = refl
  at_index (Some n) = one n

  at : (r : Result ℤ ℕ) → Has (read_at line r) (by.is_at number r)
  at (Ok value) = at_index (index_of value)
  at (Err code) = refl

  tree : (t : Tree) → Has (reads values line t) (by.reads values number t)
  tree (Number n) = refl
  tree (Parameter n) = one n
  tree (Indexed t) = both (reads values line t) (read_at line (value_of values t)) (by.reads values number t) (by.is_at number (value_of values t)) (tree t) (at (value_of values t))
  tree (Unary op t) = tree t
  tree (Binary op a b) = both (reads values line a) (reads values line b) (by.reads values number a) (by.reads values number b) (tree a) (tree b)

  option : (o : Option Tree) → Has (option_reads values line o) (by.option_reads values number o)
  option None = refl
  option (Some t) = tree t

  operand : (o : OperandView) → Has (operand_reads values line o) (by.operand_reads values number o)
  operand (Value t) = tree t
  operand (Text bytes) = refl
  operand (AxisName bytes) = refl

  word : (w : WordView) → Has (word_reads values line w) (by.word_reads values number w)
  word (Assign n t) = first_of (reads values line t) (set line n ∷ []) (by.reads values number t) (tree t) refl
  word (AssignAt i t) =
      both (reads values line i) (reads values line t ++ set_at line (value_of values i)) (by.reads values number i) (by.reads values number t) (tree i)
      (first_of (reads values line t) (set_at line (value_of values i)) (by.reads values number t) (tree t) (set_none (value_of values i)))
  word (G group code) = refl
  word (Axis bytes m t) = tree t
  word (Radius t) = tree t
  word (Aux bytes i o) = both (option_reads values line i) (operand_reads values line o) (by.option_reads values number i) (by.operand_reads values number o) (option i) (operand o)
  word End = refl

  begin : (n : ℕ) (a b : Tree) → Has (for_reads values line n a b) (by.reads values number a || by.reads values number b)
  begin n a b = both (reads values line a) (set line n ∷ [] ++ reads values line b) (by.reads values number a) (by.reads values number b) (tree a) (tree b)

  end : (opener : Statement) → Has (end_reads values line opener) (by.end_reads values number opener)
  end (For n a b) = ap (λ (c : Bool). (n == number) || c) (tree b)
  end Empty = refl
  end (WordBlock words) = refl
  end (Jump j) = refl
  end (IfJump t j) = refl
  end (If t) = refl
  end Else = refl
  end EndIf = refl
  end (While t) = refl
  end EndWhile = refl
  end Repeat = refl
  end (Until t) = refl
  end Loop = refl
  end EndLoop = refl
  end EndFor = refl
  end (Case t pairs d) = refl
  end (RepeatFrom n t) = refl
  end (RepeatBlock n t) = refl
  end (Call n k) = refl
  end Return = refl
  end (Proc n) = refl
  end (Shape w axes) = refl
  end (Turn b t) = refl
  end (Coord w operands) = refl
  end Message = refl

  pub told : (opener statement : Statement) → Has (block_reads values line opener statement) (by.block_reads values opener statement number)
  unfolding block_reads by.block_reads
  told opener Empty = refl
  told opener (WordBlock words) = any-flat (is_reading number) (word_reads values line) (by.word_reads values number) words word
  told opener (Jump j) = refl
  told opener (IfJump t j) = tree t
  told opener (If t) = tree t
  told opener Else = refl
  told opener EndIf = refl
  told opener (While t) = tree t
  told opener EndWhile = refl
  told opener Repeat = refl
  told opener (Until t) = tree t
  told opener Loop = refl
  told opener EndLoop = refl
  told opener (For n a b) = begin n a b
  told opener EndFor = end opener
  told opener (Case t pairs d) = tree t
  told opener (RepeatFrom n t) = option t
  told opener (RepeatBlock n t) = option t
  told opener (Call n k) = refl
  told opener Return = refl
  told opener (Proc n) = refl
  told opener (Shape w axes) = any-flat (is_reading number) (entry_reads values line) (by.entry_reads values number) axes (λ e. tree e.1)
  told opener (Turn b t) = option t
  told opener (Coord w operands) = any-flat (is_reading number) (operand_reads values line) (by.operand_reads values number) operands operand
  told opener Message = refl
