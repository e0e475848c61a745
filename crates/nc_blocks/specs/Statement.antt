-- Meaning. What a block says, with expressions as plain trees and collections as lists.
use Rattle.std.specs.Prelude.{ℕ, ℤ, Bool, List, map, Option, Some, None}
use Rattle.std.specs.Global.{Vec}
use Rattle.nc_expressions.specs.Tree.{Tree, tree_of}
use Rattle.nc_expressions.specs.declared.trees.Expr.{Expr}
use Rattle.nc_blocks.specs.declared.blocks.Block.{Block}
use Rattle.nc_blocks.specs.declared.blocks.Stmt.{Stmt}
use Rattle.nc_blocks.specs.declared.blocks.Stmt.TheVariants as stmt
use Rattle.nc_blocks.specs.declared.blocks.Word.{Word}
use Rattle.nc_blocks.specs.declared.blocks.Word.TheVariants as word
use Rattle.nc_blocks.specs.declared.blocks.Operand.{Operand}
use Rattle.nc_blocks.specs.declared.blocks.Operand.TheVariants as operand
use Rattle.nc_blocks.specs.declared.blocks.JumpTo.{JumpTo}
use Rattle.nc_blocks.specs.declared.blocks.Measure.{Measure}
use Rattle.nc_blocks.specs.declared.blocks.FrameWord.{FrameWord}
use Rattle.nc_blocks.specs.declared.blocks.CoordWord.{CoordWord}

pub data OperandView : Type 0 where
  Value : Tree → OperandView
  Text : List ℕ → OperandView
  AxisName : List ℕ → OperandView

pub data WordView : Type 0 where
  Assign : ℕ → Tree → WordView
  AssignAt : Tree → Tree → WordView
  G : ℕ → ℕ → WordView
  Axis : List ℕ → Measure → Tree → WordView
  Radius : Tree → WordView
  Aux : List ℕ → Option Tree → OperandView → WordView
  End : WordView

pub data Statement : Type 0 where
  Empty : Statement
  WordBlock : List WordView → Statement
  Jump : JumpTo → Statement
  IfJump : Tree → JumpTo → Statement
  If : Tree → Statement
  Else : Statement
  EndIf : Statement
  While : Tree → Statement
  EndWhile : Statement
  Repeat : Statement
  Until : Tree → Statement
  Loop : Statement
  EndLoop : Statement
  For : ℕ → Tree → Tree → Statement
  EndFor : Statement
  Case : Tree → List (ℤ × JumpTo) → Option JumpTo → Statement
  RepeatFrom : List ℕ → Option Tree → Statement
  RepeatBlock : List ℕ → Option Tree → Statement
  Call : List ℕ → ℕ → Statement
  Return : Statement
  Proc : List ℕ → Statement
  Shape : FrameWord → List (ℕ × Tree) → Statement
  Turn : Bool → Option Tree → Statement
  Coord : CoordWord → List OperandView → Statement
  Message : Statement

pub record BlockView : Type 0 where
  pub skip : Bool
  pub number : Option ℕ
  pub label : Option (List ℕ)
  pub statement : Statement

abbrev pub tree_option : Option Expr → Option Tree
tree_option None = None
tree_option (Some e) = Some (tree_of e)

abbrev pub placed_option : Option Expr × ℕ → Option Tree × ℕ
placed_option p = (tree_option p.0, p.1)

abbrev pub frame_entry : ℕ × Expr → ℕ × Tree
frame_entry p = (p.0, tree_of p.1)

abbrev pub frame_item : (ℕ × Expr) × Bool × ℕ → (ℕ × Tree) × Bool × ℕ
frame_item p = (frame_entry p.0, p.1, p.2)

abbrev pub frame_items : Vec (ℕ × Expr) × ℕ → List (ℕ × Tree) × ℕ
frame_items p = (map frame_entry p.0.items, p.1)

abbrev pub operand_view : Operand → OperandView
operand_view (operand.Value e) = Value (tree_of e)
operand_view (operand.Text bytes) = Text bytes.items
operand_view (operand.Axis bytes) = AxisName bytes.items

abbrev pub itself : ℕ → ℕ
itself n = n

abbrev pub bytes_of : Vec ℕ → List ℕ
bytes_of bytes = bytes.items

abbrev pub placed_bytes : Vec ℕ × ℕ → List ℕ × ℕ
placed_bytes p = (p.0.items, p.1)

abbrev pub bytes_option : Option (Vec ℕ) → Option (List ℕ)
bytes_option None = None
bytes_option (Some bytes) = Some bytes.items

abbrev pub placed_bytes_option : Option (Vec ℕ) × ℕ → Option (List ℕ) × ℕ
placed_bytes_option p = (bytes_option p.0, p.1)

abbrev pub placed_operand : Operand × ℕ → OperandView × ℕ
placed_operand p = (operand_view p.0, p.1)

abbrev pub operand_item : Operand × Bool × ℕ → OperandView × Bool × ℕ
operand_item p = (operand_view p.0, p.1, p.2)

abbrev pub operand_items : Vec Operand × ℕ → List OperandView × ℕ
operand_items p = (map operand_view p.0.items, p.1)

abbrev pub word_view : Word → WordView
word_view (word.Assign i e) = Assign i (tree_of e)
word_view (word.AssignAt i e) = AssignAt (tree_of i) (tree_of e)
word_view (word.G group code) = G group code
word_view (word.Axis bytes m e) = Axis bytes.items m (tree_of e)
word_view (word.Radius e) = Radius (tree_of e)
word_view (word.Aux bytes i o) = Aux bytes.items (tree_option i) (operand_view o)
word_view word.End = End

abbrev pub pair_items : Vec (ℤ × JumpTo) × ℕ → List (ℤ × JumpTo) × ℕ
pair_items p = (p.0.items, p.1)

abbrev pub placed_measure : Measure × Expr × ℕ → Measure × Tree × ℕ
placed_measure p = (p.0, tree_of p.1, p.2)

abbrev pub placed_word : Word × ℕ → WordView × ℕ
placed_word p = (word_view p.0, p.1)

abbrev pub word_item : Word × Bool × ℕ → WordView × Bool × ℕ
word_item p = (word_view p.0, p.1, p.2)

abbrev pub word_items : Vec Word × ℕ → List WordView × ℕ
word_items p = (map word_view p.0.items, p.1)

abbrev pub statement_view : Stmt → Statement
statement_view stmt.Empty = Empty
statement_view (stmt.Words words) = WordBlock (map word_view words.items)
statement_view (stmt.Jump j) = Jump j
statement_view (stmt.IfJump e j) = IfJump (tree_of e) j
statement_view (stmt.If e) = If (tree_of e)
statement_view stmt.Else = Else
statement_view stmt.EndIf = EndIf
statement_view (stmt.While e) = While (tree_of e)
statement_view stmt.EndWhile = EndWhile
statement_view stmt.Repeat = Repeat
statement_view (stmt.Until e) = Until (tree_of e)
statement_view stmt.Loop = Loop
statement_view stmt.EndLoop = EndLoop
statement_view (stmt.For i a b) = For i (tree_of a) (tree_of b)
statement_view stmt.EndFor = EndFor
statement_view (stmt.Case e pairs d) = Case (tree_of e) pairs.items d
statement_view (stmt.RepeatFrom n e) = RepeatFrom n (tree_option e)
statement_view (stmt.RepeatBlock n e) = RepeatBlock n (tree_option e)
statement_view (stmt.Call n k) = Call n k
statement_view stmt.Return = Return
statement_view (stmt.Proc n) = Proc n
statement_view (stmt.Shape w axes) = Shape w (map frame_entry axes.items)
statement_view (stmt.Turn b e) = Turn b (tree_option e)
statement_view (stmt.Coord w operands) = Coord w (map operand_view operands.items)
statement_view stmt.Message = Message

abbrev pub view_of : Block → BlockView
view_of block = record { skip = block.skip; number = block.number; label = block.label; statement = statement_view block.stmt }
