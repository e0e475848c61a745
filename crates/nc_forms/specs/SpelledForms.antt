-- Law. Which forms of coordination, frames and messages a line spells.
use Rattle.std.specs.Prelude.{◌≡◌, ℕ, ℤ, ◌+◌, ◌<◌, ◌==◌, ◌⊎◌, Bool, true, false, IsTrue, List, [], ◌∷◌, map, length, Option, Some, None, codes}
use Rattle.std.specs.List.{IsDistinct}
use Rattle.block_scanner.specs.WordsView.{WordsView}
use Rattle.nc_expressions.specs.Tree.{Tree, Number}
use Rattle.nc_blocks.specs.declared.blocks.CoordWord.{CoordWord}
use Rattle.nc_blocks.specs.declared.blocks.CoordWord.TheVariants as coord
use Rattle.nc_blocks.specs.declared.blocks.FrameWord.{FrameWord}
use Rattle.nc_blocks.specs.declared.blocks.FrameWord.TheVariants as frame
use Rattle.nc_blocks.specs.declared.pieces.Piece.TheVariants as piece
use Rattle.nc_blocks.specs.Pieces.{piece_at, text_at}
use Rattle.nc_forms.specs.Frames.{axis_of}
use Rattle.nc_blocks.specs.Texts.{text_within_quotes}
use Rattle.nc_forms.specs.Coordination.{is_wait}
use Rattle.nc_forms.specs.Standing.{IsKeyword, IsExpressionText, IsSignedNumber, IsEnclosed, IsAssigned, IsAxisName, AreListed, AreSeparated, IsAlone}
use Rattle.nc_blocks.specs.Statement.{OperandView, Value, Text, AxisName}

abbrev pub frame_name : FrameWord → List ℕ
frame_name frame.Trans = codes "TRANS"
frame_name frame.Atrans = codes "ATRANS"
frame_name frame.Scale = codes "SCALE"
frame_name frame.Ascale = codes "ASCALE"
frame_name frame.Mirror = codes "MIRROR"
frame_name frame.Amirror = codes "AMIRROR"

-- X, Y or Z with = and an expression, or with a number
abbrev pub IsFrameAxis : WordsView → ℕ → ℕ → ℕ × Tree → Type 0
IsFrameAxis words at end entry =
    (axis_of (piece_at words at) ≡ Some entry.0)
    × (IsAssigned words (at + 1) end entry.1 ⊎ ((z : ℤ) × IsSignedNumber words (at + 1) end z × (entry.1 ≡ Number z)))

-- no axis comes twice
abbrev pub IsShape : WordsView → ℕ → ℕ → FrameWord → List (ℕ × Tree) → Type 0
IsShape words at end which axes =
    IsKeyword words at (frame_name which) × AreListed (IsFrameAxis words) (at + 1) end axes × IsDistinct ◌==◌ (map (λ entry. entry.0) axes)

abbrev pub turn_name : Bool → List ℕ
turn_name false = codes "ROT"
turn_name true = codes "AROT"

-- RPL=expr, or nothing
abbrev pub IsAngle : WordsView → ℕ → ℕ → Option Tree → Type 0
IsAngle words at end None = end ≡ at
IsAngle words at end (Some t) = IsKeyword words at (codes "RPL") × IsAssigned words (at + 1) end t

abbrev pub coordination_name : CoordWord → List ℕ
coordination_name coord.WaitM = codes "WAITM"
coordination_name coord.WaitMC = codes "WAITMC"
coordination_name coord.SetM = codes "SETM"
coordination_name coord.ClearM = codes "CLEARM"
coordination_name coord.Init = codes "INIT"
coordination_name coord.Start = codes "START"
coordination_name coord.WaitE = codes "WAITE"
coordination_name coord.Release = codes "RELEASE"
coordination_name coord.Get = codes "GET"
coordination_name coord.CProt = codes "CPROT"

-- an argument that is an expression
abbrev pub IsValue : WordsView → ℕ → ℕ → OperandView → Type 0
IsValue words at end (Value t) = IsExpressionText words at end t
IsValue words at end (Text bytes) = ⊥
IsValue words at end (AxisName name) = ⊥

-- an argument that is an axis name, or X, Y or Z
abbrev pub IsAxis : WordsView → ℕ → ℕ → OperandView → Type 0
IsAxis words at end (Value t) = ⊥
IsAxis words at end (Text bytes) = ⊥
IsAxis words at end (AxisName name) =
    (IsAxisName words at name × (end ≡ at + 2))
    ⊎ ((letter : ℕ) × (slot : ℕ) × (piece_at words at ≡ piece.Letter letter) × (axis_of (piece.Letter letter) ≡ Some slot) × (name ≡ letter ∷ []) × (end ≡ at + 1))

-- a text without its quotes
abbrev pub IsText : WordsView → ℕ → List ℕ → Type 0
IsText words at bytes = (piece_at words at ≡ piece.Text) × (bytes ≡ text_within_quotes (text_at words at))

-- the arguments of INIT: an expression, a text, and "N" or "S" or nothing
abbrev pub IsInit : WordsView → ℕ → ℕ → List OperandView → Type 0
IsInit words at end operands =
    (t : Tree) × (program : List ℕ) × (middle : ℕ) × IsExpressionText words at middle t × (piece_at words middle ≡ piece.Comma) × IsText words (middle + 1) program
    × (((operands ≡ Value t ∷ Text program ∷ []) × (end ≡ middle + 2))
    ⊎ ((wait : List ℕ) × (piece_at words (middle + 2) ≡ piece.Comma) × IsText words (middle + 3) wait × IsTrue (is_wait wait)
    × (operands ≡ Value t ∷ Text program ∷ Text wait ∷ []) × (end ≡ middle + 4)))

-- the arguments of CPROT: two expressions
abbrev pub IsZoneState : WordsView → ℕ → ℕ → List OperandView → Type 0
IsZoneState words at end operands =
    (zone : Tree) × (state : Tree) × (middle : ℕ) × IsExpressionText words at middle zone × (piece_at words middle ≡ piece.Comma)
    × IsExpressionText words (middle + 1) end state × (operands ≡ Value zone ∷ Value state ∷ [])

-- the arguments of a coordination word
abbrev pub AreArguments : WordsView → CoordWord → ℕ → ℕ → List OperandView → Type 0
AreArguments words coord.WaitM at end operands = AreSeparated words (IsValue words) at end operands
AreArguments words coord.WaitMC at end operands = AreSeparated words (IsValue words) at end operands
AreArguments words coord.SetM at end operands = AreSeparated words (IsValue words) at end operands
AreArguments words coord.ClearM at end operands =
    ((operands ≡ []) × (end ≡ at)) ⊎ AreSeparated words (IsValue words) at end operands
AreArguments words coord.Init at end operands = IsInit words at end operands
AreArguments words coord.Start at end operands = AreSeparated words (IsValue words) at end operands
AreArguments words coord.WaitE at end operands = AreSeparated words (IsValue words) at end operands
AreArguments words coord.Release at end operands = AreSeparated words (IsAxis words) at end operands
AreArguments words coord.Get at end operands = AreSeparated words (IsAxis words) at end operands
AreArguments words coord.CProt at end operands = IsZoneState words at end operands

-- a coordination word with its arguments in parentheses
abbrev pub IsCoordination : WordsView → ℕ → ℕ → CoordWord → List OperandView → Type 0
IsCoordination words at end which operands =
    (close : ℕ) × IsKeyword words at (coordination_name which) × (piece_at words (at + 1) ≡ piece.Open)
    × AreArguments words which (at + 2) close operands × (piece_at words close ≡ piece.Close) × (end ≡ close + 1)

-- MSG ( ) or MSG ( text )
abbrev pub IsMsg : WordsView → ℕ → ℕ → Type 0
IsMsg words at end =
    (close : ℕ) × IsKeyword words at (codes "MSG") × (piece_at words (at + 1) ≡ piece.Open)
    × ((close ≡ at + 2) ⊎ ((piece_at words (at + 2) ≡ piece.Text) × (close ≡ at + 3)))
    × (piece_at words close ≡ piece.Close) × (end ≡ close + 1)

-- SETMS, or SETMS ( expr )
abbrev pub IsSetms : WordsView → ℕ → ℕ → Type 0
IsSetms words at end =
    IsKeyword words at (codes "SETMS") × ((end ≡ at + 1) ⊎ ((t : Tree) × IsEnclosed words (at + 1) end t))

-- WORKPIECE ( and anything that breaks no form and ) at the end of the line
abbrev pub IsWorkpiece : WordsView → ℕ → ℕ → Type 0
IsWorkpiece words at end =
    (close : ℕ) × IsKeyword words at (codes "WORKPIECE") × (piece_at words (at + 1) ≡ piece.Open) × (at + 1 < close)
    × ((place : ℕ) → at + 1 < place → place < close → ¬ (piece_at words place ≡ piece.Broken))
    × (piece_at words close ≡ piece.Close) × (end ≡ close + 1) × (end ≡ length words.tokens)

-- a block that does nothing
abbrev pub IsMessage : WordsView → ℕ → ℕ → Type 0
IsMessage words at end =
    IsMsg words at end ⊎ (IsAlone words at end (codes "STOPRE") ⊎ (IsSetms words at end ⊎ IsWorkpiece words at end))
