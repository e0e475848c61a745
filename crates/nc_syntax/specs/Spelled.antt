-- Law. Which block a line spells: what stands in it, form by form.
use Rattle.std.specs.Prelude.{◌≡◌, ℕ, ℤ, pos, ◌+◌, ◌*◌, ◌≤◌, ◌⊎◌, Bool, true, false, IsTrue, IsFalse, List, [], ◌∷◌, length, Option, Some, None, codes}
use Rattle.block_scanner.specs.WordsView.{WordsView}
use Rattle.word_tables.specs.LargeNumbers.{has_large_number}
use Rattle.word_tables.specs.Refused.{refused_word}
use Rattle.name_tables.specs.Tables.{is_table_word}
use Rattle.nc_expressions.specs.Symbols.{is_digits}
use Rattle.nc_expressions.specs.Tree.{Tree}
use Rattle.nc_blocks.specs.declared.blocks.JumpTo.{JumpTo}
use Rattle.nc_blocks.specs.declared.blocks.Target.{Target}
use Rattle.nc_blocks.specs.declared.blocks.Target.TheVariants as target
use Rattle.nc_blocks.specs.declared.blocks.Way.{Way}
use Rattle.nc_blocks.specs.declared.blocks.Way.TheVariants.{Forward, Backward, Either, Optional}
use Rattle.nc_blocks.specs.declared.pieces.Piece.TheVariants as piece
use Rattle.nc_blocks.specs.Pieces.{piece_at, text_at}
use Rattle.nc_forms.specs.Standing.{IsKeyword, IsExpressionText, IsSignedNumber, IsBlockNumber, IsIndex, IsEnclosed, IsAssigned, AreListed, IsAlone, IsNameOf}
use Rattle.nc_syntax.specs.SpelledWords.{IsWord}
use Rattle.nc_blocks.specs.Statement.{Statement, Empty, WordBlock, Jump, IfJump, If, Else, EndIf, While, EndWhile, Repeat, Until, Loop, EndLoop, For, EndFor, Case, RepeatFrom, RepeatBlock, Call, Return, Proc, Shape, Turn, Coord, Message, BlockView, WordView}
use Rattle.nc_forms.specs.SpelledForms.{IsAngle, IsCoordination, IsMessage, IsShape, turn_name}

abbrev pub way_name : Way → List ℕ
way_name Forward = codes "GOTOF"
way_name Backward = codes "GOTOB"
way_name Either = codes "GOTO"
way_name Optional = codes "GOTOC"

-- a name, or N with one to eight digits; 78 is 'N'
abbrev pub IsTarget : WordsView → ℕ → ℕ → Target → Type 0
IsTarget words at end (target.Label name) = IsNameOf words at name × (end ≡ at + 1)
IsTarget words at end (target.Number n) = (piece_at words at ≡ piece.Letter 78) × IsBlockNumber words (at + 1) n × (end ≡ at + 2)

abbrev pub IsJump : WordsView → ℕ → ℕ → JumpTo → Type 0
IsJump words at end jump = IsKeyword words at (way_name jump.way) × IsTarget words (at + 1) end jump.target

-- a number and a jump
abbrev pub IsPair : WordsView → ℕ → ℕ → ℤ × JumpTo → Type 0
IsPair words at end pair = (middle : ℕ) × IsSignedNumber words at middle pair.0 × IsJump words middle end pair.1

-- DEFAULT and a jump, or nothing
abbrev pub IsDefault : WordsView → ℕ → ℕ → Option JumpTo → Type 0
IsDefault words at end None = end ≡ at
IsDefault words at end (Some jump) = IsKeyword words at (codes "DEFAULT") × IsJump words (at + 1) end jump

-- CASE ( expr ) OF, one pair at least, and DEFAULT
abbrev pub IsCase : WordsView → ℕ → ℕ → Tree → List (ℤ × JumpTo) → Option JumpTo → Type 0
IsCase words at end t [] other = ⊥
IsCase words at end t (pair ∷ pairs) other =
    (middle : ℕ) × (last : ℕ) × IsKeyword words at (codes "CASE") × IsEnclosed words (at + 1) middle t × IsKeyword words middle (codes "OF")
    × AreListed (IsPair words) (middle + 1) last (pair ∷ pairs) × IsDefault words last end other

-- FOR R digits = expr TO expr; 82 is 'R'
abbrev pub IsFor : WordsView → ℕ → ℕ → ℕ → Tree → Tree → Type 0
IsFor words at end i first last =
    (middle : ℕ) × IsKeyword words at (codes "FOR") × (piece_at words (at + 1) ≡ piece.Letter 82) × IsIndex words (at + 2) i
    × IsAssigned words (at + 3) middle first × IsKeyword words middle (codes "TO") × IsExpressionText words (middle + 1) end last

-- P=expr, or nothing; 80 is 'P'
abbrev pub IsTimes : WordsView → ℕ → ℕ → Option Tree → Type 0
IsTimes words at end None = end ≡ at
IsTimes words at end (Some t) = (piece_at words at ≡ piece.Letter 80) × IsAssigned words (at + 1) end t

-- the name of a called program: a name of no table, or L with at most 31 digits; 76 is 'L'
abbrev pub IsProgramName : WordsView → ℕ → ℕ → List ℕ → Type 0
IsProgramName words at end name =
    (IsNameOf words at name × IsFalse (is_table_word (text_at words at)) × (end ≡ at + 1))
    ⊎ ((z : ℤ) × (piece_at words at ≡ piece.Letter 76) × (piece_at words (at + 1) ≡ piece.Number z) × IsTrue (is_digits (text_at words (at + 1)))
    × (length (text_at words (at + 1)) ≤ 31) × (name ≡ 76 ∷ text_at words (at + 1)) × (end ≡ at + 2))

-- ( ), or nothing
abbrev pub IsParentheses : WordsView → ℕ → ℕ → Type 0
IsParentheses words at end =
    (end ≡ at) ⊎ ((piece_at words at ≡ piece.Open) × (piece_at words (at + 1) ≡ piece.Close) × (end ≡ at + 2))

-- P with a whole number 1 to 9999, or nothing, which is 1; 80 is 'P'
abbrev pub IsPasses : WordsView → ℕ → ℕ → ℕ → Type 0
IsPasses words at end n =
    ((n ≡ 1) × (end ≡ at))
    ⊎ ((piece_at words at ≡ piece.Letter 80) × (piece_at words (at + 1) ≡ piece.Number (pos (n * 1000000))) × (1 ≤ n) × (n ≤ 9999) × (end ≡ at + 2))

abbrev pub IsCall : WordsView → ℕ → ℕ → List ℕ → ℕ → Type 0
IsCall words at end name n =
    (first : ℕ) × (middle : ℕ) × IsProgramName words at first name × IsParentheses words first middle × IsPasses words middle end n

-- PROC and a name, and DISPLOF or nothing
abbrev pub IsProc : WordsView → ℕ → ℕ → List ℕ → Type 0
IsProc words at end name =
    IsKeyword words at (codes "PROC") × IsNameOf words (at + 1) name
    × ((end ≡ at + 2) ⊎ (IsKeyword words (at + 2) (codes "DISPLOF") × (end ≡ at + 3)))

-- one word at least
abbrev pub AreWords : WordsView → ℕ → ℕ → List WordView → Type 0
AreWords words at end [] = ⊥
AreWords words at end (word ∷ more) = AreListed (IsWord words) at end (word ∷ more)

-- from one place up to another stands exactly the text of this statement
unfoldable pub IsSpelled : WordsView → ℕ → ℕ → Statement → Type 0
IsSpelled words at end Empty = end ≡ at
IsSpelled words at end (WordBlock list) = AreWords words at end list
IsSpelled words at end (Jump jump) = IsJump words at end jump
IsSpelled words at end (IfJump t jump) =
    (middle : ℕ) × IsKeyword words at (codes "IF") × IsExpressionText words (at + 1) middle t × IsJump words middle end jump
IsSpelled words at end (If t) = IsKeyword words at (codes "IF") × IsExpressionText words (at + 1) end t
IsSpelled words at end Else = IsAlone words at end (codes "ELSE")
IsSpelled words at end EndIf = IsAlone words at end (codes "ENDIF")
IsSpelled words at end (While t) = IsKeyword words at (codes "WHILE") × IsExpressionText words (at + 1) end t
IsSpelled words at end EndWhile = IsAlone words at end (codes "ENDWHILE")
IsSpelled words at end Repeat = IsAlone words at end (codes "REPEAT")
IsSpelled words at end (Until t) = IsKeyword words at (codes "UNTIL") × IsExpressionText words (at + 1) end t
IsSpelled words at end Loop = IsAlone words at end (codes "LOOP")
IsSpelled words at end EndLoop = IsAlone words at end (codes "ENDLOOP")
IsSpelled words at end (For i first last) = IsFor words at end i first last
IsSpelled words at end EndFor = IsAlone words at end (codes "ENDFOR")
IsSpelled words at end (Case t pairs other) = IsCase words at end t pairs other
IsSpelled words at end (RepeatFrom label times) =
    IsKeyword words at (codes "REPEAT") × IsNameOf words (at + 1) label × IsTimes words (at + 2) end times
IsSpelled words at end (RepeatBlock label times) =
    IsKeyword words at (codes "REPEATB") × IsNameOf words (at + 1) label × IsTimes words (at + 2) end times
IsSpelled words at end (Call name passes) = IsCall words at end name passes
IsSpelled words at end Return = IsAlone words at end (codes "RET")
IsSpelled words at end (Proc name) = IsProc words at end name
IsSpelled words at end (Shape which axes) = IsShape words at end which axes
IsSpelled words at end (Turn more angle) = IsKeyword words at (turn_name more) × IsAngle words (at + 1) end angle
IsSpelled words at end (Coord which operands) = IsCoordination words at end which operands
IsSpelled words at end Message = IsMessage words at end

-- /, or nothing
abbrev pub IsSkip : WordsView → ℕ → ℕ → Bool → Type 0
IsSkip words at end true = (piece_at words at ≡ piece.Slash) × (end ≡ at + 1)
IsSkip words at end false = end ≡ at

-- N with one to eight digits, or nothing; 78 is 'N'
abbrev pub IsNumber : WordsView → ℕ → ℕ → Option ℕ → Type 0
IsNumber words at end (Some n) = (piece_at words at ≡ piece.Letter 78) × IsBlockNumber words (at + 1) n × (end ≡ at + 2)
IsNumber words at end None = end ≡ at

-- a name and :, or nothing
abbrev pub IsLabel : WordsView → ℕ → ℕ → Option (List ℕ) → Type 0
IsLabel words at end (Some label) = IsNameOf words at label × (piece_at words (at + 1) ≡ piece.Colon) × (end ≡ at + 2)
IsLabel words at end None = end ≡ at

-- the tokens of a line are exactly the text of this block
unfoldable pub Spells : WordsView → BlockView → Type 0
Spells words block =
    (number : ℕ) × (label : ℕ) × (body : ℕ) × IsSkip words 0 number block.skip × IsNumber words number label block.number
    × IsLabel words label body block.label × IsSpelled words body (length words.tokens) block.statement

-- no refused word stands in the line, and no number that is out of range
abbrev pub IsAccepted : WordsView → Bool → Type 0
IsAccepted words compensation =
    (refused_word compensation words.line words.tokens ≡ None) × IsFalse (has_large_number words.line words.tokens)
