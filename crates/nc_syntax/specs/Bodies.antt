-- Meaning. What the body of a block says: its first token chooses the form.
use Rattle.std.specs.Prelude.{ℕ, ◌+◌, ◌==◌, ◌&&◌, Bool, true, false, List, Option, Some, None, Result, Ok, if◌then◌else◌, codes}
use Rattle.std.specs.Option.{option_or}
use Rattle.block_scanner.specs.WordsView.{WordsView}
use Rattle.name_tables.specs.Tables.{is_table_word}
use Rattle.nc_expressions.specs.Symbols.{is_word}
use Rattle.nc_blocks.specs.declared.blocks.CoordWord.TheVariants as coord
use Rattle.nc_blocks.specs.declared.blocks.FrameWord.TheVariants as frame
use Rattle.nc_blocks.specs.declared.blocks.Way.{Way}
use Rattle.nc_syntax.specs.declared.bodies.Control.{Control}
use Rattle.nc_syntax.specs.declared.bodies.Control.TheVariants as control
use Rattle.nc_syntax.specs.declared.bodies.Form.{Form}
use Rattle.nc_syntax.specs.declared.bodies.Form.TheVariants as form
use Rattle.nc_blocks.specs.declared.pieces.Piece.{Piece}
use Rattle.nc_blocks.specs.declared.pieces.Piece.TheVariants as piece
use Rattle.nc_expressions.specs.NameTexts.{name_of}
use Rattle.nc_blocks.specs.Pieces.{piece_at, text_at}
use Rattle.nc_expressions.specs.Value.{◌>>=◌}
use Rattle.nc_syntax.specs.Jumps.{way_of, jump_form, if_form, case_form}
use Rattle.nc_forms.specs.LineEnds.{statement_alone}
use Rattle.nc_syntax.specs.Structures.{last_expression, for_form, repeat_form, repeat_block_form, call_form, number_call_form, proc_form}
use Rattle.nc_forms.specs.Frames.{shape_form, turn_form}
use Rattle.nc_forms.specs.Coordination.{msg_form, setms_form, workpiece_form, coordination_form}
use Rattle.nc_blocks.specs.Wording.{words_form}
use Rattle.nc_blocks.specs.Statement.{Statement, Empty, Else, EndIf, While, EndWhile, Until, Loop, EndLoop, EndFor, Return, Message}

abbrev pub jump_name : Option Way → Option Form
jump_name (Some way) = Some (form.Jump way)
jump_name None = None

unfoldable pub structure_name : List ℕ → Option Form
structure_name text =
    if is_word text (codes "IF") then Some (form.Control control.If)
    else if is_word text (codes "ELSE") then Some (form.Control control.Else)
    else if is_word text (codes "ENDIF") then Some (form.Control control.EndIf)
    else if is_word text (codes "WHILE") then Some (form.Control control.While)
    else if is_word text (codes "ENDWHILE") then Some (form.Control control.EndWhile)
    else if is_word text (codes "UNTIL") then Some (form.Control control.Until)
    else if is_word text (codes "LOOP") then Some (form.Control control.Loop)
    else if is_word text (codes "ENDLOOP") then Some (form.Control control.EndLoop)
    else if is_word text (codes "FOR") then Some (form.Control control.For)
    else if is_word text (codes "ENDFOR") then Some (form.Control control.EndFor)
    else None

unfoldable pub control_name : List ℕ → Option Form
control_name text =
    if is_word text (codes "CASE") then Some (form.Control control.Case)
    else if is_word text (codes "REPEAT") then Some (form.Control control.Repeat)
    else if is_word text (codes "REPEATB") then Some (form.Control control.RepeatBlock)
    else if is_word text (codes "RET") then Some (form.Control control.Return)
    else if is_word text (codes "PROC") then Some (form.Control control.Proc)
    else if is_word text (codes "MSG") then Some form.Msg
    else if is_word text (codes "STOPRE") then Some form.Stopre
    else if is_word text (codes "SETMS") then Some form.Setms
    else if is_word text (codes "WORKPIECE") then Some form.Workpiece
    else None

unfoldable pub frame_name : List ℕ → Option Form
frame_name text =
    if is_word text (codes "TRANS") then Some (form.Shape frame.Trans)
    else if is_word text (codes "ATRANS") then Some (form.Shape frame.Atrans)
    else if is_word text (codes "SCALE") then Some (form.Shape frame.Scale)
    else if is_word text (codes "ASCALE") then Some (form.Shape frame.Ascale)
    else if is_word text (codes "MIRROR") then Some (form.Shape frame.Mirror)
    else if is_word text (codes "AMIRROR") then Some (form.Shape frame.Amirror)
    else if is_word text (codes "ROT") then Some (form.Turn false)
    else if is_word text (codes "AROT") then Some (form.Turn true)
    else None

unfoldable pub coordination_name : List ℕ → Option Form
coordination_name text =
    if is_word text (codes "WAITM") then Some (form.Coord coord.WaitM)
    else if is_word text (codes "WAITMC") then Some (form.Coord coord.WaitMC)
    else if is_word text (codes "SETM") then Some (form.Coord coord.SetM)
    else if is_word text (codes "CLEARM") then Some (form.Coord coord.ClearM)
    else if is_word text (codes "INIT") then Some (form.Coord coord.Init)
    else if is_word text (codes "START") then Some (form.Coord coord.Start)
    else if is_word text (codes "WAITE") then Some (form.Coord coord.WaitE)
    else if is_word text (codes "RELEASE") then Some (form.Coord coord.Release)
    else if is_word text (codes "GET") then Some (form.Coord coord.Get)
    else if is_word text (codes "CPROT") then Some (form.Coord coord.CProt)
    else None

-- the form whose first name is this text
unfoldable pub form_of : List ℕ → Option Form
form_of text =
    option_or (jump_name (way_of text))
    (option_or (structure_name text) (option_or (control_name text) (option_or (frame_name text) (coordination_name text))))

-- the form of a control word, after its name
unfoldable pub control_form : WordsView → Control → ℕ → Result Statement ℕ
control_form words control.If at = if_form words at
control_form words control.Else at = statement_alone words at Else
control_form words control.EndIf at = statement_alone words at EndIf
control_form words control.While at = last_expression words at >>= λ t. Ok (While t)
control_form words control.EndWhile at = statement_alone words at EndWhile
control_form words control.Until at = last_expression words at >>= λ t. Ok (Until t)
control_form words control.Loop at = statement_alone words at Loop
control_form words control.EndLoop at = statement_alone words at EndLoop
control_form words control.For at = for_form words at
control_form words control.EndFor at = statement_alone words at EndFor
control_form words control.Case at = case_form words at
control_form words control.Repeat at = repeat_form words at
control_form words control.RepeatBlock at = repeat_block_form words at
control_form words control.Return at = statement_alone words at Return
control_form words control.Proc at = proc_form words at

-- a form, after its first name
unfoldable pub form_body : WordsView → Form → ℕ → Result Statement ℕ
form_body words (form.Jump way) at = jump_form words way at
form_body words (form.Control which) at = control_form words which at
form_body words (form.Shape which) at = shape_form words which at
form_body words (form.Turn more) at = turn_form words more at
form_body words (form.Coord which) at = coordination_form words which at
form_body words form.Msg at = msg_form words at
form_body words form.Stopre at = statement_alone words at Message
form_body words form.Setms at = setms_form words at
form_body words form.Workpiece at = workpiece_form words at

abbrev pub named_form : WordsView → Option Form → List ℕ → ℕ → Result Statement ℕ
named_form words (Some which) text at = form_body words which (at + 1)
named_form words None text at =
    if is_table_word text then words_form words at else call_form words (name_of text) (at + 1)

-- a body that begins with a name: a form, a call or a word block
unfoldable pub named_body : WordsView → List ℕ → ℕ → Result Statement ℕ
named_body words text at = named_form words (form_of text) text at

abbrev pub is_number : Piece → Bool
is_number (piece.Number z) = true
is_number one = false

-- a body that begins with this letter: L with digits is a call; 76 is 'L'
unfoldable pub lettered_body : WordsView → ℕ → ℕ → Result Statement ℕ
lettered_body words letter at =
    if (letter == 76) && is_number (piece_at words (at + 1)) then number_call_form words (at + 1) else words_form words at

abbrev pub body_of : WordsView → ℕ → Piece → Result Statement ℕ
body_of words at piece.End = Ok Empty
body_of words at piece.Name = named_body words (text_at words at) at
body_of words at (piece.Letter b) = lettered_body words b at
body_of words at one = words_form words at

-- the body from a place on
unfoldable pub body_at : WordsView → ℕ → Result Statement ℕ
body_at words at = body_of words at (piece_at words at)
