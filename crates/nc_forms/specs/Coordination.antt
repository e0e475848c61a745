-- Meaning. Coordination and messages.
use Rattle.std.specs.Prelude.{ℕ, zero, suc, ◌+◌, ◌-◌, ◌==◌, ◌||◌, Bool, true, false, List, [], ◌∷◌, length, Option, Some, None, Result, Ok, Err, reverse, position, if◌then◌else◌, codes}
use Rattle.std.specs.Str.{bytes_eq}
use Rattle.block_scanner.specs.declared.Token.{Token}
use Rattle.block_scanner.specs.WordsView.{WordsView}
use Rattle.nc_blocks.specs.declared.blocks.CoordWord.{CoordWord}
use Rattle.nc_blocks.specs.declared.pieces.Piece.{Piece}
use Rattle.nc_blocks.specs.declared.pieces.Piece.TheVariants as piece
use Rattle.nc_blocks.specs.Pieces.{piece_at, text_at, is_text}
use Rattle.nc_blocks.specs.Texts.{text_within_quotes}
use Rattle.nc_blocks.specs.AxisNames.{has_axis_name}
use Rattle.nc_blocks.specs.Marks.{open_at, close_at, comma_at}
use Rattle.nc_expressions.specs.Value.{◌>>=◌}
use Rattle.nc_blocks.specs.Reading.{expression_at}
use Rattle.nc_blocks.specs.Lists.{Item, list_at}
use Rattle.nc_forms.specs.declared.coordination.ArgumentKind.{ArgumentKind}
use Rattle.nc_forms.specs.declared.coordination.ArgumentKind.TheVariants as argument
use Rattle.nc_forms.specs.LineEnds.{statement_alone}
use Rattle.nc_forms.specs.Parentheses.{is_close, is_open, is_close_kind}
use Rattle.nc_blocks.specs.Statement.{Statement, Coord, Message, OperandView, Value, Text, AxisName}
use Rattle.nc_blocks.specs.declared.blocks.CoordWord.TheVariants as coord

abbrev pub separator_of : Piece → ℕ → Result (Bool × ℕ) ℕ
separator_of piece.Comma next = Ok (true, next)
separator_of piece.Close next = Ok (false, next)
separator_of one next = Err 22

-- after an argument a comma stands, and another one follows, or `)`
unfoldable pub separator_at : WordsView → ℕ → Result (Bool × ℕ) ℕ
separator_at words at = separator_of (piece_at words at) (at + 1)

-- an argument that is an expression
unfoldable pub value_argument_at : WordsView → ℕ → Result (Item OperandView) ℕ
value_argument_at words at = do
  p ← expression_at words at
  q ← separator_at words p.1
  Ok (Value p.0, q.0, q.1)

abbrev pub axis_of_piece : WordsView → ℕ → Piece → Result (List ℕ × ℕ) ℕ
axis_of_piece words at (piece.Letter b) =
    if has_axis_name words at then Ok (b ∷ text_at words (at + 1), at + 2)
    else if (b == 88) || (b == 89) || (b == 90) then Ok (b ∷ [], at + 1)
    else Err 22
axis_of_piece words at one = Err 22

-- an axis name, or a slot letter: X, Y or Z; and the place after it
unfoldable pub axis_at : WordsView → ℕ → Result (List ℕ × ℕ) ℕ
axis_at words at = axis_of_piece words at (piece_at words at)

-- an argument that is an axis
unfoldable pub axis_argument_at : WordsView → ℕ → Result (Item OperandView) ℕ
axis_argument_at words at = do
  p ← axis_at words at
  q ← separator_at words p.1
  Ok (AxisName p.0, q.0, q.1)

-- an argument of this kind
abbrev pub argument_at : WordsView → ArgumentKind → ℕ → Result (Item OperandView) ℕ
argument_at words argument.Value at = value_argument_at words at
argument_at words argument.Axis at = axis_argument_at words at

-- ( and one argument or more of this kind, and ), after which nothing stands
unfoldable pub arguments_form : WordsView → ArgumentKind → CoordWord → ℕ → Result Statement ℕ
arguments_form words kind which at = do
  first ← open_at words at 22
  p ← list_at (λ before. argument_at words kind) words first
  statement_alone words p.1 (Coord which p.0)

-- CLEARM, after its name: its parentheses may be empty
unfoldable pub clear_form : WordsView → CoordWord → ℕ → Result Statement ℕ
clear_form words which at =
    if is_close (piece_at words (at + 1))
    then (open_at words at 22 >>= λ first. statement_alone words (at + 2) (Coord which []))
    else arguments_form words argument.Value which at

-- the text at a place
unfoldable pub quoted_at : WordsView → ℕ → Result (List ℕ) ℕ
quoted_at words at = if is_text (piece_at words at) then Ok (text_within_quotes (text_at words at)) else Err 22

-- the texts "N" and "S"
abbrev pub is_wait : List ℕ → Bool
is_wait text = bytes_eq text (codes "N") || bytes_eq text (codes "S")

-- the third argument of INIT: "N" or "S", as written
unfoldable pub wait_at : WordsView → ℕ → Result (List ℕ) ℕ
wait_at words at = quoted_at words at >>= λ text. if is_wait text then Ok text else Err 22

abbrev pub wait_after : WordsView → Bool × ℕ → Result (Option (List ℕ) × ℕ) ℕ
wait_after words (false, next) = Ok (None, next)
wait_after words (true, next) = wait_at words next >>= λ text. close_at words (next + 1) 22 >>= λ end. Ok (Some text, end)

-- ) or a third argument and ), and the place after
unfoldable pub last_of_init : WordsView → ℕ → Result (Option (List ℕ) × ℕ) ℕ
last_of_init words at = separator_at words at >>= λ q. wait_after words q

abbrev pub third : Option (List ℕ) → List OperandView
third None = []
third (Some text) = Text text ∷ []

-- ( expr ,
unfoldable pub opened_value : WordsView → ℕ → Result (OperandView × ℕ) ℕ
opened_value words at = do
  first ← open_at words at 22
  p ← expression_at words first
  following ← comma_at words p.1
  Ok (Value p.0, following)

-- INIT, after its name
unfoldable pub init_form : WordsView → CoordWord → ℕ → Result Statement ℕ
init_form words which at = do
  channel ← opened_value words at
  program ← quoted_at words channel.1
  more ← last_of_init words (channel.1 + 1)
  statement_alone words more.1 (Coord which (channel.0 ∷ Text program ∷ third more.0))

-- CPROT, after its name
unfoldable pub cprot_form : WordsView → CoordWord → ℕ → Result Statement ℕ
cprot_form words which at = do
  zone ← opened_value words at
  state ← expression_at words zone.1
  end ← close_at words state.1 22
  statement_alone words end (Coord which (zone.0 ∷ Value state.0 ∷ []))

-- the place after a text, if one stands there
abbrev pub after_text : WordsView → ℕ → ℕ
after_text words at = if is_text (piece_at words at) then at + 1 else at

-- MSG, after its name
unfoldable pub msg_form : WordsView → ℕ → Result Statement ℕ
msg_form words at = do
  first ← open_at words at 22
  end ← close_at words (after_text words first) 22
  statement_alone words end Message

-- ( expr ), and the place after
unfoldable pub enclosed_at : WordsView → ℕ → Result ℕ ℕ
enclosed_at words at = do
  first ← open_at words at 22
  p ← expression_at words first
  close_at words p.1 22

-- SETMS, after its name
unfoldable pub setms_form : WordsView → ℕ → Result Statement ℕ
setms_form words at =
    if is_open (piece_at words at) then (enclosed_at words at >>= λ end. statement_alone words end Message) else statement_alone words at Message

-- the place after the last `)` of a line
abbrev pub after_last : ℕ → Option ℕ → Result ℕ ℕ
after_last all (Some back) = Ok (all - back)
after_last all None = Err 22

unfoldable pub last_close : List Token → Result ℕ ℕ
last_close tokens = after_last (length tokens) (position (λ token. is_close_kind token.kind) (reverse tokens))

abbrev pub is_broken : Piece → Bool
is_broken piece.Broken = true
is_broken one = false

-- something that fits no form stands at one of so many places
unfoldable pub has_broken : WordsView → ℕ → ℕ → Bool
has_broken words at zero = false
has_broken words at (suc more) = is_broken (piece_at words at) || has_broken words (at + 1) more

-- WORKPIECE, after its name: ( and anything up to the last `)` of the line
unfoldable pub workpiece_form : WordsView → ℕ → Result Statement ℕ
workpiece_form words at = do
  first ← open_at words at 22
  end ← last_close words.tokens
  if has_broken words first (end - first) then Err 22 else statement_alone words end Message

-- the form of a coordination word, after its name
unfoldable pub coordination_form : WordsView → CoordWord → ℕ → Result Statement ℕ
coordination_form words coord.WaitM at = arguments_form words argument.Value coord.WaitM at
coordination_form words coord.WaitMC at = arguments_form words argument.Value coord.WaitMC at
coordination_form words coord.SetM at = arguments_form words argument.Value coord.SetM at
coordination_form words coord.ClearM at = clear_form words coord.ClearM at
coordination_form words coord.Init at = init_form words coord.Init at
coordination_form words coord.Start at = arguments_form words argument.Value coord.Start at
coordination_form words coord.WaitE at = arguments_form words argument.Value coord.WaitE at
coordination_form words coord.Release at = arguments_form words argument.Axis coord.Release at
coordination_form words coord.Get at = arguments_form words argument.Axis coord.Get at
coordination_form words coord.CProt at = cprot_form words coord.CProt at
