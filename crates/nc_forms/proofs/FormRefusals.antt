-- WordsView: coordination, frames and messages are refused with codes of the list.
use Rattle.std.proofs.Common.{ℕ, ◌+◌, Bool, true, false, List, [], ◌∷◌, length, Option, Some, None}
use Rattle.block_scanner.specs.declared.Token.{Token}
use Rattle.block_scanner.specs.WordsView.{WordsView}
use Rattle.nc_expressions.specs.Tree.{Tree}
use Rattle.nc_blocks.specs.declared.blocks.CoordWord.{CoordWord}
use Rattle.nc_blocks.specs.declared.blocks.FrameWord.{FrameWord}
use Rattle.nc_blocks.specs.declared.pieces.Piece.{Piece}
use Rattle.nc_blocks.specs.declared.pieces.Piece.TheVariants as piece
use Rattle.nc_blocks.specs.Pieces.{piece_at}
use Rattle.nc_blocks.specs.AxisNames.{has_axis_name}
use Rattle.nc_blocks.specs.Statement.{Statement}
use Rattle.nc_blocks.proofs.Refusals.{Listed, found, refuses, unreadable, not_alone, transformed, bound, chosen, code_listed, end_listed, assign_listed, open_listed, close_listed, comma_listed, expression_listed, constant_listed, list_listed}
use Rattle.nc_forms.specs.declared.coordination.ArgumentKind.{ArgumentKind}
use Rattle.nc_forms.specs.declared.coordination.ArgumentKind.TheVariants as argument
use Rattle.nc_forms.specs.LineEnds.{statement_alone}
use Rattle.nc_forms.specs.Frames.{axis_of, frame_value, frame_word, frame_word_at, shape_form, turn_end, angle_at, turn_form}
use Rattle.nc_forms.specs.Coordination.{separator_of, separator_at, value_argument_at, argument_at, axis_of_piece, axis_at, axis_argument_at, arguments_form, clear_form, quoted_at, wait_at, wait_after, last_of_init, opened_value, init_form, cprot_form, msg_form, enclosed_at, setms_form, after_text, after_last, last_close, workpiece_form, coordination_form}
use Rattle.nc_blocks.specs.declared.blocks.CoordWord.TheVariants as coord

-- what stands alone, loops, repetitions and calls

pub alone_listed : (words : WordsView) (at : ℕ) (s : Statement) → Listed (statement_alone words at s)
unfolding statement_alone
alone_listed words at s = bound _ _ (end_listed words at) (λ end. found _)

-- frames

pub frame_value_listed : (words : WordsView) (at : ℕ) → Listed (frame_value words at)
unfolding frame_value
frame_value_listed words at = chosen _ _ _ (expression_listed words (at + 1)) (bound _ _ (constant_listed words at 22 unreadable) (λ p. found _))

pub frame_word_listed : (words : WordsView) (before : List (ℕ × Tree)) (at : ℕ) (axis : Option ℕ) → Listed (frame_word words before at axis)
frame_word_listed words before at None = refuses (code_listed words at 24 not_alone)
frame_word_listed words before at (Some axis) = chosen _ _ _ (refuses unreadable) (bound _ _ (frame_value_listed words (at + 1)) (λ p. found _))

pub frame_item_listed : (words : WordsView) (before : List (ℕ × Tree)) (at : ℕ) → Listed (frame_word_at words before at)
unfolding frame_word_at
frame_item_listed words before at = frame_word_listed words before at (axis_of (piece_at words at))

pub shape_listed : (words : WordsView) (which : FrameWord) (at : ℕ) → Listed (shape_form words which at)
unfolding shape_form
shape_listed words which at = chosen _ _ _ (found _) (bound _ _ (list_listed (frame_word_at words) words at (frame_item_listed words)) (λ p. found _))

pub turn_end_listed : (words : WordsView) (at : ℕ) → Listed (turn_end words at)
unfolding turn_end
turn_end_listed words at = chosen _ _ _ (refuses transformed) (end_listed words at)

pub angle_listed : (words : WordsView) (at : ℕ) → Listed (angle_at words at)
unfolding angle_at
angle_listed words at =
    chosen _ _ _ (bound _ _ (assign_listed words (at + 1) 22 unreadable) (λ following. bound _ _ (expression_listed words following) (λ p. found _))) (found _)

pub turn_listed : (words : WordsView) (more : Bool) (at : ℕ) → Listed (turn_form words more at)
unfolding turn_form
turn_listed words more at = bound _ _ (angle_listed words at) (λ angle. bound _ _ (turn_end_listed words angle.1) (λ end. found _))

-- coordination and messages

pub piece_separator : (p : Piece) (next : ℕ) → Listed (separator_of p next)
piece_separator piece.Comma next = found _
piece_separator piece.Close next = found _
piece_separator one next = refuses unreadable

pub separator_listed : (words : WordsView) (at : ℕ) → Listed (separator_at words at)
unfolding separator_at
separator_listed words at = piece_separator (piece_at words at) (at + 1)

pub value_argument_listed : (words : WordsView) (at : ℕ) → Listed (value_argument_at words at)
unfolding value_argument_at
value_argument_listed words at = bound _ _ (expression_listed words at) (λ p. bound _ _ (separator_listed words p.1) (λ q. found _))

pub piece_axis : (words : WordsView) (at : ℕ) (p : Piece) → Listed (axis_of_piece words at p)
piece_axis words at (piece.Letter letter) = chosen (has_axis_name words at) _ _ (found _) (chosen _ _ _ (found (letter ∷ [], at + 1)) (refuses unreadable))
piece_axis words at one = refuses unreadable

pub axis_argument_listed : (words : WordsView) (at : ℕ) → Listed (axis_argument_at words at)
unfolding axis_argument_at axis_at
axis_argument_listed words at = bound _ _ (piece_axis words at (piece_at words at)) (λ p. bound _ _ (separator_listed words p.1) (λ q. found _))

kind_listed : (words : WordsView) (kind : ArgumentKind) (at : ℕ) → Listed (argument_at words kind at)
kind_listed words argument.Value at = value_argument_listed words at
kind_listed words argument.Axis at = axis_argument_listed words at

pub arguments_listed : (words : WordsView) (kind : ArgumentKind) (which : CoordWord) (at : ℕ) → Listed (arguments_form words kind which at)
unfolding arguments_form
arguments_listed words kind which at =
    bound _ _ (open_listed words at 22 unreadable)
    (λ first. bound _ _ (list_listed (λ before. argument_at words kind) words first (λ before. kind_listed words kind)) (λ p. alone_listed words p.1 _))

pub clear_listed : (words : WordsView) (which : CoordWord) (at : ℕ) → Listed (clear_form words which at)
unfolding clear_form
clear_listed words which at =
    chosen _ _ _ (bound _ _ (open_listed words at 22 unreadable) (λ first. alone_listed words (at + 2) _)) (arguments_listed words argument.Value which at)

pub quoted_listed : (words : WordsView) (at : ℕ) → Listed (quoted_at words at)
unfolding quoted_at
quoted_listed words at = chosen _ _ _ (found _) (refuses unreadable)

pub wait_listed : (words : WordsView) (at : ℕ) → Listed (wait_at words at)
unfolding wait_at
wait_listed words at = bound _ _ (quoted_listed words at) (λ text. chosen _ _ _ (found _) (refuses unreadable))

pub after_wait : (words : WordsView) (q : Bool × ℕ) → Listed (wait_after words q)
after_wait words (false, next) = found _
after_wait words (true, next) = bound _ _ (wait_listed words next) (λ text. bound _ _ (close_listed words (next + 1) 22 unreadable) (λ end. found _))

pub last_of_init_listed : (words : WordsView) (at : ℕ) → Listed (last_of_init words at)
unfolding last_of_init
last_of_init_listed words at = bound _ _ (separator_listed words at) (λ q. after_wait words q)

pub opened_listed : (words : WordsView) (at : ℕ) → Listed (opened_value words at)
unfolding opened_value
opened_listed words at =
    bound _ _ (open_listed words at 22 unreadable) (λ first. bound _ _ (expression_listed words first) (λ p. bound _ _ (comma_listed words p.1) (λ following. found _)))

pub init_listed : (words : WordsView) (which : CoordWord) (at : ℕ) → Listed (init_form words which at)
unfolding init_form
init_listed words which at =
    bound _ _ (opened_listed words at)
    (λ channel. bound _ _ (quoted_listed words channel.1) (λ program. bound _ _ (last_of_init_listed words (channel.1 + 1)) (λ more. alone_listed words more.1 _)))

pub cprot_listed : (words : WordsView) (which : CoordWord) (at : ℕ) → Listed (cprot_form words which at)
unfolding cprot_form
cprot_listed words which at =
    bound _ _ (opened_listed words at)
    (λ zone. bound _ _ (expression_listed words zone.1) (λ state. bound _ _ (close_listed words state.1 22 unreadable) (λ end. alone_listed words end _)))

pub msg_listed : (words : WordsView) (at : ℕ) → Listed (msg_form words at)
unfolding msg_form
msg_listed words at =
    bound _ _ (open_listed words at 22 unreadable) (λ first. bound _ _ (close_listed words (after_text words first) 22 unreadable) (λ end. alone_listed words end _))

pub enclosed_listed : (words : WordsView) (at : ℕ) → Listed (enclosed_at words at)
unfolding enclosed_at
enclosed_listed words at =
    bound _ _ (open_listed words at 22 unreadable) (λ first. bound _ _ (expression_listed words first) (λ p. close_listed words p.1 22 unreadable))

pub setms_listed : (words : WordsView) (at : ℕ) → Listed (setms_form words at)
unfolding setms_form
setms_listed words at = chosen _ _ _ (bound _ _ (enclosed_listed words at) (λ end. alone_listed words end _)) (alone_listed words at _)

pub after_last_listed : (all : ℕ) (back : Option ℕ) → Listed (after_last all back)
after_last_listed all (Some back) = found _
after_last_listed all None = refuses unreadable

pub last_close_listed : (tokens : List Token) → Listed (last_close tokens)
unfolding last_close
last_close_listed tokens = after_last_listed (length tokens) _

pub workpiece_listed : (words : WordsView) (at : ℕ) → Listed (workpiece_form words at)
unfolding workpiece_form
workpiece_listed words at =
    bound _ _ (open_listed words at 22 unreadable)
    (λ first. bound _ _ (last_close_listed words.tokens) (λ end. chosen _ _ _ (refuses unreadable) (alone_listed words end _)))

pub coordination_listed : (words : WordsView) (which : CoordWord) (at : ℕ) → Listed (coordination_form words which at)
unfolding coordination_form
coordination_listed words coord.ClearM at = clear_listed words coord.ClearM at
coordination_listed words coord.Init at = init_listed words coord.Init at
coordination_listed words coord.CProt at = cprot_listed words coord.CProt at
coordination_listed words coord.Release at = arguments_listed words argument.Axis coord.Release at
coordination_listed words coord.Get at = arguments_listed words argument.Axis coord.Get at
coordination_listed words which at = arguments_listed words argument.Value which at
