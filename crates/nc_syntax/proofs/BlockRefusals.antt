-- Each refusal of a block has one of the codes of blocks.
use Rattle.std.proofs.Common.{ℕ, ◌+◌, Bool, true, false, List, Option, Some, None, Result, refl}
use Rattle.std.specs.Prelude.{IfErr}
use Rattle.block_scanner.specs.WordsView.{WordsView}
use Rattle.nc_expressions.specs.declared.faults.SyntaxFault.{SyntaxFault}
use Rattle.nc_blocks.specs.declared.blocks.Block.{Block}
use Rattle.nc_blocks.specs.declared.pieces.Piece.{Piece}
use Rattle.nc_blocks.specs.declared.pieces.Piece.TheVariants as piece
use Rattle.nc_expressions.specs.NameTexts.{name_of}
use Rattle.nc_blocks.specs.Pieces.{piece_at, text_at}
use Rattle.nc_blocks.specs.Reading.{Gives}
use Rattle.nc_blocks.specs.Refusals.{block_refusals, IsBlockRefusal, IsListed}
use Rattle.nc_blocks.specs.Statement.{BlockView, view_of}
use Rattle.nc_blocks.proofs.Refusals.{Listed, found, refuses, bound, chosen, given, block_number_listed}
use Rattle.nc_blocks.proofs.WordRefusals.{words_listed}
use Rattle.nc_syntax.specs.declared.bodies.Control.{Control}
use Rattle.nc_syntax.specs.declared.bodies.Control.TheVariants as control
use Rattle.nc_syntax.specs.declared.bodies.Form.{Form}
use Rattle.nc_syntax.specs.declared.bodies.Form.TheVariants as form
use Rattle.nc_syntax.specs.Bodies.{form_of, control_form, form_body, named_form, named_body, lettered_body, body_of, body_at}
use Rattle.nc_syntax.specs.Blocks.{skip_of, number_at, label_at, head_of, block_of, unless_refused, statement_of}
use Rattle.nc_forms.proofs.FormRefusals.{alone_listed, shape_listed, turn_listed, msg_listed, setms_listed, workpiece_listed, coordination_listed}
use Rattle.nc_syntax.proofs.FormRefusals.{last_expression_listed, for_listed, repeat_listed, repeat_block_listed, call_listed, number_call_listed, proc_listed, if_listed, jump_form_listed, case_listed}
use Rattle.nc_syntax.proofs.RefusedWords.{Named, word_named}

control_listed : (words : WordsView) (which : Control) (at : ℕ) → Listed (control_form words which at)
unfolding control_form
control_listed words control.If at = if_listed words at
control_listed words control.Else at = alone_listed words at _
control_listed words control.EndIf at = alone_listed words at _
control_listed words control.While at = bound _ _ (last_expression_listed words at) (λ t. found _)
control_listed words control.EndWhile at = alone_listed words at _
control_listed words control.Until at = bound _ _ (last_expression_listed words at) (λ t. found _)
control_listed words control.Loop at = alone_listed words at _
control_listed words control.EndLoop at = alone_listed words at _
control_listed words control.For at = for_listed words at
control_listed words control.EndFor at = alone_listed words at _
control_listed words control.Case at = case_listed words at
control_listed words control.Repeat at = repeat_listed words at
control_listed words control.RepeatBlock at = repeat_block_listed words at
control_listed words control.Return at = alone_listed words at _
control_listed words control.Proc at = proc_listed words at

form_listed : (words : WordsView) (which : Form) (at : ℕ) → Listed (form_body words which at)
unfolding form_body
form_listed words (form.Jump way) at = jump_form_listed words way at
form_listed words (form.Control which) at = control_listed words which at
form_listed words (form.Shape which) at = shape_listed words which at
form_listed words (form.Turn more) at = turn_listed words more at
form_listed words (form.Coord which) at = coordination_listed words which at
form_listed words form.Msg at = msg_listed words at
form_listed words form.Stopre at = alone_listed words at _
form_listed words form.Setms at = setms_listed words at
form_listed words form.Workpiece at = workpiece_listed words at

named_listed : (words : WordsView) (which : Option Form) (text : List ℕ) (at : ℕ) → Listed (named_form words which text at)
named_listed words (Some which) text at = form_listed words which (at + 1)
named_listed words None text at = chosen _ _ _ (words_listed words at) (call_listed words (name_of text) (at + 1))

piece_body : (words : WordsView) (at : ℕ) (p : Piece) → Listed (body_of words at p)
unfolding named_body lettered_body
piece_body words at piece.End = found _
piece_body words at piece.Name = named_listed words (form_of (text_at words at)) (text_at words at) at
piece_body words at (piece.Letter letter) = chosen _ _ _ (number_call_listed words (at + 1)) (words_listed words at)
piece_body words at one = words_listed words at

body_listed : (words : WordsView) (at : ℕ) → Listed (body_at words at)
unfolding body_at
body_listed words at = piece_body words at (piece_at words at)

skip_listed : (words : WordsView) → Listed (skip_of words)
unfolding skip_of IsBlockRefusal block_refusals
skip_listed words = chosen _ _ _ (chosen _ _ _ (refuses refl) (found _)) (found _)

number_listed : (words : WordsView) (at : ℕ) → Listed (number_at words at)
unfolding number_at
number_listed words at = chosen _ _ _ (bound _ _ (block_number_listed words (at + 1)) (λ n. found _)) (found _)

head_listed : (words : WordsView) → Listed (head_of words)
unfolding head_of
head_listed words = bound _ _ (skip_listed words) (λ skip. bound _ _ (number_listed words skip.1) (λ number. found _))

block_listed : (words : WordsView) → Listed (block_of words)
unfolding block_of
block_listed words = bound _ _ (head_listed words) (λ head. bound _ _ (body_listed words (label_at words head.2).1) (λ s. found _))

unless_listed : (word : Option ℕ) (large : Bool) (read : Result BlockView ℕ) → Named word → Listed read → Listed (unless_refused word large read)
unfolding IsBlockRefusal block_refusals
unless_listed (Some code) large read h k = refuses h.code
unless_listed None true read h k = refuses refl
unless_listed None false read h k = k

statement_listed : (words : WordsView) (compensation : Bool) → Listed (statement_of words compensation)
unfolding statement_of
statement_listed words compensation =
    unless_listed _ _ (block_of words) (word_named compensation words.line words.tokens) (block_listed words)

pub refusals_listed : (words : WordsView) (compensation : Bool) (r : Result Block SyntaxFault) → Gives view_of (statement_of words compensation) r → IfErr r IsListed
refusals_listed words compensation r h = given view_of (statement_of words compensation) r h (statement_listed words compensation)
