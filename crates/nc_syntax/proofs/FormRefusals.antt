-- Each refusal of a form has one of the codes of blocks.
use Rattle.std.proofs.Common.{ℕ, ◌+◌, ℤ, pos, negsuc, List, Option, Some, None}
use Rattle.block_scanner.specs.WordsView.{WordsView}
use Rattle.nc_expressions.specs.Tree.{Tree}
use Rattle.nc_blocks.specs.declared.blocks.Way.{Way}
use Rattle.nc_blocks.specs.declared.pieces.Piece.{Piece}
use Rattle.nc_blocks.specs.declared.pieces.Piece.TheVariants as piece
use Rattle.nc_blocks.specs.Pieces.{piece_at}
use Rattle.nc_blocks.proofs.Refusals.{Listed, found, refuses, unreadable, with_arguments, bound, chosen, code_listed, end_listed, assign_listed, open_listed, close_listed, keyword_listed, expression_listed, constant_listed, block_number_listed, index_listed, label_listed, list_listed}
use Rattle.nc_syntax.specs.Jumps.{way_at, target_of, target_at, jump_at, last_jump, if_after, if_form, jump_form, case_names, case_value, jump_of, named_jump, pair_at, default_at, case_form}
use Rattle.nc_syntax.specs.Structures.{last_expression, counter_at, first_value, for_form, times_at, repeat_form, repeat_block_form, parentheses_at, pass_count, count_of_piece, passes_at, call_passes, call_form, number_name, number_call_form, proc_form}
use Rattle.nc_forms.proofs.FormRefusals.{alone_listed}

pub last_expression_listed : (words : WordsView) (at : ℕ) → Listed (last_expression words at)
unfolding last_expression
last_expression_listed words at = bound _ _ (expression_listed words at) (λ p. bound _ _ (end_listed words p.1) (λ end. found _))

counter_listed : (words : WordsView) (at : ℕ) → Listed (counter_at words at)
unfolding counter_at
counter_listed words at =
    chosen _ _ _ (bound _ _ (index_listed words (at + 1) 22 unreadable) (λ i. bound _ _ (assign_listed words (at + 2) 22 unreadable) (λ following. found _))) (refuses unreadable)

first_listed : (words : WordsView) (at : ℕ) → Listed (first_value words at)
unfolding first_value
first_listed words at = bound _ _ (expression_listed words at) (λ p. bound _ _ (keyword_listed words p.1 _) (λ following. found _))

pub for_listed : (words : WordsView) (at : ℕ) → Listed (for_form words at)
unfolding for_form
for_listed words at =
    bound _ _ (counter_listed words at) (λ counter. bound _ _ (first_listed words counter.1) (λ first. bound _ _ (last_expression_listed words first.1) (λ last. found _)))

times_listed : (words : WordsView) (at : ℕ) → Listed (times_at words at)
unfolding times_at
times_listed words at =
    chosen _ _ _ (bound _ _ (assign_listed words (at + 1) 22 unreadable) (λ following. bound _ _ (last_expression_listed words following) (λ t. found _)))
    (bound _ _ (end_listed words at) (λ end. found _))

pub repeat_listed : (words : WordsView) (at : ℕ) → Listed (repeat_form words at)
unfolding repeat_form
repeat_listed words at = chosen _ _ _ (bound _ _ (times_listed words (at + 1)) (λ times. found _)) (alone_listed words at _)

pub repeat_block_listed : (words : WordsView) (at : ℕ) → Listed (repeat_block_form words at)
unfolding repeat_block_form
repeat_block_listed words at = bound _ _ (label_listed words at) (λ label. bound _ _ (times_listed words (at + 1)) (λ times. found _))

parentheses_listed : (words : WordsView) (at : ℕ) → Listed (parentheses_at words at)
unfolding parentheses_at
parentheses_listed words at = chosen _ _ _ (chosen _ _ _ (found _) (chosen _ _ _ (refuses (code_listed words (at + 1) 58 with_arguments)) (refuses unreadable))) (found _)

pass_count_listed : (z : ℤ) → Listed (pass_count z)
unfolding pass_count
pass_count_listed (pos n) = chosen _ _ _ (found _) (refuses unreadable)
pass_count_listed (negsuc n) = refuses unreadable

piece_count : (p : Piece) → Listed (count_of_piece p)
piece_count (piece.Number z) = pass_count_listed z
piece_count one = refuses unreadable

passes_listed : (words : WordsView) (at : ℕ) → Listed (passes_at words at)
unfolding passes_at
passes_listed words at =
    chosen _ _ _ (bound _ _ (piece_count (piece_at words (at + 1))) (λ n. bound _ _ (end_listed words (at + 2)) (λ end. found _)))
    (bound _ _ (end_listed words at) (λ end. found _))

pub call_listed : (words : WordsView) (name : List ℕ) (at : ℕ) → Listed (call_form words name at)
unfolding call_form call_passes
call_listed words name at = bound _ _ (bound _ _ (parentheses_listed words at) (λ following. passes_listed words following)) (λ passes. found _)

pub number_call_listed : (words : WordsView) (at : ℕ) → Listed (number_call_form words at)
unfolding number_call_form number_name
number_call_listed words at = bound _ _ (chosen _ _ _ (found _) (refuses unreadable)) (λ name. call_listed words name (at + 1))

pub proc_listed : (words : WordsView) (at : ℕ) → Listed (proc_form words at)
unfolding proc_form
proc_listed words at = bound _ _ (label_listed words at) (λ name. alone_listed words _ _)

-- jumps, IF and CASE

other_target : (words : WordsView) (at : ℕ) (p : Piece) → Listed (target_of words at p)
other_target words at piece.Name = found _
other_target words at (piece.Letter letter) = chosen _ _ _ (bound _ _ (block_number_listed words (at + 1)) (λ n. found _)) (refuses unreadable)
other_target words at one = refuses unreadable

jump_listed : (words : WordsView) (way : Way) (at : ℕ) → Listed (jump_at words way at)
unfolding jump_at target_at
jump_listed words way at = bound _ _ (other_target words at (piece_at words at)) (λ p. found _)

last_jump_listed : (words : WordsView) (way : Way) (at : ℕ) → Listed (last_jump words way at)
unfolding last_jump
last_jump_listed words way at = bound _ _ (jump_listed words way at) (λ p. bound _ _ (end_listed words p.1) (λ end. found _))

after_if : (words : WordsView) (t : Tree) (at : ℕ) (way : Option Way) → Listed (if_after words t at way)
after_if words t at (Some way) = bound _ _ (last_jump_listed words way (at + 1)) (λ jump. found _)
after_if words t at None = bound _ _ (end_listed words at) (λ end. found _)

pub if_listed : (words : WordsView) (at : ℕ) → Listed (if_form words at)
unfolding if_form
if_listed words at = bound _ _ (expression_listed words at) (λ p. after_if words p.0 p.1 (way_at words p.1))

pub jump_form_listed : (words : WordsView) (way : Way) (at : ℕ) → Listed (jump_form words way at)
unfolding jump_form
jump_form_listed words way at = bound _ _ (last_jump_listed words way at) (λ jump. found _)

case_value_listed : (words : WordsView) (at : ℕ) → Listed (case_value words at)
unfolding case_value case_names
case_value_listed words at =
    bound _ _ (open_listed words at 22 unreadable)
    (λ first. bound _ _ (expression_listed words first)
    (λ p. bound _ _ (bound _ _ (close_listed words p.1 22 unreadable) (λ closed. keyword_listed words closed _)) (λ following. found _)))

jump_of_listed : (words : WordsView) (way : Option Way) (at : ℕ) → Listed (jump_of words way at)
jump_of_listed words (Some way) at = jump_listed words way at
jump_of_listed words None at = refuses unreadable

named_listed : (words : WordsView) (at : ℕ) → Listed (named_jump words at)
unfolding named_jump
named_listed words at = jump_of_listed words (way_at words at) (at + 1)

pair_listed : (words : WordsView) (at : ℕ) → Listed (pair_at words at)
unfolding pair_at
pair_listed words at = bound _ _ (constant_listed words at 22 unreadable) (λ z. bound _ _ (named_listed words z.1) (λ jump. found _))

default_listed : (words : WordsView) (at : ℕ) → Listed (default_at words at)
unfolding default_at
default_listed words at =
    chosen _ _ _ (bound _ _ (named_listed words (at + 1)) (λ jump. bound _ _ (end_listed words jump.1) (λ end. found _)))
    (bound _ _ (end_listed words at) (λ end. found _))

pub case_listed : (words : WordsView) (at : ℕ) → Listed (case_form words at)
unfolding case_form
case_listed words at =
    bound _ _ (case_value_listed words at)
    (λ value. bound _ _ (list_listed (λ before. pair_at words) words value.1 (λ before. pair_listed words))
    (λ pairs. bound _ _ (default_listed words pairs.1) (λ other. found _)))
