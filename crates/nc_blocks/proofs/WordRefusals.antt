-- Each refusal of a word block has one of the codes of blocks.
use Rattle.std.proofs.Common.{ℕ, ◌+◌, Bool, true, false, List, [], ◌∷◌, Option, Some, None, Result, Err, Ok, cond}
use Rattle.block_scanner.specs.WordsView.{WordsView}
use Rattle.g_groups.specs.declared.GWord.{GWord}
use Rattle.word_tables.specs.GroupWords.{word_by_number}
use Rattle.nc_expressions.specs.Tree.{Tree}
use Rattle.nc_expressions.specs.Value.{◌>>=◌}
use Rattle.nc_blocks.specs.declared.blocks.Measure.{Measure}
use Rattle.nc_blocks.specs.declared.blocks.Measure.TheVariants.{Modal, Absolute, Incremental}
use Rattle.nc_blocks.specs.declared.pieces.Piece.{Piece}
use Rattle.nc_blocks.specs.declared.pieces.Piece.TheVariants as piece
use Rattle.nc_blocks.specs.Pieces.{piece_at, text_at, is_assign}
use Rattle.nc_blocks.specs.Marks.{word_code}
use Rattle.nc_blocks.specs.Statement.{WordView, Aux}
use Rattle.nc_blocks.specs.Wording.{assigned_at, bracketed_at, assignment_at, group_word, g_of_piece, g_at, enclosed_value, measure_and_value, measured_at, measured_word, letter_word, axis_word_at, slot_word_at, other_axis_at, aux_value, numbered_aux, aux_of, aux_at, bracket_at, spindle_at, name_code, name_word, lettered_word, word_of_piece, word_at, word_item_at, words_form}
use Rattle.nc_blocks.specs.Refusals.{IsBlockRefusal}
use Rattle.nc_blocks.proofs.Refusals.{Listed, found, refuses, unreadable, not_alone, unknown, no_word, bound, chosen, chosen_code, word_code_listed, assign_listed, open_listed, close_listed, close_bracket_listed, value_listed, constant_listed, index_listed, list_listed}

assigned_listed : (words : WordsView) (at : ℕ) → Listed (assigned_at words at)
unfolding assigned_at
assigned_listed words at = bound _ _ (assign_listed words at _ (word_code_listed words at)) (λ following. value_listed words following)

bracketed_listed : (words : WordsView) (at : ℕ) → Listed (bracketed_at words at)
unfolding bracketed_at
bracketed_listed words at = bound _ _ (value_listed words (at + 1)) (λ p. bound _ _ (close_bracket_listed words p.1 _ (word_code_listed words p.1)) (λ following. found _))

assignment_listed : (words : WordsView) (at : ℕ) → Listed (assignment_at words at)
unfolding assignment_at
assignment_listed words at =
    chosen _ _ _
    (bound _ _ (bracketed_listed words at) (λ i. bound _ _ (assigned_listed words i.1) (λ p. found _)))
    (bound _ _ (index_listed words at _ (word_code_listed words at)) (λ i. bound _ _ (assigned_listed words (at + 1)) (λ p. found _)))

group_listed : (word : Option GWord) (next code : ℕ) → IsBlockRefusal code → Listed (group_word word next code)
group_listed (Some word) next code h = found _
group_listed None next code h = refuses h

piece_g : (p : Piece) (next code : ℕ) → IsBlockRefusal code → Listed (g_of_piece p next code)
piece_g (piece.Number z) next code h = group_listed (word_by_number z) next 57 no_word
piece_g one next code h = refuses h

g_listed : (words : WordsView) (at : ℕ) → Listed (g_at words at)
unfolding g_at
g_listed words at = piece_g (piece_at words at) (at + 1) (word_code words at) (word_code_listed words at)

enclosed_listed : (words : WordsView) (at : ℕ) → Listed (enclosed_value words at)
unfolding enclosed_value
enclosed_listed words at =
    bound _ _ (open_listed words at _ (word_code_listed words at))
    (λ first. bound _ _ (value_listed words first) (λ p. bound _ _ (close_listed words p.1 _ (word_code_listed words p.1)) (λ following. found _)))

as_measured : (m : Measure) (r : Result (Tree × ℕ) ℕ) → Listed r → Listed (r >>= measure_and_value m)
as_measured m r h = bound r (measure_and_value m) h (λ p. found (m, p.0, p.1))

measured_listed : (words : WordsView) (at : ℕ) → Listed (measured_at words at)
unfolding measured_at
measured_listed words at =
    chosen _ _ _ (as_measured Absolute _ (enclosed_listed words (at + 1)))
    (chosen _ _ _ (as_measured Incremental _ (enclosed_listed words (at + 1))) (as_measured Modal _ (value_listed words at)))

measured_word_listed : (words : WordsView) (address : List ℕ) (at : ℕ) → Listed (measured_word words address at)
unfolding measured_word
measured_word_listed words address at = bound _ _ (measured_listed words at) (λ p. found _)

letter_listed : (words : WordsView) (letter at : ℕ) → Listed (letter_word words letter at)
unfolding letter_word
letter_listed words letter at =
    chosen _ _ _ (measured_word_listed words (letter ∷ []) (at + 1)) (bound _ _ (constant_listed words at _ (word_code_listed words _)) (λ p. found _))

axis_word_listed : (words : WordsView) (letter at : ℕ) → Listed (axis_word_at words letter at)
unfolding axis_word_at
axis_word_listed words letter at = measured_word_listed words (letter ∷ text_at words (at + 1)) (at + 3)

slot_listed : (words : WordsView) (letter at : ℕ) → Listed (slot_word_at words letter at)
unfolding slot_word_at
slot_listed words letter at = chosen _ _ _ (axis_word_listed words letter at) (letter_listed words letter (at + 1))

other_axis_listed : (words : WordsView) (letter at : ℕ) → Listed (other_axis_at words letter at)
unfolding other_axis_at
other_axis_listed words letter at = chosen _ _ _ (axis_word_listed words letter at) (chosen _ _ _ (refuses (word_code_listed words (at + 2))) (refuses unknown))

aux_value_listed : (words : WordsView) (at : ℕ) → Listed (aux_value words at)
unfolding aux_value
aux_value_listed words at = chosen _ _ _ (found _) (bound _ _ (value_listed words at) (λ p. found _))

other_aux : (words : WordsView) (letter at : ℕ) (b : Bool) →
    Listed {A = WordView × ℕ} (cond b (aux_value words (at + 1) >>= λ p. Ok (Aux (letter ∷ []) None p.0, p.1)) (Err (word_code words at)))
other_aux words letter at true = bound _ _ (aux_value_listed words (at + 1)) (λ p. found _)
other_aux words letter at false = refuses (word_code_listed words at)

piece_aux : (words : WordsView) (letter at : ℕ) (p : Piece) → Listed (aux_of words letter at p)
unfolding numbered_aux
piece_aux words letter at (piece.Number z) = chosen _ _ _ (bound _ _ (value_listed words (at + 2)) (λ p. found _)) (found _)
piece_aux words letter at one = other_aux words letter at (is_assign one)

aux_listed : (words : WordsView) (letter at : ℕ) → Listed (aux_at words letter at)
unfolding aux_at
aux_listed words letter at = piece_aux words letter at (piece_at words at)

bracket_listed : (words : WordsView) (at : ℕ) → Listed (bracket_at words at)
unfolding bracket_at
bracket_listed words at = chosen _ _ _ (bound _ _ (bracketed_listed words at) (λ p. found _)) (found _)

spindle_listed : (words : WordsView) (text : List ℕ) (at : ℕ) → Listed (spindle_at words text at)
unfolding spindle_at
spindle_listed words text at = bound _ _ (bracket_listed words at) (λ i. bound _ _ (assigned_listed words i.1) (λ p. found _))

name_listed : (words : WordsView) (text : List ℕ) (at : ℕ) → Listed (name_word words text at)
unfolding name_word
name_listed words text at =
    chosen _ _ _ (bound _ _ (assigned_listed words at) (λ p. found _))
    (chosen _ _ _ (spindle_listed words text at) (group_listed _ at (name_code text) (chosen_code _ 24 27 not_alone unknown)))

lettered_listed : (words : WordsView) (letter at : ℕ) → Listed (lettered_word words letter at)
unfolding lettered_word
lettered_listed words letter at =
    chosen _ _ _ (assignment_listed words (at + 1))
    (chosen _ _ _ (g_listed words (at + 1))
    (chosen _ _ _ (slot_listed words letter at)
    (chosen _ _ _ (letter_listed words letter (at + 1))
    (chosen _ _ _ (aux_listed words letter (at + 1)) (chosen _ _ _ (other_axis_listed words letter at) (refuses unknown))))))

piece_word : (words : WordsView) (at : ℕ) (p : Piece) → Listed (word_of_piece words at p)
piece_word words at (piece.Letter letter) = lettered_listed words letter at
piece_word words at piece.Name = name_listed words (text_at words at) (at + 1)
piece_word words at one = refuses unreadable

item_listed : (words : WordsView) (at : ℕ) → Listed (word_item_at words at)
unfolding word_item_at word_at
item_listed words at = bound _ _ (piece_word words at (piece_at words at)) (λ p. found _)

pub words_listed : (words : WordsView) (at : ℕ) → Listed (words_form words at)
unfolding words_form
words_listed words at = bound _ _ (list_listed (λ before. word_item_at words) words at (λ before. item_listed words)) (λ p. found _)
