-- The words of a word block: the reader by tokens goes on as the reader of the line.
use Rattle.std.proofs.Common.{◌≡◌, ℕ, ◌+◌, List, [], ◌∷◌, refl, sym, ◌∙◌, Option, Some, None, Result, Ok, Err, Bool, true, false, cond}
use Rattle.std.specs.Prelude.{codes}
use Rattle.block_scanner.specs.WordsView.{WordsView}
use Rattle.g_groups.specs.declared.GWord.{GWord}
use Rattle.word_tables.specs.GroupWords.{word_by_number}
use Rattle.nc_expressions.specs.declared.levels.Level.TheVariants.{Plain}
use Rattle.nc_expressions.specs.Machine as machine
use Rattle.nc_expressions.specs.Symbols.{index_of, is_digits}
use Rattle.nc_expressions.specs.Tree.{Tree, Number}
use Rattle.nc_expressions.specs.Value.{◌>>=◌}
use Rattle.nc_blocks.specs.declared.blocks.Measure.{Measure}
use Rattle.nc_blocks.specs.declared.blocks.Measure.TheVariants.{Modal, Absolute, Incremental}
use Rattle.nc_blocks.specs.declared.pieces.Piece.{Piece}
use Rattle.nc_blocks.specs.declared.pieces.Piece.TheVariants as piece
use Rattle.nc_blocks.specs.Pieces.{piece_at, is_assign, text_at}
use Rattle.nc_blocks.specs.Marks.{word_code, is_keyword, close_at, close_bracket_at}
use Rattle.nc_blocks.specs.Reading.{value_at, after_sign, constant_at, index_or, parameter_number, index_of_piece, index_at}
use Rattle.nc_blocks.specs.Wording.{assigned_at, bracketed_at, is_open_bracket, assignment_at, group_word, g_of_piece, g_at, enclosed_value, measure_and_value, measured_at, measured_word, letter_word}
use Rattle.nc_blocks.specs.Statement.{WordView, Assign, AssignAt, Axis}
use Rattle.nc_syntax.specs.Wanted.{mark_at, Assigns, Opens, Closes, ClosesBracket, Parameter, GNumber, Measured, AfterCentre, start, fail, Push, want, value_want, assign_index, index_want, group_want, g_want, signed_want, in_parentheses, centre_want, Stack, No}
use Rattle.nc_syntax.proofs.Wanted.{run_at, follow}
use Rattle.nc_syntax.proofs.Stepping.{after, one_step}
use Rattle.nc_syntax.proofs.Signs.{assigns, opens, closes, closes_bracket, signed_case, values}

-- what goes on after a first part goes on after the whole
pub chain : {A B : Type 0} (r : Result A ℕ) (f : A → Result B ℕ) (g : B → Option ℕ) (h : A → Option ℕ) → ((x : A) → h x ≡ follow (f x) g) → follow r h ≡ follow (r >>= f) g
chain (Ok x) f g h e = e x
chain (Err code) f g h e = refl

-- the same where the last part only makes the value
pub made : {A B : Type 0} (r : Result A ℕ) (e : A → B) (g : B → Option ℕ) → follow r (λ x. g (e x)) ≡ follow (r >>= λ x. Ok (e x)) g
made (Ok x) e g = refl
made (Err code) e g = refl

abbrev pub following : {A : Type 0} → WordsView → Stack → A × ℕ → Option ℕ
following words st p = run_at words p.1 st

pub assigned : (words : WordsView) (at : ℕ) (st : Stack) → run_at words at (Assigns true ∷ start true ∷ st) ≡ follow (assigned_at words at) (λ p. run_at words p.1 st)
unfolding assigned_at word_code
assigned words at st = assigns words at true (start true ∷ st) ∙ chain _ _ _ _ (λ (n : ℕ). values words n st)

pub bracketed : (words : WordsView) (at : ℕ) (st : Stack) → run_at words (at + 1) (start true ∷ ClosesBracket ∷ st) ≡ follow (bracketed_at words at) (λ p. run_at words p.1 st)
unfolding bracketed_at
bracketed words at st =
    values words (at + 1) (ClosesBracket ∷ st)
    ∙ chain _ _ _ _ (λ (p : Tree × ℕ). closes_bracket words p.1 st
    ∙ made {B = Tree × ℕ} (close_bracket_at words p.1 (word_code words p.1)) (λ n. (p.0, n)) (following words st))

-- parameters
index_case : (words : WordsView) (at : ℕ) (st : Stack) (o : Option ℕ) →
    after words at (assign_index o) st ≡ follow (◌>>=◌ {B = WordView × ℕ} (index_or o 22) (λ i. assigned_at words (at + 1) >>= λ p. Ok (Assign i p.0, p.1))) (λ p. run_at words p.1 st)
index_case words at st (Some i) =
    assigned words (at + 1) st ∙ made {B = WordView × ℕ} (assigned_at words (at + 1)) (λ p. (Assign i p.0, p.1)) (following words st)
index_case words at st None = refl

digits_case : (words : WordsView) (at : ℕ) (st : Stack) (o : Option ℕ) (b : Bool) →
    after words at (cond b (assign_index o) (No 22)) st
    ≡ follow (◌>>=◌ {B = WordView × ℕ} (cond b (index_or o 22) (Err 22)) (λ i. assigned_at words (at + 1) >>= λ p. Ok (Assign i p.0, p.1))) (λ p. run_at words p.1 st)
digits_case words at st o true = index_case words at st o
digits_case words at st o false = refl

parameter_case : (words : WordsView) (at code : ℕ) (st : Stack) (text : List ℕ) (p : Piece) →
    after words at (index_want p text code) st
    ≡ follow (◌>>=◌ {B = WordView × ℕ} (index_of_piece p text code) (λ i. assigned_at words (at + 1) >>= λ p. Ok (Assign i p.0, p.1))) (λ p. run_at words p.1 st)
unfolding parameter_number
parameter_case words at code st text (piece.Number z) = digits_case words at st (index_of z) (is_digits text)
parameter_case words at code st text p = refl

bracket_or : (words : WordsView) (at code : ℕ) (st : Stack) (text : List ℕ) (p : Piece) (b : Bool) →
    after words at (cond b (Push (start true ∷ ClosesBracket ∷ Assigns true ∷ start true ∷ [])) (index_want p text code)) st
    ≡ follow (cond b (bracketed_at words at >>= λ i. assigned_at words i.1 >>= λ p. Ok (AssignAt i.0 p.0, p.1))
    (◌>>=◌ {B = WordView × ℕ} (index_of_piece p text code) (λ i. assigned_at words (at + 1) >>= λ p. Ok (Assign i p.0, p.1)))) (λ p. run_at words p.1 st)
bracket_or words at code st text p true =
    bracketed words at (Assigns true ∷ start true ∷ st)
    ∙ chain _ _ _ _ (λ (i : Tree × ℕ). assigned words i.1 st
    ∙ made {B = WordView × ℕ} (assigned_at words i.1) (λ p. (AssignAt i.0 p.0, p.1)) (following words st))
bracket_or words at code st text p false = parameter_case words at code st text p

pub parameters : (words : WordsView) (at : ℕ) (st : Stack) → run_at words at (Parameter ∷ st) ≡ follow (assignment_at words at) (λ p. run_at words p.1 st)
unfolding want assignment_at index_at word_code
parameters words at st =
    one_step words at Parameter st ∙ bracket_or words at (fail true (mark_at words at)) st (text_at words at) (piece_at words at) (is_open_bracket (piece_at words at))

-- words of groups
pub group_case : (words : WordsView) (at code : ℕ) (st : Stack) (o : Option GWord) →
    after words at (group_want o code) st ≡ follow (group_word o (at + 1) code) (λ p. run_at words p.1 st)
group_case words at code st (Some g) = refl
group_case words at code st None = refl

g_case : (words : WordsView) (at code : ℕ) (st : Stack) (p : Piece) → after words at (g_want p code) st ≡ follow (g_of_piece p (at + 1) code) (λ p. run_at words p.1 st)
g_case words at code st (piece.Number z) = group_case words at 57 st (word_by_number z)
g_case words at code st p = refl

pub g_words : (words : WordsView) (at : ℕ) (st : Stack) → run_at words at (GNumber ∷ st) ≡ follow (g_at words at) (λ p. run_at words p.1 st)
unfolding want g_at word_code
g_words words at st = one_step words at GNumber st ∙ g_case words at (fail true (mark_at words at)) st (piece_at words at)

-- values of axis words
pub enclosed_values : (words : WordsView) (at : ℕ) (st : Stack) → run_at words at (Opens true ∷ start true ∷ Closes true ∷ st) ≡ follow (enclosed_value words at) (λ p. run_at words p.1 st)
unfolding enclosed_value word_code
enclosed_values words at st =
    opens words at true (start true ∷ Closes true ∷ st)
    ∙ chain _ _ _ _ (λ (n : ℕ). values words n (Closes true ∷ st)
    ∙ chain _ _ _ _ (λ (p : Tree × ℕ). closes words p.1 true st
    ∙ made {B = Tree × ℕ} (close_at words p.1 (word_code words p.1)) (λ m. (p.0, m)) (following words st)))

start_value : (words : WordsView) (at : ℕ) (st : Stack) →
    after words at (value_want true (machine.Wants [] Plain) (mark_at words at) (mark_at words at).symbol) st ≡ follow (value_at words at) (λ p. run_at words p.1 st)
unfolding want
start_value words at st = sym (one_step words at (start true) st) ∙ values words at st

measured_case : (words : WordsView) (at : ℕ) (st : Stack) (a b : Bool) →
    after words at (cond a (Push in_parentheses) (cond b (Push in_parentheses) (value_want true (machine.Wants [] Plain) (mark_at words at) (mark_at words at).symbol))) st
    ≡ follow (cond a (enclosed_value words (at + 1) >>= measure_and_value Absolute) (cond b (enclosed_value words (at + 1) >>= measure_and_value Incremental) (value_at words at >>= measure_and_value Modal))) (λ p. run_at words p.2 st)
measured_case words at st true b = enclosed_values words (at + 1) st ∙ made {B = Measure × Tree × ℕ} (enclosed_value words (at + 1)) (λ p. (Absolute, p.0, p.1)) (λ p. run_at words p.2 st)
measured_case words at st false true = enclosed_values words (at + 1) st ∙ made {B = Measure × Tree × ℕ} (enclosed_value words (at + 1)) (λ p. (Incremental, p.0, p.1)) (λ p. run_at words p.2 st)
measured_case words at st false false = start_value words at st ∙ made {B = Measure × Tree × ℕ} (value_at words at) (λ p. (Modal, p.0, p.1)) (λ p. run_at words p.2 st)

pub measures : (words : WordsView) (at : ℕ) (st : Stack) → run_at words at (Measured ∷ st) ≡ follow (measured_at words at) (λ p. run_at words p.2 st)
unfolding want measured_at is_keyword
measures words at st = one_step words at Measured st ∙ measured_case words at st (is_keyword words at (codes "AC")) (is_keyword words at (codes "IC"))

pub measured_words : (words : WordsView) (address : List ℕ) (at : ℕ) (st : Stack) → run_at words at (Measured ∷ st) ≡ follow (measured_word words address at) (λ p. run_at words p.1 st)
unfolding measured_word
measured_words words address at st = measures words at st ∙ made {B = WordView × ℕ} (measured_at words at) (λ p. (Axis address p.0 p.1, p.2)) (following words st)

-- letters of axes and centres
centre_or : (words : WordsView) (letter at : ℕ) (st : Stack) (b : Bool) →
    after words at (cond b (Push (Measured ∷ [])) (signed_want true (piece_at words at) (fail true (mark_at words at)))) st
    ≡ follow (cond b (measured_word words (letter ∷ []) (at + 1)) (constant_at words at (word_code words (after_sign words at)) >>= λ p. Ok (Axis (letter ∷ []) Modal (Number p.0), p.1))) (λ p. run_at words p.1 st)
unfolding constant_at after_sign word_code
centre_or words letter at st true = measured_words words (letter ∷ []) (at + 1) st
centre_or words letter at st false = signed_case words at true st (piece_at words at) refl
    ∙ made {B = WordView × ℕ} (constant_at words at (word_code words (after_sign words at))) (λ p. (Axis (letter ∷ []) Modal (Number p.0), p.1)) (following words st)

pub centre_words : (words : WordsView) (letter at : ℕ) (st : Stack) →
    after words at (centre_want (piece_at words at) (fail true (mark_at words at))) st ≡ follow (letter_word words letter at) (λ p. run_at words p.1 st)
unfolding letter_word
centre_words words letter at st = centre_or words letter at st (is_assign (piece_at words at))

pub letter_words : (words : WordsView) (letter at : ℕ) (st : Stack) → run_at words at (AfterCentre ∷ st) ≡ follow (letter_word words letter at) (λ p. run_at words p.1 st)
unfolding want
letter_words words letter at st = one_step words at AfterCentre st ∙ centre_words words letter at st
