-- The forms: the reader by tokens goes on as the reader of the line.
use Rattle.std.proofs.Common.{◌≡◌, ℕ, ◌+◌, List, [], ◌∷◌, ◌++◌, length, refl, ap, sym, ◌∙◌, inl, inr, Option, Some, None, Result, Ok, Err, Bool, true, false, cond, arith}
use Rattle.std.specs.Prelude.{◌&&◌, nat_le, codes}
use Rattle.std.proofs.lemmas.Bool.{cases_lt}
use Rattle.block_scanner.specs.WordsView.{WordsView}
use Rattle.nc_expressions.specs.Symbols.{index_of, is_digits}
use Rattle.nc_expressions.specs.Tree.{Tree}
use Rattle.nc_expressions.specs.Value.{◌>>=◌}
use Rattle.nc_blocks.specs.declared.blocks.JumpTo.{JumpTo}
use Rattle.nc_blocks.specs.declared.blocks.Target.{Target}
use Rattle.nc_blocks.specs.declared.blocks.Target.TheVariants as target
use Rattle.nc_blocks.specs.declared.blocks.Way.{Way}
use Rattle.nc_blocks.specs.declared.pieces.Piece.{Piece}
use Rattle.nc_blocks.specs.declared.pieces.Piece.TheVariants as piece
use Rattle.nc_expressions.specs.NameTexts.{name_of}
use Rattle.nc_blocks.specs.Pieces.{piece_at, text_at, is_name}
use Rattle.nc_blocks.specs.Marks as marks
use Rattle.nc_blocks.specs.Marks.{code_of, code_at, end_at, assign_at, comma_of, comma_at, is_keyword, keyword_at}
use Rattle.nc_blocks.specs.Reading.{expression_at, whole, block_number, block_number_of, block_number_at, index_or, parameter_number, index_of_piece, index_at, label_of, label_at}
use Rattle.nc_blocks.specs.Statement.{Statement, Jump, IfJump, If, For, RepeatFrom, RepeatBlock, Repeat, Call, Proc}
use Rattle.nc_syntax.specs.Jumps.{way_of_piece, way_at, is_n, target_of, target_at, jump_at, last_jump, if_after, if_form, jump_form, jump_of, named_jump}
use Rattle.nc_forms.specs.LineEnds.{statement_alone}
use Rattle.nc_syntax.specs.Structures.{last_expression, is_letter, counter_at, first_value, for_form, times_at, repeat_form, repeat_block_form, has_close, parentheses_at, count_of_piece, passes_at, call_passes, call_form, proc_form}
use Rattle.nc_forms.specs.Parentheses.{is_close, is_open}
use Rattle.nc_syntax.specs.Wanted.{Assigns, Commas, Keyword, ATarget, BlockNumber, IfAfter, AJump, CounterLetter, Counter, Times, RepeatAfter, ALabel, Parentheses, CloseOfCall, Passes, Count, Displof, start, Push, No, want, only_if, push_if, comma_want, block_number_want, target_want, if_want, jump_want, counter_index, counter_want, label_want, call_close, count_want, Stack, on_mark, line_end}
use Rattle.nc_syntax.proofs.Wanted.{go, last, run_at, follow}
use Rattle.nc_syntax.proofs.Stepping.{follow_bind, run_on, run_past, after, one_step}
use Rattle.nc_syntax.proofs.Signs.{assigns, expressions}
use Rattle.nc_syntax.proofs.Words.{chain, made, following}

-- the end of a form
end_case : (p : Piece) (f : Stack → Option ℕ) → go (line_end p) f ≡ follow (marks.end_or_refusal p) (λ n. None)
end_case piece.End f = refl
end_case p f = refl

past_case : (p : Piece) → last (line_end p) ≡ follow (marks.end_or_refusal p) (λ n. None)
past_case piece.End = refl
past_case p = refl

pub ends : (words : WordsView) (at : ℕ) → run_at words at [] ≡ follow (end_at words at) (λ n. None)
unfolding on_mark end_at
ends words at =
    elim (cases_lt at (length words.tokens)) [
      | inl h ↦ run_on words at [] h ∙ end_case (piece_at words at) (λ next. run_at words (at + 1) next)
      | inr h ↦ run_past words at [] h ∙ past_case (piece_at words at)
    ]

pub ends_with : {A : Type 0} (words : WordsView) (at : ℕ) (x : A) → run_at words at [] ≡ follow (end_at words at >>= λ n. Ok x) (λ y. None)
ends_with {A = A} words at x = ends words at ∙ made {B = A} (end_at words at) (λ n. x) (λ y. None)

pub alone_ends : (words : WordsView) (at : ℕ) (s : Statement) → run_at words at [] ≡ follow (statement_alone words at s) (λ y. None)
unfolding statement_alone
alone_ends words at s = ends_with words at s

-- names and signs
pub sure_case : {A : Type 0} (words : WordsView) (at : ℕ) (st : Stack) (b : Bool) (x : A) (f : A → Option ℕ) → f x ≡ run_at words (at + 1) st →
    after words at (only_if b) st ≡ follow (cond b (Ok x) (Err 22)) f
sure_case words at st true x f e = sym e
sure_case words at st false x f e = refl

pub keywords : (words : WordsView) (at : ℕ) (word : List ℕ) (st : Stack) → run_at words at (Keyword word ∷ st) ≡ follow (keyword_at words at word) (λ n. run_at words n st)
unfolding want keyword_at is_keyword
keywords words at word st = one_step words at (Keyword word) st ∙ sure_case words at st (is_keyword words at word) (at + 1) (λ n. run_at words n st) refl

comma_case : (words : WordsView) (at : ℕ) (st : Stack) (p : Piece) → after words at (comma_want p) st ≡ follow (comma_of p (at + 1)) (λ n. run_at words n st)
comma_case words at st piece.Comma = refl
comma_case words at st p = refl

pub commas : (words : WordsView) (at : ℕ) (st : Stack) → run_at words at (Commas ∷ st) ≡ follow (comma_at words at) (λ n. run_at words n st)
unfolding want comma_at
commas words at st = one_step words at Commas st ∙ comma_case words at st (piece_at words at)

block_number_case : {A : Type 0} (words : WordsView) (at : ℕ) (st : Stack) (p : Piece) (e : ℕ → A) (f : A → Option ℕ) → ((n : ℕ) → f (e n) ≡ run_at words (at + 1) st) →
    after words at (block_number_want p (text_at words at)) st ≡ follow (block_number_of p (text_at words at) >>= λ n. Ok (e n)) f
unfolding block_number
block_number_case {A = A} words at st (piece.Number z) e f h =
    sure_case words at st (is_digits (text_at words at) && nat_le (length (text_at words at)) 8) (whole z) (λ n. f (e n)) (h (whole z))
    ∙ made {B = A} (cond (is_digits (text_at words at) && nat_le (length (text_at words at)) 8) (Ok (whole z)) (Err 22)) e f
block_number_case words at st p e f h = refl

pub block_numbers : {A : Type 0} (words : WordsView) (at : ℕ) (st : Stack) (e : ℕ → A) (f : A → Option ℕ) → ((n : ℕ) → f (e n) ≡ run_at words (at + 1) st) →
    run_at words at (BlockNumber ∷ st) ≡ follow (block_number_at words at >>= λ n. Ok (e n)) f
unfolding want block_number_at
block_numbers words at st e f h = one_step words at BlockNumber st ∙ block_number_case words at st (piece_at words at) e f h

-- targets and jumps
pub two : (at : ℕ) → at + 1 + 1 ≡ at + 2
two at = omega arith

number_target : (words : WordsView) (at : ℕ) (st : Stack) (b : Bool) →
    after words at (cond b (Push (BlockNumber ∷ [])) (No 22)) st
    ≡ follow (cond b (◌>>=◌ {B = Target × ℕ} (block_number_at words (at + 1)) (λ n. Ok (target.Number n, at + 2))) (Err 22)) (λ p. run_at words p.1 st)
number_target words at st true =
    block_numbers {A = Target × ℕ} words (at + 1) st (λ n. (target.Number n, at + 2)) (λ p. run_at words p.1 st) (λ (n : ℕ). ap (λ (k : ℕ). run_at words k st) (sym (two at)))
number_target words at st false = refl

target_case : (words : WordsView) (at : ℕ) (st : Stack) (p : Piece) → after words at (target_want p) st ≡ follow (target_of words at p) (λ p. run_at words p.1 st)
target_case words at st piece.Name = refl
target_case words at st p = number_target words at st (is_n p)

pub targets : (words : WordsView) (at : ℕ) (st : Stack) → run_at words at (ATarget ∷ st) ≡ follow (target_at words at) (λ p. run_at words p.1 st)
unfolding want target_at
targets words at st = one_step words at ATarget st ∙ target_case words at st (piece_at words at)

pub jumps : (words : WordsView) (way : Way) (at : ℕ) (st : Stack) → run_at words at (ATarget ∷ st) ≡ follow (jump_at words way at) (λ p. run_at words p.1 st)
unfolding jump_at
jumps words way at st = targets words at st ∙ made {B = JumpTo × ℕ} (target_at words at) (λ p. (record { way = way; target = p.0 }, p.1)) (following words st)

pub last_jumps : (words : WordsView) (way : Way) (at : ℕ) → run_at words at (ATarget ∷ []) ≡ follow (last_jump words way at) (λ j. None)
unfolding last_jump
last_jumps words way at = jumps words way at [] ∙ chain _ _ _ _ (λ (p : JumpTo × ℕ). ends_with words p.1 p.0)

pub jump_forms : (words : WordsView) (way : Way) (at : ℕ) → run_at words at (ATarget ∷ []) ≡ follow (jump_form words way at) (λ s. None)
unfolding jump_form
jump_forms words way at = last_jumps words way at ∙ made {B = Statement} (last_jump words way at) (λ j. Jump j) (λ s. None)

jump_case : (words : WordsView) (at : ℕ) (st : Stack) (o : Option Way) → after words at (jump_want o) st ≡ follow (jump_of words o (at + 1)) (λ p. run_at words p.1 st)
jump_case words at st (Some way) = jumps words way (at + 1) st
jump_case words at st None = refl

pub named_jumps : (words : WordsView) (at : ℕ) (st : Stack) → run_at words at (AJump ∷ st) ≡ follow (named_jump words at) (λ p. run_at words p.1 st)
unfolding want named_jump way_at
named_jumps words at st = one_step words at AJump st ∙ jump_case words at st (way_of_piece (piece_at words at) (text_at words at))

-- IF
if_case : (words : WordsView) (t : Tree) (at : ℕ) (o : Option Way) → after words at (if_want o) [] ≡ follow (if_after words t at o) (λ s. None)
if_case words t at (Some way) = last_jumps words way (at + 1) ∙ made {B = Statement} (last_jump words way (at + 1)) (λ j. IfJump t j) (λ s. None)
if_case words t at None = ends_with words at (If t)

if_ends : (words : WordsView) (t : Tree) (at : ℕ) → run_at words at (IfAfter ∷ []) ≡ follow (if_after words t at (way_at words at)) (λ s. None)
unfolding want way_at
if_ends words t at = one_step words at IfAfter [] ∙ if_case words t at (way_of_piece (piece_at words at) (text_at words at))

pub if_forms : (words : WordsView) (at : ℕ) → run_at words at (start false ∷ IfAfter ∷ []) ≡ follow (if_form words at) (λ s. None)
unfolding if_form
if_forms words at = expressions words at (IfAfter ∷ []) ∙ chain _ _ _ _ (λ (p : Tree × ℕ). if_ends words p.0 p.1)

-- WHILE, UNTIL and FOR
pub last_expressions : {A : Type 0} (words : WordsView) (at : ℕ) (e : Tree → A) → run_at words at (start false ∷ []) ≡ follow (last_expression words at >>= λ t. Ok (e t)) (λ s. None)
unfolding last_expression
last_expressions {A = A} words at e =
    expressions words at []
    ∙ chain _ (λ p. end_at words p.1 >>= λ n. Ok p.0) (λ (t : Tree). None) _ (λ (p : Tree × ℕ). ends_with words p.1 p.0)
    ∙ made {B = A} (expression_at words at >>= λ p. end_at words p.1 >>= λ n. Ok p.0) e (λ s. None)

counter_case : (words : WordsView) (at : ℕ) (st : Stack) (o : Option ℕ) (f : ℕ → Option ℕ) → ((i : ℕ) → run_at words (at + 1) st ≡ f i) → after words at (counter_index o) st ≡ follow (index_or o 22) f
counter_case words at st (Some i) f h = h i
counter_case words at st None f h = refl

digits_case : (words : WordsView) (at : ℕ) (st : Stack) (o : Option ℕ) (b : Bool) (f : ℕ → Option ℕ) → ((i : ℕ) → run_at words (at + 1) st ≡ f i) →
    after words at (cond b (counter_index o) (No 22)) st ≡ follow (cond b (index_or o 22) (Err 22)) f
digits_case words at st o true f h = counter_case words at st o f h
digits_case words at st o false f h = refl

index_case : (words : WordsView) (at : ℕ) (st : Stack) (text : List ℕ) (p : Piece) (f : ℕ → Option ℕ) → ((i : ℕ) → run_at words (at + 1) st ≡ f i) →
    after words at (counter_want p text) st ≡ follow (index_of_piece p text 22) f
unfolding parameter_number
index_case words at st text (piece.Number z) f h = digits_case words at st (index_of z) (is_digits text) f h
index_case words at st text p f h = refl

indices : (words : WordsView) (at : ℕ) (st : Stack) (f : ℕ → Option ℕ) → ((i : ℕ) → run_at words (at + 1) st ≡ f i) → run_at words at (Counter ∷ st) ≡ follow (index_at words at 22) f
unfolding want index_at
indices words at st f h = one_step words at Counter st ∙ index_case words at st (text_at words at) (piece_at words at) f h

counter_after : (words : WordsView) (at : ℕ) (st : Stack) (i : ℕ) → run_at words (at + 1 + 1) (Assigns false ∷ st) ≡ follow (◌>>=◌ {B = ℕ × ℕ} (assign_at words (at + 2) 22) (λ b. Ok (i, b))) (λ p. run_at words p.1 st)
counter_after words at st i =
    ap (λ (k : ℕ). run_at words k (Assigns false ∷ st)) (two at)
    ∙ assigns words (at + 2) false st ∙ made {B = ℕ × ℕ} (assign_at words (at + 2) 22) (λ b. (i, b)) (following words st)

counter_letter : (words : WordsView) (at : ℕ) (st : Stack) (b : Bool) →
    after words at (only_if b) (Counter ∷ Assigns false ∷ st)
    ≡ follow (cond b (◌>>=◌ {B = ℕ × ℕ} (index_at words (at + 1) 22) (λ i. assign_at words (at + 2) 22 >>= λ b. Ok (i, b))) (Err 22)) (λ p. run_at words p.1 st)
counter_letter words at st true =
    indices words (at + 1) (Assigns false ∷ st) (λ i. follow (◌>>=◌ {B = ℕ × ℕ} (assign_at words (at + 2) 22) (λ b. Ok (i, b))) (λ p. run_at words p.1 st)) (λ (i : ℕ). counter_after words at st i)
    ∙ sym (follow_bind (index_at words (at + 1) 22) (λ i. ◌>>=◌ {B = ℕ × ℕ} (assign_at words (at + 2) 22) (λ b. Ok (i, b))) (λ p. run_at words p.1 st))
counter_letter words at st false = refl

pub counters : (words : WordsView) (at : ℕ) (st : Stack) → run_at words at (CounterLetter ∷ Counter ∷ Assigns false ∷ st) ≡ follow (counter_at words at) (λ p. run_at words p.1 st)
unfolding want counter_at
counters words at st = one_step words at CounterLetter (Counter ∷ Assigns false ∷ st) ∙ counter_letter words at st (is_letter (piece_at words at) 82)

pub first_values : (words : WordsView) (at : ℕ) (st : Stack) → run_at words at (start false ∷ Keyword (codes "TO") ∷ st) ≡ follow (first_value words at) (λ p. run_at words p.1 st)
unfolding first_value
first_values words at st =
    expressions words at (Keyword (codes "TO") ∷ st)
    ∙ chain _ _ _ _ (λ (p : Tree × ℕ). keywords words p.1 (codes "TO") st ∙ made {B = Tree × ℕ} (keyword_at words p.1 (codes "TO")) (λ n. (p.0, n)) (following words st))

pub for_forms : (words : WordsView) (at : ℕ) →
    run_at words at (CounterLetter ∷ Counter ∷ Assigns false ∷ start false ∷ Keyword (codes "TO") ∷ start false ∷ []) ≡ follow (for_form words at) (λ s. None)
unfolding for_form
for_forms words at =
    counters words at (start false ∷ Keyword (codes "TO") ∷ start false ∷ [])
    ∙ chain _ _ _ _ (λ (c : ℕ × ℕ). first_values words c.1 (start false ∷ [])
    ∙ chain _ _ _ _ (λ (v : Tree × ℕ). last_expressions {A = Statement} words v.1 (λ t. For c.0 v.0 t)))

-- repetitions
pub perhaps_case : (words : WordsView) (at : ℕ) (ws st : Stack) (b : Bool) → after words at (push_if b ws) st ≡ cond b (run_at words (at + 1) (ws ++ st)) (run_at words at st)
perhaps_case words at ws st true = refl
perhaps_case words at ws st false = refl

pub either_way : {A : Type 0} (b : Bool) (x y : Option ℕ) (r q : Result A ℕ) (f : A → Option ℕ) → x ≡ follow r f → y ≡ follow q f → cond b x y ≡ follow (cond b r q) f
either_way true x y r q f h k = h
either_way false x y r q f h k = k

times_value : (words : WordsView) (at : ℕ) →
    run_at words at (Assigns false ∷ start false ∷ []) ≡ follow (◌>>=◌ {B = Option Tree} (assign_at words at 22) (λ n. last_expression words n >>= λ t. Ok (Some t))) (λ o. None)
times_value words at =
    assigns words at false (start false ∷ []) ∙ chain _ _ _ _ (λ (n : ℕ). last_expressions {A = Option Tree} words n (λ t. Some t))

pub times : (words : WordsView) (at : ℕ) → run_at words at (Times ∷ []) ≡ follow (times_at words at) (λ o. None)
unfolding want times_at
times words at =
    one_step words at Times []
    ∙ perhaps_case words at (Assigns false ∷ start false ∷ []) [] (is_letter (piece_at words at) 80)
    ∙ either_way (is_letter (piece_at words at) 80) _ _ _ _ _ (times_value words (at + 1)) (ends_with {A = Option Tree} words at None)

repeat_times : (words : WordsView) (at : ℕ) → run_at words (at + 1) (Times ∷ []) ≡ follow (times_at words (at + 1) >>= λ t. Ok (RepeatFrom (name_of (text_at words at)) t)) (λ s. None)
repeat_times words at = times words (at + 1) ∙ made {B = Statement} (times_at words (at + 1)) (λ t. RepeatFrom (name_of (text_at words at)) t) (λ s. None)

pub repeat_forms : (words : WordsView) (at : ℕ) → run_at words at (RepeatAfter ∷ []) ≡ follow (repeat_form words at) (λ s. None)
unfolding want repeat_form
repeat_forms words at =
    one_step words at RepeatAfter []
    ∙ perhaps_case words at (Times ∷ []) [] (is_name (piece_at words at))
    ∙ either_way (is_name (piece_at words at)) _ _ _ _ _ (repeat_times words at) (alone_ends words at Repeat)

label_case : (words : WordsView) (at : ℕ) (st : Stack) (p : Piece) (f : List ℕ → Option ℕ) → ((name : List ℕ) → run_at words (at + 1) st ≡ f name) →
    after words at (label_want p) st ≡ follow (label_of p (text_at words at)) f
label_case words at st piece.Name f h = h (name_of (text_at words at))
label_case words at st p f h = refl

labels : (words : WordsView) (at : ℕ) (st : Stack) (f : List ℕ → Option ℕ) → ((name : List ℕ) → run_at words (at + 1) st ≡ f name) → run_at words at (ALabel ∷ st) ≡ follow (label_at words at) f
unfolding want label_at
labels words at st f h = one_step words at ALabel st ∙ label_case words at st (piece_at words at) f h

pub repeat_block_forms : (words : WordsView) (at : ℕ) → run_at words at (ALabel ∷ Times ∷ []) ≡ follow (repeat_block_form words at) (λ s. None)
unfolding repeat_block_form
repeat_block_forms words at =
    labels words at (Times ∷ []) (λ name. follow (times_at words (at + 1) >>= λ t. Ok (RepeatBlock name t)) (λ s. None))
    (λ (name : List ℕ). times words (at + 1) ∙ made {B = Statement} (times_at words (at + 1)) (λ t. RepeatBlock name t) (λ s. None))
    ∙ sym (follow_bind (label_at words at) (λ name. times_at words (at + 1) >>= λ t. Ok (RepeatBlock name t)) (λ s. None))

-- PROC
displof_case : (words : WordsView) (at : ℕ) (name : List ℕ) (b : Bool) →
    cond b (run_at words (at + 1 + 1) []) (run_at words (at + 1) []) ≡ follow (statement_alone words (cond b (at + 2) (at + 1)) (Proc name)) (λ s. None)
displof_case words at name true = ap (λ (n : ℕ). run_at words n []) (two at) ∙ alone_ends words (at + 2) (Proc name)
displof_case words at name false = alone_ends words (at + 1) (Proc name)

displof : (words : WordsView) (at : ℕ) (name : List ℕ) →
    run_at words (at + 1) (Displof ∷ []) ≡ follow (statement_alone words (cond (is_keyword words (at + 1) (codes "DISPLOF")) (at + 2) (at + 1)) (Proc name)) (λ s. None)
unfolding want is_keyword
displof words at name =
    one_step words (at + 1) Displof []
    ∙ perhaps_case words (at + 1) [] [] (is_keyword words (at + 1) (codes "DISPLOF"))
    ∙ displof_case words at name (is_keyword words (at + 1) (codes "DISPLOF"))

pub proc_forms : (words : WordsView) (at : ℕ) → run_at words at (ALabel ∷ Displof ∷ []) ≡ follow (proc_form words at) (λ s. None)
unfolding proc_form
proc_forms words at =
    labels words at (Displof ∷ []) (λ name. follow (statement_alone words (cond (is_keyword words (at + 1) (codes "DISPLOF")) (at + 2) (at + 1)) (Proc name)) (λ s. None)) (λ (name : List ℕ). displof words at name)
    ∙ sym (follow_bind (label_at words at) (λ name. statement_alone words (cond (is_keyword words (at + 1) (codes "DISPLOF")) (at + 2) (at + 1)) (Proc name)) (λ s. None))

-- calls
closed_code : {A : Type 0} (b : Bool) (code : ℕ) (f : A → Option ℕ) → Some (cond b code 22) ≡ follow (cond b (Err code) (Err 22)) f
closed_code true code f = refl
closed_code false code f = refl

close_call : (words : WordsView) (at : ℕ) (st : Stack) (p : Piece) →
    after words at (call_close p (has_close words)) st
    ≡ follow (cond (is_close p) (Ok (at + 1)) (cond (has_close words) (Err (code_of p 58)) (Err 22))) (λ n. run_at words n st)
close_call words at st piece.Close = refl
close_call words at st p = closed_code (has_close words) (code_of p 58) (λ n. run_at words n st)

in_parentheses : (words : WordsView) (at : ℕ) (st : Stack) →
    run_at words (at + 1) (CloseOfCall ∷ st)
    ≡ follow (cond (is_close (piece_at words (at + 1))) (Ok (at + 2)) (cond (has_close words) (Err (code_at words (at + 1) 58)) (Err 22))) (λ n. run_at words n st)
unfolding want code_at
in_parentheses words at st = one_step words (at + 1) CloseOfCall st ∙ close_call words (at + 1) st (piece_at words (at + 1)) ∙ rw (two at) refl

pub parentheses : (words : WordsView) (at : ℕ) (st : Stack) → run_at words at (Parentheses ∷ st) ≡ follow (parentheses_at words at) (λ n. run_at words n st)
unfolding want parentheses_at
parentheses words at st =
    one_step words at Parentheses st
    ∙ perhaps_case words at (CloseOfCall ∷ []) st (is_open (piece_at words at))
    ∙ either_way (is_open (piece_at words at)) _ _ _ (Ok at) (λ n. run_at words n st) (in_parentheses words at st) refl

counted_case : (words : WordsView) (at : ℕ) (r : Result ℕ ℕ) → after words at (count_want r) [] ≡ follow (r >>= λ n. end_at words (at + 1) >>= λ e. Ok n) (λ n. None)
counted_case words at (Ok n) = ends_with words (at + 1) n
counted_case words at (Err code) = refl

count_ends : (words : WordsView) (at : ℕ) → run_at words (at + 1) (Count ∷ []) ≡ follow (count_of_piece (piece_at words (at + 1)) >>= λ n. end_at words (at + 2) >>= λ e. Ok n) (λ n. None)
unfolding want
count_ends words at = one_step words (at + 1) Count [] ∙ counted_case words (at + 1) (count_of_piece (piece_at words (at + 1))) ∙ rw (two at) refl

pub passes : (words : WordsView) (at : ℕ) → run_at words at (Passes ∷ []) ≡ follow (passes_at words at) (λ n. None)
unfolding want passes_at
passes words at =
    one_step words at Passes []
    ∙ perhaps_case words at (Count ∷ []) [] (is_letter (piece_at words at) 80)
    ∙ either_way (is_letter (piece_at words at) 80) _ _ _ _ _ (count_ends words at) (ends_with words at 1)

pub call_forms : (words : WordsView) (name : List ℕ) (at : ℕ) → run_at words at (Parentheses ∷ Passes ∷ []) ≡ follow (call_form words name at) (λ s. None)
unfolding call_form call_passes
call_forms words name at =
    parentheses words at (Passes ∷ [])
    ∙ chain _ (λ n. passes_at words n) (λ (n : ℕ). None) _ (λ (n : ℕ). passes words n)
    ∙ made {B = Statement} (parentheses_at words at >>= λ n. passes_at words n) (λ n. Call name n) (λ s. None)
