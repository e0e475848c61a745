-- CASE, frames, coordination and messages: the reader by tokens goes on as the reader of the line.
use Rattle.std.proofs.Common.{◌≡◌, ℕ, ◌+◌, ◌<◌, ◌≤◌, List, [], ◌∷◌, ◌++◌, length, map, refl, ap, sym, ◌∙◌, Option, Some, None, Result, Ok, Err, Bool, true, false, cond, arith}
use Rattle.std.specs.Prelude.{ℤ, ◌==◌, ◌&&◌, ◌||◌, not, codes}
use Rattle.std.specs.List.{list_any}
use Rattle.std.proofs.lemmas.List.{map-append, append-nil}
use Rattle.block_scanner.specs.WordsView.{WordsView}
use Rattle.nc_expressions.specs.declared.levels.Level.TheVariants.{Plain}
use Rattle.nc_expressions.specs.Machine as machine
use Rattle.nc_expressions.specs.declared.symbols.Symbol.{Symbol}
use Rattle.nc_expressions.specs.declared.symbols.Symbol.TheVariants as symbol
use Rattle.nc_expressions.specs.declared.trees.BinaryOp.{BinaryOp}
use Rattle.nc_expressions.specs.declared.trees.BinaryOp.TheVariants as binary
use Rattle.nc_expressions.specs.Limits.{all_limits}
use Rattle.nc_expressions.specs.Tree.{Tree, Number}
use Rattle.nc_expressions.specs.Value.{◌>>=◌}
use Rattle.nc_blocks.specs.declared.blocks.CoordWord.{CoordWord}
use Rattle.nc_blocks.specs.declared.blocks.FrameWord.{FrameWord}
use Rattle.nc_blocks.specs.declared.blocks.JumpTo.{JumpTo}
use Rattle.nc_blocks.specs.declared.pieces.Piece.{Piece}
use Rattle.nc_blocks.specs.declared.pieces.Piece.TheVariants as piece
use Rattle.nc_blocks.specs.Pieces.{piece_at, text_at, is_end, is_assign, is_text}
use Rattle.nc_blocks.specs.Texts.{text_within_quotes}
use Rattle.nc_blocks.specs.Marks.{code_of, code_at, end_at, assign_at, open_of, open_at, close_at, comma_at, is_keyword}
use Rattle.nc_blocks.specs.Reading.{expression_at, after_sign, constant_at}
use Rattle.nc_blocks.specs.AxisNames.{is_axis_letter, is_digits_piece, has_digits, has_axis_name, has_axis_word}
use Rattle.nc_blocks.specs.Wording.{is_slot_letter}
use Rattle.nc_blocks.specs.Lists.{Item, list_at}
use Rattle.nc_blocks.specs.Statement.{Statement, Case, Shape, Turn, Coord, Message, OperandView, Value, Text, AxisName}
use Rattle.nc_blocks.proofs.Listing.{any_of_views}
use Rattle.nc_syntax.specs.Jumps.{case_names, case_value, begins_number, named_jump, pair_at, default_at, case_form}
use Rattle.nc_forms.specs.declared.coordination.ArgumentKind.TheVariants as argument
use Rattle.nc_forms.specs.LineEnds.{statement_alone}
use Rattle.nc_forms.specs.Parentheses.{is_open, is_close}
use Rattle.nc_forms.specs.Frames.{axis_of, is_slot, frame_value, has_axis, frame_word, frame_word_at, shape_form, turn_end, angle_at, turn_form}
use Rattle.nc_forms.specs.Coordination.{separator_of, separator_at, value_argument_at, axis_of_piece, axis_at, axis_argument_at, arguments_form, clear_form, quoted_at, is_wait, wait_at, wait_after, last_of_init, third, opened_value, init_form, cprot_form, after_text, msg_form, enclosed_at, setms_form}
use Rattle.nc_forms.proofs.Marked.{bound, constant_found}
use Rattle.nc_forms.proofs.Standings.{expression_found, expression_within, piece_within}
use Rattle.nc_forms.proofs.LineEnds.{signed_within}
use Rattle.nc_syntax.proofs.JumpLaws.{named_jump_found, jump_within}
use Rattle.nc_syntax.specs.Wanted.{Mark, mark_at, Wanted, Assigns, Opens, Closes, Commas, Keyword, AJump, Signed, MorePairs, MoreAxes, FrameValue, Angle, TurnEnd, MoreValues, AxisArgument, AfterArgument, ArgumentDigits, MoreArguments, ClearArguments, Quoted, InitLast, Wait, TextOrNot, SetmsAfter, start, Do, Push, Pass, No, want, only_if, more_pairs, axes_want, more_axes, signed_want, turn_want, separator_want, only_digits, axis_argument, and_then, clear_want, text_or_not, quoted_want, wait_want, setms_want, value_want, value_next, Stack}
use Rattle.nc_syntax.proofs.Wanted.{run_at, follow}
use Rattle.nc_syntax.proofs.Stepping.{follow_bind, follow_same, after, one_step}
use Rattle.nc_syntax.proofs.Signs.{assigns, opens, closes, signed_case, expressions}
use Rattle.nc_syntax.proofs.Words.{chain, made, following}
use Rattle.nc_syntax.proofs.MoreOfWords.{slot_is_axis}
use Rattle.nc_syntax.proofs.Forms.{two, ends, ends_with, alone_ends, keywords, commas, named_jumps, perhaps_case, either_way, sure_case}
use Rattle.nc_syntax.proofs.Lists.{onward, Within, list_goes, Inside, list_inside}

-- a number with its sign
pub signs : (words : WordsView) (at : ℕ) (st : Stack) → after words at (signed_want false (piece_at words at) 22) st ≡ follow (constant_at words at 22) (λ p. run_at words p.1 st)
unfolding constant_at after_sign
signs words at st = signed_case words at false st (piece_at words at) refl

pub signed_numbers : (words : WordsView) (at : ℕ) (st : Stack) → run_at words at (Signed ∷ st) ≡ follow (constant_at words at 22) (λ p. run_at words p.1 st)
unfolding want
signed_numbers words at st = one_step words at Signed st ∙ signs words at st

-- CASE
pairs_more_case : (words : WordsView) (at : ℕ) (d : Bool) (p : Piece) →
    after words at (more_pairs d p) [] ≡ cond (begins_number p) (after words at (signed_want false p 22) (AJump ∷ MorePairs ∷ [])) (cond d (run_at words (at + 1) (AJump ∷ [])) (run_at words at []))
pairs_more_case words at d (piece.Number z) = refl
pairs_more_case words at d piece.Plus = refl
pairs_more_case words at d piece.Minus = refl
pairs_more_case words at d p = perhaps_case words at (AJump ∷ []) [] d

default_jump : (words : WordsView) (at : ℕ) → run_at words at (AJump ∷ []) ≡ follow (named_jump words at >>= λ jump. end_at words jump.1 >>= λ end. Ok (Some jump.0)) (λ o. None)
default_jump words at = named_jumps words at [] ∙ chain _ _ _ _ (λ (j : JumpTo × ℕ). ends_with words j.1 (Some j.0))

defaults : (words : WordsView) (at : ℕ) → cond (is_keyword words at (codes "DEFAULT")) (run_at words (at + 1) (AJump ∷ [])) (run_at words at []) ≡ follow (default_at words at) (λ o. None)
unfolding default_at
defaults words at = either_way (is_keyword words at (codes "DEFAULT")) _ _ _ _ _ (default_jump words (at + 1)) (ends_with {A = Option JumpTo} words at None)

pairs_more : (words : WordsView) (at : ℕ) →
    run_at words at (MorePairs ∷ []) ≡ cond (begins_number (piece_at words at)) (run_at words at (Signed ∷ AJump ∷ MorePairs ∷ [])) (follow (default_at words at) (λ o. None))
unfolding want is_keyword
pairs_more words at =
    let b = begins_number (piece_at words at) in
    one_step words at MorePairs []
    ∙ pairs_more_case words at (is_keyword words at (codes "DEFAULT")) (piece_at words at)
    ∙ ap (λ (o : Option ℕ). cond b (after words at (signed_want false (piece_at words at) 22) (AJump ∷ MorePairs ∷ [])) o) (defaults words at)
    ∙ ap (λ (o : Option ℕ). cond b o (follow (default_at words at) (λ o. None))) (sym (one_step words at Signed (AJump ∷ MorePairs ∷ [])))

pair_onward : (words : WordsView) (before : List (ℤ × JumpTo)) (x : ℤ × JumpTo) (at : ℕ) (b : Bool) →
    cond b (run_at words at (Signed ∷ AJump ∷ MorePairs ∷ [])) (follow (default_at words at) (λ o. None)) ≡ onward words (λ ys. Signed ∷ AJump ∷ MorePairs ∷ []) (λ p. follow (default_at words p.1) (λ o. None)) before (x, b, at)
pair_onward words before x at true = refl
pair_onward words before x at false = refl

pair_one : (words : WordsView) (before : List (ℤ × JumpTo)) (at : ℕ) →
    run_at words at (Signed ∷ AJump ∷ MorePairs ∷ []) ≡ follow (pair_at words at) (onward words (λ ys. Signed ∷ AJump ∷ MorePairs ∷ []) (λ p. follow (default_at words p.1) (λ o. None)) before)
unfolding pair_at
pair_one words before at =
    signed_numbers words at (AJump ∷ MorePairs ∷ [])
    ∙ chain _ _ _ _ (λ (z : ℤ × ℕ). named_jumps words z.1 (MorePairs ∷ [])
    ∙ chain _ _ _ _ (λ (j : JumpTo × ℕ). pairs_more words j.1 ∙ pair_onward words before (z.0, j.0) j.1 (begins_number (piece_at words j.1))))

pairs_within : (words : WordsView) → Within {A = ℤ × JumpTo} (λ before. pair_at words) (length words.tokens)
unfolding pair_at
pairs_within words before at x more next e =
    let a = bound _ _ _ e in
    let b = bound _ _ _ a.2 in
    let same : ((a.0.0, b.0.0), begins_number (piece_at words b.0.1), b.0.1) ≡ (x, more, next) = cc in
    let n : b.0.1 ≡ next = ap (λ (q : (ℤ × JumpTo) × Bool × ℕ). q.2) same in
    let v = signed_within words at a.0.1 a.0.0 (constant_found words at 22 a.0.0 a.0.1 a.1) in
    let w = jump_within words a.0.1 b.0.1 b.0.0 (named_jump_found words a.0.1 b.0.1 b.0.0 b.1) in
    (omega (arith, v.0, w.0, n), omega (arith, w.1, n))

case_after : (words : WordsView) (t : Tree) (at : ℕ) →
    run_at words at (Signed ∷ AJump ∷ MorePairs ∷ []) ≡ follow (list_at (λ before. pair_at words) words at >>= λ pairs. default_at words pairs.1 >>= λ other. Ok (Case t pairs.0 other)) (λ s. None)
case_after words t at =
    list_goes {A = ℤ × JumpTo} words (λ before. pair_at words) (λ ys. Signed ∷ AJump ∷ MorePairs ∷ []) (λ p. follow (default_at words p.1) (λ o. None)) (pairs_within words)
    (λ (before : List (ℤ × JumpTo)) (n : ℕ). pair_one words before n) at
    ∙ chain _ _ _ _ (λ (p : List (ℤ × JumpTo) × ℕ). made {B = Statement} (default_at words p.1) (λ other. Case t p.0 other) (λ s. None))

pub case_names_go : (words : WordsView) (at : ℕ) (st : Stack) → run_at words at (Closes false ∷ Keyword (codes "OF") ∷ st) ≡ follow (case_names words at) (λ n. run_at words n st)
unfolding case_names
case_names_go words at st = closes words at false (Keyword (codes "OF") ∷ st) ∙ chain _ _ _ _ (λ (n : ℕ). keywords words n (codes "OF") st)

case_values : (words : WordsView) (at : ℕ) (st : Stack) →
    run_at words at (Opens false ∷ start false ∷ Closes false ∷ Keyword (codes "OF") ∷ st) ≡ follow (case_value words at) (λ p. run_at words p.1 st)
unfolding case_value
case_values words at st =
    opens words at false (start false ∷ Closes false ∷ Keyword (codes "OF") ∷ st)
    ∙ chain _ _ _ _ (λ (n : ℕ). expressions words n (Closes false ∷ Keyword (codes "OF") ∷ st)
    ∙ chain _ _ _ _ (λ (p : Tree × ℕ). case_names_go words p.1 st ∙ made {B = Tree × ℕ} (case_names words p.1) (λ m. (p.0, m)) (following words st)))

pub case_forms : (words : WordsView) (at : ℕ) →
    run_at words at (Opens false ∷ start false ∷ Closes false ∷ Keyword (codes "OF") ∷ Signed ∷ AJump ∷ MorePairs ∷ []) ≡ follow (case_form words at) (λ s. None)
unfolding case_form
case_forms words at = case_values words at (Signed ∷ AJump ∷ MorePairs ∷ []) ∙ chain _ _ _ _ (λ (v : Tree × ℕ). case_after words v.0 v.1)

-- frames
frame_or : (words : WordsView) (at : ℕ) (st : Stack) (b : Bool) →
    after words at (cond b (Push (start false ∷ [])) (signed_want false (piece_at words at) 22)) st
    ≡ follow (cond b (expression_at words (at + 1)) (constant_at words at 22 >>= λ p. Ok (Number p.0, p.1))) (λ p. run_at words p.1 st)
frame_or words at st true = expressions words (at + 1) st
frame_or words at st false = signs words at st ∙ made {B = Tree × ℕ} (constant_at words at 22) (λ p. (Number p.0, p.1)) (following words st)

pub frame_values : (words : WordsView) (at : ℕ) (st : Stack) → run_at words at (FrameValue ∷ st) ≡ follow (frame_value words at) (λ p. run_at words p.1 st)
unfolding want frame_value
frame_values words at st = one_step words at FrameValue st ∙ frame_or words at st (is_assign (piece_at words at))

abbrev used : List (ℕ × Tree) → List ℕ
used before = map (λ (p : ℕ × Tree). p.0) before

axes_end_case : (words : WordsView) (u : List ℕ) (at : ℕ) (p : Piece) → is_end p ≡ true → piece_at words at ≡ p → after words at (more_axes u p) [] ≡ None
unfolding end_at
axes_end_case words u at piece.End h e = ends words at ∙ rw e refl
axes_end_case words u at p h e = cc

axes_end : (words : WordsView) (u : List ℕ) (at : ℕ) → is_end (piece_at words at) ≡ true → run_at words at (MoreAxes u ∷ []) ≡ None
unfolding want
axes_end words u at h = one_step words at (MoreAxes u) [] ∙ axes_end_case words u at (piece_at words at) h refl

frame_onward : (words : WordsView) (before : List (ℕ × Tree)) (axis : ℕ) (p : Tree × ℕ) (b : Bool) → is_end (piece_at words p.1) ≡ b →
    run_at words p.1 (MoreAxes (used before ++ axis ∷ []) ∷ []) ≡ onward words (λ ys. MoreAxes (used ys) ∷ []) (λ q. None) before ((axis, p.0), not b, p.1)
frame_onward words before axis p true h = axes_end words (used before ++ axis ∷ []) p.1 h
frame_onward words before axis p false h =
    ap (λ (u : List ℕ). run_at words p.1 (MoreAxes u ∷ [])) (sym (map-append (λ (q : ℕ × Tree). q.0) before ((axis, p.0) ∷ [])))

new_axis : (words : WordsView) (before : List (ℕ × Tree)) (at axis : ℕ) (b : Bool) →
    after words at (cond b (No 22) (Push (FrameValue ∷ MoreAxes (used before ++ axis ∷ []) ∷ []))) []
    ≡ follow (cond b (Err 22) (◌>>=◌ {B = Item (ℕ × Tree)} (frame_value words (at + 1)) (λ p. Ok ((axis, p.0), not (is_end (piece_at words p.1)), p.1)))) (onward words (λ ys. MoreAxes (used ys) ∷ []) (λ p. None) before)
new_axis words before at axis true = refl
new_axis words before at axis false =
    frame_values words (at + 1) (MoreAxes (used before ++ axis ∷ []) ∷ [])
    ∙ chain _ (λ p. Ok ((axis, p.0), not (is_end (piece_at words p.1)), p.1)) (onward words (λ ys. MoreAxes (used ys) ∷ []) (λ p. None) before) _
    (λ (p : Tree × ℕ). frame_onward words before axis p (is_end (piece_at words p.1)) refl)

axes_case : (words : WordsView) (before : List (ℕ × Tree)) (at : ℕ) (o : Option ℕ) →
    after words at (axes_want (used before) o (piece_at words at)) []
    ≡ follow (frame_word words before at o) (onward words (λ ys. MoreAxes (used ys) ∷ []) (λ p. None) before)
unfolding code_at
axes_case words before at None = refl
axes_case words before at (Some axis) =
    let same : list_any (λ n. n == axis) (used before) ≡ has_axis before axis = any_of_views (λ (q : ℕ × Tree). q.0) (λ n. n == axis) before in
    ap (λ (b : Bool). after words at (cond b (No 22) (Push (FrameValue ∷ MoreAxes (used before ++ axis ∷ []) ∷ []))) []) same
    ∙ new_axis words before at axis (has_axis before axis)

not_end : (words : WordsView) (u : List ℕ) (at : ℕ) (p : Piece) → is_end p ≡ false → after words at (more_axes u p) [] ≡ after words at (axes_want u (axis_of p) p) []
not_end words u at piece.End h = cc
not_end words u at p h = refl

axis_one : (words : WordsView) (before : List (ℕ × Tree)) (at : ℕ) → is_end (piece_at words at) ≡ false →
    run_at words at (MoreAxes (used before) ∷ []) ≡ follow (frame_word_at words before at) (onward words (λ ys. MoreAxes (used ys) ∷ []) (λ p. None) before)
unfolding want frame_word_at
axis_one words before at h =
    one_step words at (MoreAxes (used before)) []
    ∙ not_end words (used before) at (piece_at words at) h
    ∙ axes_case words before at (axis_of (piece_at words at))

frame_parts : (words : WordsView) (before : List (ℕ × Tree)) (at axis : ℕ) (b : Bool) (x : ℕ × Tree) (more : Bool) (next : ℕ) →
    cond b (Err 22) (◌>>=◌ {B = Item (ℕ × Tree)} (frame_value words (at + 1)) (λ p. Ok ((axis, p.0), not (is_end (piece_at words p.1)), p.1))) ≡ Ok (x, more, next) →
    ((t : Tree) × (frame_value words (at + 1) ≡ Ok (t, next))) × (more ≡ not (is_end (piece_at words next)))
frame_parts words before at axis true x more next e = cc
frame_parts words before at axis false x more next e =
    let b = bound _ _ _ e in
    let same : ((axis, b.0.0), not (is_end (piece_at words b.0.1)), b.0.1) ≡ (x, more, next) = cc in
    let n : b.0.1 ≡ next = ap (λ (q : (ℕ × Tree) × Bool × ℕ). q.2) same in
    let f : not (is_end (piece_at words b.0.1)) ≡ more = ap (λ (q : (ℕ × Tree) × Bool × ℕ). q.1) same in
    ((b.0.0, b.1 ∙ ap (λ (k : ℕ). Ok (b.0.0, k)) n), sym f ∙ ap (λ (k : ℕ). not (is_end (piece_at words k))) n)

frame_option : (words : WordsView) (before : List (ℕ × Tree)) (at : ℕ) (o : Option ℕ) (x : ℕ × Tree) (more : Bool) (next : ℕ) →
    frame_word words before at o ≡ Ok (x, more, next) → ((t : Tree) × (frame_value words (at + 1) ≡ Ok (t, next))) × (more ≡ not (is_end (piece_at words next)))
frame_option words before at None x more next e = cc
frame_option words before at (Some axis) x more next e = frame_parts words before at axis (has_axis before axis) x more next e

value_parts : (words : WordsView) (at : ℕ) (b : Bool) (t : Tree) (next : ℕ) →
    cond b (expression_at words (at + 1)) (◌>>=◌ {B = Tree × ℕ} (constant_at words at 22) (λ p. Ok (Number p.0, p.1))) ≡ Ok (t, next) → (at < next) × (next ≤ length words.tokens)
value_parts words at true t next e =
    let w = expression_within words (at + 1) next t (expression_found words (at + 1) next t e) in (omega (arith, w.0), w.1)
value_parts words at false t next e =
    let b = bound _ _ _ e in
    let same : (Number b.0.0, b.0.1) ≡ (t, next) = cc in
    let n : b.0.1 ≡ next = ap (λ (q : Tree × ℕ). q.1) same in
    let w = signed_within words at b.0.1 b.0.0 (constant_found words at 22 b.0.0 b.0.1 b.1) in
    (omega (arith, w.0, n), omega (arith, w.1, n))

frame_within : (words : WordsView) (at : ℕ) (t : Tree) (next : ℕ) → frame_value words at ≡ Ok (t, next) → (at < next) × (next ≤ length words.tokens)
unfolding frame_value
frame_within words at t next e = value_parts words at (is_assign (piece_at words at)) t next e

axes_within : (words : WordsView) → Within (frame_word_at words) (length words.tokens)
unfolding frame_word_at
axes_within words before at x more next e =
    let f = frame_option words before at (axis_of (piece_at words at)) x more next e in
    let w = frame_within words (at + 1) f.0.0 next f.0.1 in
    (omega (arith, w.0), w.1)

not_true : (b : Bool) → true ≡ not b → b ≡ false
not_true true h = cc
not_true false h = refl

axes_inside : (words : WordsView) → Inside words (frame_word_at words)
unfolding frame_word_at
axes_inside words before at x next e =
    let f = frame_option words before at (axis_of (piece_at words at)) x true next e in
    not_true (is_end (piece_at words next)) f.1

shape_or : (words : WordsView) (which : FrameWord) (at : ℕ) (b : Bool) → is_end (piece_at words at) ≡ b →
    run_at words at (MoreAxes [] ∷ []) ≡ follow (cond b (Ok (Shape which [])) (list_at (frame_word_at words) words at >>= λ p. Ok (Shape which p.0))) (λ s. None)
shape_or words which at true h = axes_end words [] at h
shape_or words which at false h =
    list_inside {A = ℕ × Tree} words (frame_word_at words) (λ ys. MoreAxes (used ys) ∷ []) (λ p. None) (axes_within words) (axes_inside words)
    (λ (before : List (ℕ × Tree)) (n : ℕ) (l : is_end (piece_at words n) ≡ false). axis_one words before n l) at h
    ∙ made {B = Statement} (list_at (frame_word_at words) words at) (λ p. Shape which p.0) (λ s. None)

pub shape_forms : (words : WordsView) (which : FrameWord) (at : ℕ) → run_at words at (MoreAxes [] ∷ []) ≡ follow (shape_form words which at) (λ s. None)
unfolding shape_form
shape_forms words which at = shape_or words which at (is_end (piece_at words at)) refl

-- ROT
turn_choice : (b : Bool) (p : Piece) → Some (cond b 50 (code_of p 24)) ≡ follow (cond b (Err 50) (Err (code_of p 24))) (λ (n : ℕ). None)
turn_choice true p = refl
turn_choice false p = refl

turn_or : (words : WordsView) (at : ℕ) (b : Bool) (p : Piece) → (p ≡ piece.End → b ≡ false) → piece_at words at ≡ p →
    after words at (turn_want b p) [] ≡ follow (cond b (Err 50) (end_at words at)) (λ n. None)
unfolding end_at
turn_or words at b piece.End h e = ends words at ∙ rw (h refl) refl
turn_or words at b p h e = turn_choice b p ∙ rw e refl

no_axis : (words : WordsView) (at : ℕ) → piece_at words at ≡ piece.End → (is_slot (piece_at words at) || has_axis_word words at) ≡ false
unfolding has_axis_word has_axis_name
no_axis words at e = rw e refl

turn_ends : (words : WordsView) (at : ℕ) → run_at words at (TurnEnd ∷ []) ≡ follow (turn_end words at) (λ n. None)
unfolding want turn_end
turn_ends words at =
    one_step words at TurnEnd [] ∙ turn_or words at (is_slot (piece_at words at) || has_axis_word words at) (piece_at words at) (λ (e : piece_at words at ≡ piece.End). no_axis words at e) refl

angle_value : (words : WordsView) (at : ℕ) (st : Stack) →
    run_at words at (Assigns false ∷ start false ∷ st) ≡ follow (◌>>=◌ {B = Option Tree × ℕ} (assign_at words at 22) (λ n. expression_at words n >>= λ p. Ok (Some p.0, p.1))) (λ p. run_at words p.1 st)
angle_value words at st =
    assigns words at false (start false ∷ st)
    ∙ chain _ _ _ _ (λ (n : ℕ). expressions words n st ∙ made {B = Option Tree × ℕ} (expression_at words n) (λ p. (Some p.0, p.1)) (following words st))

angles : (words : WordsView) (at : ℕ) (st : Stack) → run_at words at (Angle ∷ st) ≡ follow (angle_at words at) (λ p. run_at words p.1 st)
unfolding want angle_at is_keyword
angles words at st =
    one_step words at Angle st
    ∙ perhaps_case words at (Assigns false ∷ start false ∷ []) st (is_keyword words at (codes "RPL"))
    ∙ either_way (is_keyword words at (codes "RPL")) _ _ _ (Ok (None, at)) (λ p. run_at words p.1 st) (angle_value words (at + 1) st) refl

pub turn_forms : (words : WordsView) (more : Bool) (at : ℕ) → run_at words at (Angle ∷ TurnEnd ∷ []) ≡ follow (turn_form words more at) (λ s. None)
unfolding turn_form
turn_forms words more at =
    angles words at (TurnEnd ∷ [])
    ∙ chain _ _ _ _ (λ (a : Option Tree × ℕ). turn_ends words a.1 ∙ made {B = Statement} (turn_end words a.1) (λ n. Turn more a.0) (λ s. None))

-- arguments
separator_case : (words : WordsView) (at : ℕ) (ws : Stack) (p : Piece) →
    after words at (separator_want ws p) [] ≡ follow (separator_of p (at + 1)) (λ q. cond q.0 (run_at words q.1 ws) (run_at words q.1 []))
separator_case words at ws piece.Comma = ap (λ (s : Stack). run_at words (at + 1) s) (append-nil ws)
separator_case words at ws piece.Close = refl
separator_case words at ws p = refl

separators : (words : WordsView) (at : ℕ) (w : Wanted) (ws : Stack) → want w (mark_at words at) ≡ separator_want ws (piece_at words at) →
    run_at words at (w ∷ []) ≡ follow (separator_at words at) (λ q. cond q.0 (run_at words q.1 ws) (run_at words q.1 []))
unfolding separator_at
separators words at w ws e =
    one_step words at w [] ∙ ap (λ (d : Do). after words at d []) e ∙ separator_case words at ws (piece_at words at)

argument_onward : (words : WordsView) (ws : Stack) (before : List OperandView) (x : OperandView) (q : Bool × ℕ) (b : Bool) →
    cond b (run_at words q.1 ws) (run_at words q.1 []) ≡ onward words (λ ys. ws) (λ p. run_at words p.1 []) before (x, b, q.1)
argument_onward words ws before x q true = refl
argument_onward words ws before x q false = refl

more_values : (words : WordsView) (at : ℕ) → want MoreValues (mark_at words at) ≡ separator_want (start false ∷ MoreValues ∷ []) (piece_at words at)
unfolding want
more_values words at = refl

value_one : (words : WordsView) (before : List OperandView) (at : ℕ) →
    run_at words at (start false ∷ MoreValues ∷ []) ≡ follow (value_argument_at words at) (onward words (λ ys. start false ∷ MoreValues ∷ []) (λ p. run_at words p.1 []) before)
unfolding value_argument_at
value_one words before at =
    expressions words at (MoreValues ∷ [])
    ∙ chain _ _ _ _ (λ (p : Tree × ℕ). separators words p.1 MoreValues (start false ∷ MoreValues ∷ []) (more_values words p.1)
    ∙ chain _ _ _ _ (λ (q : Bool × ℕ). argument_onward words (start false ∷ MoreValues ∷ []) before (Value p.0) q q.0))

separator_piece : (words : WordsView) (at : ℕ) (p : Piece) (q : Bool × ℕ) → piece_at words at ≡ p → separator_of p (at + 1) ≡ Ok q → (at < length words.tokens) × (q.1 ≡ at + 1)
separator_piece words at piece.Comma q e h = (piece_within words at piece.Comma e tt, (let s : (true, at + 1) ≡ q = cc in sym (ap (λ (r : Bool × ℕ). r.1) s)))
separator_piece words at piece.Close q e h = (piece_within words at piece.Close e tt, (let s : (false, at + 1) ≡ q = cc in sym (ap (λ (r : Bool × ℕ). r.1) s)))
separator_piece words at p q e h = cc

separator_within : (words : WordsView) (at : ℕ) (q : Bool × ℕ) → separator_at words at ≡ Ok q → (at < length words.tokens) × (q.1 ≡ at + 1)
unfolding separator_at
separator_within words at q h = separator_piece words at (piece_at words at) q refl h

values_within : (words : WordsView) → Within {A = OperandView} (λ before. value_argument_at words) (length words.tokens)
unfolding value_argument_at
values_within words before at x more next e =
    let a = bound _ _ _ e in
    let b = bound _ _ _ a.2 in
    let same : (Value a.0.0, b.0.0, b.0.1) ≡ (x, more, next) = cc in
    let n : b.0.1 ≡ next = ap (λ (q : OperandView × Bool × ℕ). q.2) same in
    let w = expression_within words at a.0.1 a.0.0 (expression_found words at a.0.1 a.0.0 a.1) in
    let s = separator_within words a.0.1 b.0 b.1 in
    (omega (arith, w.0, s.1, n), omega (arith, s.0, s.1, n))

value_list : (words : WordsView) (at : ℕ) → run_at words at (start false ∷ MoreValues ∷ []) ≡ follow (list_at (λ before. value_argument_at words) words at) (λ p. run_at words p.1 [])
value_list words at =
    list_goes {A = OperandView} words (λ before. value_argument_at words) (λ ys. start false ∷ MoreValues ∷ []) (λ p. run_at words p.1 []) (values_within words)
    (λ (before : List OperandView) (n : ℕ). value_one words before n) at

arguments_after : (words : WordsView) (which : CoordWord) (at : ℕ) →
    run_at words at (start false ∷ MoreValues ∷ []) ≡ follow (list_at (λ before. value_argument_at words) words at >>= λ p. statement_alone words p.1 (Coord which p.0)) (λ s. None)
arguments_after words which at = value_list words at ∙ chain _ _ _ _ (λ (p : List OperandView × ℕ). alone_ends words p.1 (Coord which p.0))

pub argument_forms : (words : WordsView) (which : CoordWord) (at : ℕ) → run_at words at (Opens false ∷ start false ∷ MoreValues ∷ []) ≡ follow (arguments_form words argument.Value which at) (λ s. None)
unfolding arguments_form
argument_forms words which at = opens words at false (start false ∷ MoreValues ∷ []) ∙ chain _ _ _ _ (λ (n : ℕ). arguments_after words which n)

-- axes as arguments
digits_end : (words : WordsView) (at : ℕ) (st : Stack) →
    run_at words at (AfterArgument ∷ st) ≡ cond (has_digits words at) (run_at words (at + 1) st) (run_at words at st)
unfolding want has_digits
digits_end words at st = one_step words at AfterArgument st ∙ perhaps_case words at [] st (is_digits_piece (piece_at words at) (text_at words at))

sure_both : (words : WordsView) (at : ℕ) (st : Stack) (b : Bool) → after words at (only_if b) st ≡ cond b (run_at words (at + 1) st) (Some 22)
sure_both words at st true = refl
sure_both words at st false = refl

digits_must : (words : WordsView) (at : ℕ) (st : Stack) → run_at words at (ArgumentDigits ∷ st) ≡ cond (has_digits words at) (run_at words (at + 1) st) (Some 22)
unfolding want has_digits
digits_must words at st = one_step words at ArgumentDigits st ∙ sure_both words at st (is_digits_piece (piece_at words at) (text_at words at))

axis_cond : (words : WordsView) (b at : ℕ) (st : Stack) (d : Bool) →
    cond d (run_at words (at + 2) st) (run_at words (at + 1) st) ≡ follow {A = List ℕ × ℕ} (cond d (Ok (b ∷ text_at words (at + 1), at + 2)) (Ok (b ∷ [], at + 1))) (λ p. run_at words p.1 st)
axis_cond words b at st true = refl
axis_cond words b at st false = refl

must_cond : (words : WordsView) (b at : ℕ) (st : Stack) (d : Bool) →
    cond d (run_at words (at + 2) st) (Some 22) ≡ follow {A = List ℕ × ℕ} (cond d (Ok (b ∷ text_at words (at + 1), at + 2)) (Err 22)) (λ p. run_at words p.1 st)
must_cond words b at st true = refl
must_cond words b at st false = refl

axis_letters : (words : WordsView) (at b : ℕ) (st : Stack) (s x d : Bool) → (s ≡ true → x ≡ true) →
    d ≡ has_digits words (at + 1) →
    after words at (cond s (Push (AfterArgument ∷ [])) (only_digits x)) st
    ≡ follow {A = List ℕ × ℕ} (cond (x && d) (Ok (b ∷ text_at words (at + 1), at + 2)) (cond s (Ok (b ∷ [], at + 1)) (Err 22))) (λ p. run_at words p.1 st)
axis_letters words at b st true true d h e = digits_end words (at + 1) st ∙ rw (sym e, two at) (axis_cond words b at st d)
axis_letters words at b st true false d h e = let no : false ≡ true = h refl in cc
axis_letters words at b st false true d h e = digits_must words (at + 1) st ∙ rw (sym e, two at) (must_cond words b at st d)
axis_letters words at b st false false d h e = refl

axis_piece : (words : WordsView) (at : ℕ) (st : Stack) (p : Piece) → piece_at words at ≡ p → after words at (axis_argument p) st ≡ follow (axis_of_piece words at p) (λ q. run_at words q.1 st)
unfolding has_axis_name
axis_piece words at st (piece.Letter b) e =
    axis_letters words at b st (is_slot_letter b) (is_axis_letter b) (has_digits words (at + 1)) (slot_is_axis b) refl ∙ rw e refl
axis_piece words at st p e = refl

axes : (words : WordsView) (at : ℕ) (st : Stack) → run_at words at (AxisArgument ∷ st) ≡ follow (axis_at words at) (λ q. run_at words q.1 st)
unfolding want axis_at
axes words at st = one_step words at AxisArgument st ∙ axis_piece words at st (piece_at words at) refl

more_arguments : (words : WordsView) (at : ℕ) → want MoreArguments (mark_at words at) ≡ separator_want (AxisArgument ∷ MoreArguments ∷ []) (piece_at words at)
unfolding want
more_arguments words at = refl

axis_argument_one : (words : WordsView) (before : List OperandView) (at : ℕ) →
    run_at words at (AxisArgument ∷ MoreArguments ∷ []) ≡ follow (axis_argument_at words at) (onward words (λ ys. AxisArgument ∷ MoreArguments ∷ []) (λ p. run_at words p.1 []) before)
unfolding axis_argument_at
axis_argument_one words before at =
    axes words at (MoreArguments ∷ [])
    ∙ chain _ _ _ _ (λ (p : List ℕ × ℕ). separators words p.1 MoreArguments (AxisArgument ∷ MoreArguments ∷ []) (more_arguments words p.1)
    ∙ chain _ _ _ _ (λ (q : Bool × ℕ). argument_onward words (AxisArgument ∷ MoreArguments ∷ []) before (AxisName p.0) q q.0))

axis_choice : (words : WordsView) (at b : ℕ) (x s : Bool) (p : List ℕ × ℕ) → cond {A = Result (List ℕ × ℕ) ℕ} x (Ok (b ∷ text_at words (at + 1), at + 2)) (cond s (Ok (b ∷ [], at + 1)) (Err 22)) ≡ Ok p → at < p.1
axis_choice words at b true s p e = let same : (b ∷ text_at words (at + 1), at + 2) ≡ p = cc in let n : at + 2 ≡ p.1 = ap (λ (q : List ℕ × ℕ). q.1) same in omega (arith, n)
axis_choice words at b false true p e = let same : (b ∷ [], at + 1) ≡ p = cc in let n : at + 1 ≡ p.1 = ap (λ (q : List ℕ × ℕ). q.1) same in omega (arith, n)
axis_choice words at b false false p e = cc

axis_bound : (words : WordsView) (at : ℕ) (p : Piece) (q : List ℕ × ℕ) → axis_of_piece words at p ≡ Ok q → at < q.1
axis_bound words at (piece.Letter b) q e = axis_choice words at b (has_axis_name words at) ((b == 88) || (b == 89) || (b == 90)) q e
axis_bound words at p q e = cc

axis_at_bound : (words : WordsView) (at : ℕ) (q : List ℕ × ℕ) → axis_at words at ≡ Ok q → at < q.1
unfolding axis_at
axis_at_bound words at q e = axis_bound words at (piece_at words at) q e

arguments_within : (words : WordsView) → Within {A = OperandView} (λ before. axis_argument_at words) (length words.tokens)
unfolding axis_argument_at
arguments_within words before at x more next e =
    let a = bound _ _ _ e in
    let b = bound _ _ _ a.2 in
    let same : (AxisName a.0.0, b.0.0, b.0.1) ≡ (x, more, next) = cc in
    let n : b.0.1 ≡ next = ap (λ (q : OperandView × Bool × ℕ). q.2) same in
    let w = axis_at_bound words at a.0 a.1 in
    let s = separator_within words a.0.1 b.0 b.1 in
    (omega (arith, w, s.1, n), omega (arith, s.0, s.1, n))

axis_list : (words : WordsView) (at : ℕ) → run_at words at (AxisArgument ∷ MoreArguments ∷ []) ≡ follow (list_at (λ before. axis_argument_at words) words at) (λ p. run_at words p.1 [])
axis_list words at =
    list_goes {A = OperandView} words (λ before. axis_argument_at words) (λ ys. AxisArgument ∷ MoreArguments ∷ []) (λ p. run_at words p.1 []) (arguments_within words)
    (λ (before : List OperandView) (n : ℕ). axis_argument_one words before n) at

pub axes_forms : (words : WordsView) (which : CoordWord) (at : ℕ) → run_at words at (Opens false ∷ AxisArgument ∷ MoreArguments ∷ []) ≡ follow (arguments_form words argument.Axis which at) (λ s. None)
unfolding arguments_form
axes_forms words which at =
    opens words at false (AxisArgument ∷ MoreArguments ∷ [])
    ∙ chain _ _ _ _ (λ (n : ℕ). axis_list words n ∙ chain _ _ _ _ (λ (p : List OperandView × ℕ). alone_ends words p.1 (Coord which p.0)))

-- CLEARM
and_then_case : (words : WordsView) (at : ℕ) (d : Do) → (d ≡ Pass → ⊥) → after words at (and_then (MoreValues ∷ []) d) [] ≡ after words at d (MoreValues ∷ [])
and_then_case words at (Push ws) h = ap (λ (s : Stack). run_at words (at + 1) s) (append-nil (ws ++ MoreValues ∷ []))
and_then_case words at Pass h = absurd (h refl)
and_then_case words at (No code) h = refl

-- INIT and CPROT
opened_values : (words : WordsView) (at : ℕ) (st : Stack) → run_at words at (Opens false ∷ start false ∷ Commas ∷ st) ≡ follow (opened_value words at) (λ p. run_at words p.1 st)
unfolding opened_value
opened_values words at st =
    opens words at false (start false ∷ Commas ∷ st)
    ∙ chain _ _ _ _ (λ (n : ℕ). expressions words n (Commas ∷ st)
    ∙ chain _ _ _ _ (λ (p : Tree × ℕ). commas words p.1 st ∙ made {B = OperandView × ℕ} (comma_at words p.1) (λ m. (Value p.0, m)) (following words st)))

pub cprot_forms : (words : WordsView) (which : CoordWord) (at : ℕ) →
    run_at words at (Opens false ∷ start false ∷ Commas ∷ start false ∷ Closes false ∷ []) ≡ follow (cprot_form words which at) (λ s. None)
unfolding cprot_form
cprot_forms words which at =
    opened_values words at (start false ∷ Closes false ∷ [])
    ∙ chain _ _ _ _ (λ (z : OperandView × ℕ). expressions words z.1 (Closes false ∷ [])
    ∙ chain _ _ _ _ (λ (s : Tree × ℕ). closes words s.1 false []
    ∙ chain _ _ _ _ (λ (n : ℕ). alone_ends words n (Coord which (z.0 ∷ Value s.0 ∷ [])))))

quoted_case : (words : WordsView) (at : ℕ) (st : Stack) (p : Piece) (f : List ℕ → Option ℕ) → ((text : List ℕ) → run_at words (at + 1) st ≡ f text) →
    after words at (quoted_want p) st ≡ follow (cond (is_text p) (Ok (text_within_quotes (text_at words at))) (Err 22)) f
quoted_case words at st piece.Text f h = h (text_within_quotes (text_at words at))
quoted_case words at st p f h = refl

quotes : (words : WordsView) (at : ℕ) (st : Stack) (f : List ℕ → Option ℕ) → ((text : List ℕ) → run_at words (at + 1) st ≡ f text) → run_at words at (Quoted ∷ st) ≡ follow (quoted_at words at) f
unfolding want quoted_at
quotes words at st f h = one_step words at Quoted st ∙ quoted_case words at st (piece_at words at) f h

wait_case : (words : WordsView) (at : ℕ) (st : Stack) (p : Piece) (f : List ℕ → Option ℕ) → ((text : List ℕ) → run_at words (at + 1) st ≡ f text) →
    after words at (wait_want p (text_at words at)) st
    ≡ follow (cond (is_text p) (Ok (text_within_quotes (text_at words at))) (Err 22) >>= λ text. cond (is_wait text) (Ok text) (Err 22)) f
wait_case words at st piece.Text f h = sure_case words at st (is_wait (text_within_quotes (text_at words at))) (text_within_quotes (text_at words at)) f (sym (h (text_within_quotes (text_at words at))))
wait_case words at st p f h = refl

waits : (words : WordsView) (at : ℕ) (st : Stack) (f : List ℕ → Option ℕ) → ((text : List ℕ) → run_at words (at + 1) st ≡ f text) → run_at words at (Wait ∷ st) ≡ follow (wait_at words at) f
unfolding want wait_at quoted_at
waits words at st f h = one_step words at Wait st ∙ wait_case words at st (piece_at words at) f h

wait_more : (words : WordsView) (q : Bool × ℕ) (b : Bool) →
    cond b (run_at words q.1 (Wait ∷ Closes false ∷ [])) (run_at words q.1 []) ≡ follow (wait_after words (b, q.1)) (λ p. run_at words p.1 [])
wait_more words q true =
    waits words q.1 (Closes false ∷ []) (λ text. follow (◌>>=◌ {B = Option (List ℕ) × ℕ} (close_at words (q.1 + 1) 22) (λ n. Ok (Some text, n))) (λ p. run_at words p.1 []))
    (λ (text : List ℕ). closes words (q.1 + 1) false [] ∙ made {B = Option (List ℕ) × ℕ} (close_at words (q.1 + 1) 22) (λ n. (Some text, n)) (λ p. run_at words p.1 []))
    ∙ sym (follow_bind (wait_at words q.1) (λ text. ◌>>=◌ {B = Option (List ℕ) × ℕ} (close_at words (q.1 + 1) 22) (λ n. Ok (Some text, n))) (λ p. run_at words p.1 []))
wait_more words q false = refl

init_last : (words : WordsView) (at : ℕ) → want InitLast (mark_at words at) ≡ separator_want (Wait ∷ Closes false ∷ []) (piece_at words at)
unfolding want
init_last words at = refl

lasts : (words : WordsView) (at : ℕ) → run_at words at (InitLast ∷ []) ≡ follow (last_of_init words at) (λ p. run_at words p.1 [])
unfolding last_of_init
lasts words at =
    separators words at InitLast (Wait ∷ Closes false ∷ []) (init_last words at)
    ∙ chain _ _ _ _ (λ (q : Bool × ℕ). wait_more words q q.0)

init_after : (words : WordsView) (which : CoordWord) (at : ℕ) (c : OperandView) (program : List ℕ) →
    run_at words at (InitLast ∷ []) ≡ follow (last_of_init words at >>= λ more. statement_alone words more.1 (Coord which (c ∷ Text program ∷ third more.0))) (λ s. None)
init_after words which at c program =
    lasts words at ∙ chain _ _ _ _ (λ (m : Option (List ℕ) × ℕ). alone_ends words m.1 (Coord which (c ∷ Text program ∷ third m.0)))

pub init_forms : (words : WordsView) (which : CoordWord) (at : ℕ) →
    run_at words at (Opens false ∷ start false ∷ Commas ∷ Quoted ∷ InitLast ∷ []) ≡ follow (init_form words which at) (λ s. None)
unfolding init_form
init_forms words which at =
    opened_values words at (Quoted ∷ InitLast ∷ [])
    ∙ chain _ _ _ _ (λ (c : OperandView × ℕ).
    quotes words c.1 (InitLast ∷ []) (λ program. follow (last_of_init words (c.1 + 1) >>= λ more. statement_alone words more.1 (Coord which (c.0 ∷ Text program ∷ third more.0))) (λ s. None))
    (λ (program : List ℕ). init_after words which (c.1 + 1) c.0 program)
    ∙ sym (follow_bind (quoted_at words c.1) (λ program. last_of_init words (c.1 + 1) >>= λ more. statement_alone words more.1 (Coord which (c.0 ∷ Text program ∷ third more.0))) (λ s. None)))

-- messages
text_case : (words : WordsView) (at : ℕ) (st : Stack) (p : Piece) → after words at (text_or_not p) st ≡ run_at words (cond (is_text p) (at + 1) at) st
text_case words at st piece.Text = refl
text_case words at st p = refl

texts : (words : WordsView) (at : ℕ) (st : Stack) → run_at words at (TextOrNot ∷ st) ≡ run_at words (after_text words at) st
unfolding want
texts words at st = one_step words at TextOrNot st ∙ text_case words at st (piece_at words at)

pub msg_forms : (words : WordsView) (at : ℕ) → run_at words at (Opens false ∷ TextOrNot ∷ Closes false ∷ []) ≡ follow (msg_form words at) (λ s. None)
unfolding msg_form
msg_forms words at =
    opens words at false (TextOrNot ∷ Closes false ∷ [])
    ∙ chain _ _ _ _ (λ (n : ℕ). texts words n (Closes false ∷ []) ∙ closes words (after_text words n) false []
    ∙ chain _ _ _ _ (λ (m : ℕ). alone_ends words m Message))

setms_case : (words : WordsView) (at : ℕ) (p : Piece) → after words at (setms_want p) [] ≡ cond (is_open p) (run_at words (at + 1) (start false ∷ Closes false ∷ [])) (run_at words at [])
setms_case words at piece.Open = refl
setms_case words at p = refl

open_found : (words : WordsView) (at : ℕ) (p : Piece) → piece_at words at ≡ p → is_open p ≡ true → open_at words at 22 ≡ Ok (at + 1)
unfolding open_at
open_found words at piece.Open e h = rw e refl
open_found words at p e h = cc

setms_or : (words : WordsView) (at : ℕ) (b : Bool) → is_open (piece_at words at) ≡ b →
    cond b (run_at words (at + 1) (start false ∷ Closes false ∷ [])) (run_at words at []) ≡ follow (cond b (enclosed_at words at >>= λ end. statement_alone words end Message) (statement_alone words at Message)) (λ s. None)
unfolding enclosed_at
setms_or words at true h =
    rw (open_found words at (piece_at words at) refl h) (
    expressions words (at + 1) (Closes false ∷ [])
    ∙ chain (expression_at words (at + 1)) (λ p. close_at words p.1 22) (λ n. follow (statement_alone words n Message) (λ s. None)) _ (λ (p : Tree × ℕ). closes words p.1 false []
    ∙ follow_same (close_at words p.1 22) (λ n. run_at words n []) (λ n. follow (statement_alone words n Message) (λ s. None)) (λ (n : ℕ). alone_ends words n Message))
    ∙ sym (follow_bind (expression_at words (at + 1) >>= λ p. close_at words p.1 22) (λ n. statement_alone words n Message) (λ s. None)))
setms_or words at false h = alone_ends words at Message

pub setms_forms : (words : WordsView) (at : ℕ) → run_at words at (SetmsAfter ∷ []) ≡ follow (setms_form words at) (λ s. None)
unfolding want setms_form
setms_forms words at = one_step words at SetmsAfter [] ∙ setms_case words at (piece_at words at) ∙ setms_or words at (is_open (piece_at words at)) refl

abbrev GoesAhead : machine.Next → Type 0
GoesAhead (machine.On state) = Unit {0}
GoesAhead (machine.Ends t) = ⊥
GoesAhead (machine.Refuse code) = Unit {0}

sign_ahead : (op : BinaryOp) → GoesAhead (machine.on_sign op [] Plain)
unfolding machine.on_sign
sign_ahead binary.Add = tt
sign_ahead binary.Sub = tt
sign_ahead binary.Mul = tt
sign_ahead binary.Div = tt
sign_ahead binary.WholeDiv = tt
sign_ahead binary.Modulo = tt
sign_ahead binary.And = tt
sign_ahead binary.Or = tt
sign_ahead binary.Xor = tt
sign_ahead binary.Equal = tt
sign_ahead binary.NotEqual = tt
sign_ahead binary.Greater = tt
sign_ahead binary.Less = tt
sign_ahead binary.GreaterEqual = tt
sign_ahead binary.LessEqual = tt

begins_ahead : (s : Symbol) → GoesAhead (machine.step all_limits (machine.Wants [] Plain) s)
unfolding machine.step machine.on_operand machine.next_in_bracket
begins_ahead (symbol.Number z digits) = tt
begins_ahead (symbol.Truth b) = tt
begins_ahead (symbol.Operator op) = sign_ahead op
begins_ahead symbol.Not = tt
begins_ahead (symbol.Function f) = tt
begins_ahead symbol.Letter = tt
begins_ahead symbol.Open = tt
begins_ahead symbol.Close = tt
begins_ahead symbol.OpenBracket = tt
begins_ahead symbol.CloseBracket = tt
begins_ahead symbol.Exponent = tt
begins_ahead symbol.Other = tt

next_moves : (m : Mark) (n : machine.Next) → GoesAhead n → value_next false m n ≡ Pass → ⊥
next_moves m (machine.On state) g h = cc
next_moves m (machine.Ends t) g h = absurd g
next_moves m (machine.Refuse code) g h = cc

start_moves : (m : Mark) (o : Option Symbol) → value_want false (machine.Wants [] Plain) m o ≡ Pass → ⊥
unfolding machine.finish
start_moves m (Some s) h = next_moves m (machine.step all_limits (machine.Wants [] Plain) s) (begins_ahead s) h
start_moves m None h = cc

clear_case : (words : WordsView) (at : ℕ) (p : Piece) →
    after words at (clear_want (mark_at words at) p) [] ≡ cond (is_close p) (run_at words (at + 1) []) (after words at (value_want false (machine.Wants [] Plain) (mark_at words at) (mark_at words at).symbol) (MoreValues ∷ []))
clear_case words at piece.Close = refl
clear_case words at p =
    and_then_case words at (value_want false (machine.Wants [] Plain) (mark_at words at) (mark_at words at).symbol) (start_moves (mark_at words at) (mark_at words at).symbol)

clears : (words : WordsView) (at : ℕ) → run_at words at (ClearArguments ∷ []) ≡ cond (is_close (piece_at words at)) (run_at words (at + 1) []) (run_at words at (start false ∷ MoreValues ∷ []))
unfolding want
clears words at =
    let b = is_close (piece_at words at) in
    one_step words at ClearArguments [] ∙ clear_case words at (piece_at words at)
    ∙ ap (λ (o : Option ℕ). cond b (run_at words (at + 1) []) o) (sym (one_step words at (start false) (MoreValues ∷ [])))

clear_or : (words : WordsView) (which : CoordWord) (at : ℕ) (b : Bool) (r : Result ℕ ℕ) → ((n : ℕ) → r ≡ Ok n → n ≡ at + 1) → is_close (piece_at words (at + 1)) ≡ b →
    follow r (λ n. run_at words n (ClearArguments ∷ []))
    ≡ follow (cond b (r >>= λ first. statement_alone words (at + 2) (Coord which [])) (r >>= λ first. list_at (λ before. value_argument_at words) words first >>= λ p. statement_alone words p.1 (Coord which p.0))) (λ s. None)
clear_or words which at true (Ok n) f h =
    let e : n ≡ at + 1 = f n refl in
    clears words n ∙ rw (e, h, two at) (alone_ends words (at + 2) (Coord which []))
clear_or words which at false (Ok n) f h =
    let e : n ≡ at + 1 = f n refl in
    clears words n ∙ rw (e, h) (arguments_after words which (at + 1))
clear_or words which at true (Err code) f h = refl
clear_or words which at false (Err code) f h = refl

open_next : (at code : ℕ) (p : Piece) (n : ℕ) → open_of p (at + 1) code ≡ Ok n → n ≡ at + 1
open_next at code piece.Open n h = cc
open_next at code p n h = cc

pub clear_forms : (words : WordsView) (which : CoordWord) (at : ℕ) → run_at words at (Opens false ∷ ClearArguments ∷ []) ≡ follow (clear_form words which at) (λ s. None)
unfolding clear_form arguments_form open_at
clear_forms words which at =
    opens words at false (ClearArguments ∷ [])
    ∙ clear_or words which at (is_close (piece_at words (at + 1))) (open_at words at 22) (λ (n : ℕ) (h : open_at words at 22 ≡ Ok n). open_next at 22 (piece_at words at) n h) refl
