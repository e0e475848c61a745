-- The whole block: the reader by tokens goes on as the reader of the line.
use Rattle.std.proofs.Common.{◌≡◌, ℕ, ◌+◌, ◌<◌, ◌≤◌, List, [], ◌∷◌, length, drop, refl, ap, sym, ◌∙◌, subst, inl, inr, Option, Some, None, Ok, Err, Bool, true, false, cond}
use Rattle.std.specs.Prelude.{◌==◌, ◌&&◌, nat_le}
use Rattle.std.proofs.lemmas.Bool.{cases_lt, eqb-true}
use Rattle.std.proofs.lemmas.List.{drop_more, drop_all}
use Rattle.block_scanner.specs.declared.Kind.TheVariants as kind
use Rattle.block_scanner.specs.declared.Token.{Token}
use Rattle.block_scanner.specs.WordsView.{WordsView}
use Rattle.name_tables.specs.Tables.{is_table_word}
use Rattle.nc_expressions.specs.Value.{◌>>=◌}
use Rattle.nc_expressions.specs.Symbols.{is_digits}
use Rattle.nc_blocks.specs.declared.blocks.CoordWord.{CoordWord}
use Rattle.nc_blocks.specs.declared.blocks.CoordWord.TheVariants as coord
use Rattle.nc_blocks.specs.declared.pieces.Piece.{Piece}
use Rattle.nc_blocks.specs.declared.pieces.Piece.TheVariants as piece
use Rattle.nc_expressions.specs.NameTexts.{name_of}
use Rattle.nc_blocks.specs.Pieces.{piece_at, text_at}
use Rattle.nc_blocks.specs.Reading.{whole, block_number, block_number_at}
use Rattle.nc_blocks.specs.Statement.{Statement, BlockView, Else, EndIf, While, EndWhile, Until, Loop, EndLoop, EndFor, Return, Message}
use Rattle.nc_blocks.specs.Wording.{words_form}
use Rattle.nc_syntax.specs.declared.bodies.Control.{Control}
use Rattle.nc_syntax.specs.declared.bodies.Control.TheVariants as control
use Rattle.nc_syntax.specs.declared.bodies.Form.{Form}
use Rattle.nc_syntax.specs.declared.bodies.Form.TheVariants as form
use Rattle.nc_syntax.specs.Structures.{has_close, is_letter, number_name, number_call_form, call_form}
use Rattle.nc_syntax.specs.Bodies.{form_of, control_form, form_body, named_form, named_body, is_number, lettered_body, body_of, body_at}
use Rattle.nc_forms.specs.Coordination.{coordination_form, workpiece_form}
use Rattle.nc_syntax.specs.Blocks.{is_slash, is_colon, skip_of, has_number, number_at, label_at, head_of, with_label, block_of}
use Rattle.nc_syntax.specs.Wanted.{Mark, mark_at, Opens, Anything, AfterL, AWord, MoreWords, Do, Push, Pass, No, want, name_want, word_want, call_name, call_want, on_stack, Stack, Next, On, Done, Refuse, on_mark}
use Rattle.nc_syntax.proofs.Wanted.{last, go, run, run_at, follow}
use Rattle.nc_syntax.proofs.Stepping.{follow_bind, follow_same, after, one_step, Takes, at_end, end_mark, mark_past}
use Rattle.nc_syntax.proofs.Words.{chain, made}
use Rattle.nc_syntax.proofs.Forms.{two, alone_ends, last_expressions, jump_forms, if_forms, for_forms, repeat_forms, repeat_block_forms, proc_forms, call_forms}
use Rattle.nc_syntax.proofs.Lists.{Moves, name_moves, word_blocks}
use Rattle.nc_syntax.proofs.MoreForms.{case_forms, shape_forms, turn_forms, argument_forms, axes_forms, clear_forms, init_forms, cprot_forms, msg_forms, setms_forms}
use Rattle.nc_syntax.specs.Forms.{AtBody, AtLabel, AtStart, Beginning, AfterN, AfterSlash, Goes, Head, HeadNext, HeadOn, Named, Over, Refused, Stops, Within, beginning, beginning_more, beginning_next, after_n, after_slash, block_number_step, body_step, control_stack, coordination_stack, form_beginning, form_stack, head_step, body_next, label_step, letter_body, named_step, number_step, plain_beginning, start_step, word_beginning}

control_go : (words : WordsView) (which : Control) (at : ℕ) → run_at words at (control_stack which) ≡ follow (control_form words which at) (λ s. None)
unfolding control_form
control_go words control.If at = if_forms words at
control_go words control.Else at = alone_ends words at Else
control_go words control.EndIf at = alone_ends words at EndIf
control_go words control.While at = last_expressions {A = Statement} words at (λ t. While t)
control_go words control.EndWhile at = alone_ends words at EndWhile
control_go words control.Until at = last_expressions {A = Statement} words at (λ t. Until t)
control_go words control.Loop at = alone_ends words at Loop
control_go words control.EndLoop at = alone_ends words at EndLoop
control_go words control.For at = for_forms words at
control_go words control.EndFor at = alone_ends words at EndFor
control_go words control.Case at = case_forms words at
control_go words control.Repeat at = repeat_forms words at
control_go words control.RepeatBlock at = repeat_block_forms words at
control_go words control.Return at = alone_ends words at Return
control_go words control.Proc at = proc_forms words at

coordination_go : (words : WordsView) (which : CoordWord) (at : ℕ) → run_at words at (coordination_stack which) ≡ follow (coordination_form words which at) (λ s. None)
unfolding coordination_form
coordination_go words coord.WaitM at = argument_forms words coord.WaitM at
coordination_go words coord.WaitMC at = argument_forms words coord.WaitMC at
coordination_go words coord.SetM at = argument_forms words coord.SetM at
coordination_go words coord.ClearM at = clear_forms words coord.ClearM at
coordination_go words coord.Init at = init_forms words coord.Init at
coordination_go words coord.Start at = argument_forms words coord.Start at
coordination_go words coord.WaitE at = argument_forms words coord.WaitE at
coordination_go words coord.Release at = axes_forms words coord.Release at
coordination_go words coord.Get at = axes_forms words coord.Get at
coordination_go words coord.CProt at = cprot_forms words coord.CProt at

-- the law of WORKPIECE is given
abbrev pub IsWorked : WordsView → Type 0
IsWorked words = (at : ℕ) → run_at words at (Opens false ∷ Anything false ∷ []) ≡ follow (workpiece_form words at) (λ s. None)

form_go : (words : WordsView) → IsWorked words → (which : Form) (at : ℕ) → run_at words at (form_stack which) ≡ follow (form_body words which at) (λ s. None)
unfolding form_body
form_go words w (form.Jump way) at = jump_forms words way at
form_go words w (form.Control which) at = control_go words which at
form_go words w (form.Shape which) at = shape_forms words which at
form_go words w (form.Turn more) at = turn_forms words more at
form_go words w (form.Coord which) at = coordination_go words which at
form_go words w form.Msg at = msg_forms words at
form_go words w form.Stopre at = alone_ends words at Message
form_go words w form.Setms at = setms_forms words at
form_go words w form.Workpiece at = w at

abbrev pub begun_at : WordsView → ℕ → Beginning → Option ℕ
begun_at words at (Goes st) = run_at words at st
begun_at words at (Stops code) = Some code

word_begun_case : (words : WordsView) (at : ℕ) (d : Do) → Moves d → begun_at words (at + 1) (word_beginning d) ≡ after words at d (MoreWords ∷ [])
word_begun_case words at (Push ws) h = refl
word_begun_case words at Pass h = absurd h
word_begun_case words at (No code) h = refl

word_step : (words : WordsView) (at : ℕ) (text : List ℕ) → piece_at words at ≡ piece.Name → text_at words at ≡ text → after words at (name_want text) (MoreWords ∷ []) ≡ follow (words_form words at) (λ s. None)
unfolding want
word_step words at text e t =
    let d : want AWord (mark_at words at) ≡ name_want text = rw (e, t) refl in
    ap (λ (x : Do). after words at x (MoreWords ∷ [])) (sym d) ∙ sym (one_step words at AWord (MoreWords ∷ [])) ∙ word_blocks words at

plain_go : (words : WordsView) (text : List ℕ) (at : ℕ) (b : Bool) → piece_at words at ≡ piece.Name → text_at words at ≡ text →
    begun_at words (at + 1) (plain_beginning b text) ≡ follow (cond b (words_form words at) (call_form words (name_of text) (at + 1))) (λ s. None)
plain_go words text at true e t = word_begun_case words at (name_want text) (name_moves text) ∙ word_step words at text e t
plain_go words text at false e t = call_forms words (name_of text) (at + 1)

option_go : (words : WordsView) → IsWorked words → (text : List ℕ) (at : ℕ) (o : Option Form) → piece_at words at ≡ piece.Name → text_at words at ≡ text →
    begun_at words (at + 1) (form_beginning o text) ≡ follow (named_form words o text at) (λ s. None)
option_go words w text at (Some which) e t = form_go words w which (at + 1)
option_go words w text at None e t = plain_go words text at (is_table_word text) e t

pub named_go : (words : WordsView) → IsWorked words → (text : List ℕ) (at : ℕ) → piece_at words at ≡ piece.Name → text_at words at ≡ text →
    begun_at words (at + 1) (beginning text) ≡ follow (named_body words text at) (λ s. None)
unfolding beginning named_body
named_go words w text at e t = option_go words w text at (form_of text) e t

-- L
l_case : (words : WordsView) (at : ℕ) (digits : List ℕ) (b : Bool) → after words at (call_name b) [] ≡ follow (cond b (Ok (76 ∷ digits)) (Err 22) >>= λ name. call_form words name (at + 1)) (λ s. None)
l_case words at digits true = call_forms words (76 ∷ digits) (at + 1)
l_case words at digits false = refl

call_case : (words : WordsView) (at : ℕ) (p : Piece) →
    after words at (call_want p (text_at words at)) [] ≡ cond (is_number p) (follow (number_call_form words at) (λ s. None)) (Some 27)
unfolding number_call_form number_name
call_case words at (piece.Number z) = l_case words at (text_at words at) (is_digits (text_at words at) && nat_le (length (text_at words at)) 31)
call_case words at p = refl

calls : (words : WordsView) (at : ℕ) → run_at words at (AfterL ∷ []) ≡ cond (is_number (piece_at words at)) (follow (number_call_form words at) (λ s. None)) (Some 27)
unfolding want
calls words at = one_step words at AfterL [] ∙ call_case words at (piece_at words at)

no_address : (words : WordsView) (at b : ℕ) → piece_at words at ≡ piece.Letter b → word_want (piece.Letter b) (text_at words at) ≡ No 27 → follow (words_form words at) (λ s. None) ≡ Some 27
unfolding want
no_address words at b e h =
    let d : want AWord (mark_at words at) ≡ No 27 = ap (λ (p : Piece). word_want p (text_at words at)) e ∙ h in
    sym (word_blocks words at) ∙ one_step words at AWord (MoreWords ∷ []) ∙ ap (λ (x : Do). after words at x (MoreWords ∷ [])) d

l_or : (words : WordsView) (at : ℕ) (b : Bool) → piece_at words at ≡ piece.Letter 76 →
    cond b (follow (number_call_form words (at + 1)) (λ s. None)) (Some 27) ≡ follow (cond b (number_call_form words (at + 1)) (words_form words at)) (λ s. None)
l_or words at true e = refl
l_or words at false e = sym (no_address words at 76 e refl)

pub l_go : (words : WordsView) (at : ℕ) → piece_at words at ≡ piece.Letter 76 → run_at words (at + 1) (AfterL ∷ []) ≡ follow (lettered_body words 76 at) (λ s. None)
unfolding lettered_body
l_go words at e = calls words (at + 1) ∙ l_or words at (is_number (piece_at words (at + 1))) e

-- nothing goes on after the end of the line
abbrev pub Stays : Next → Type 0
Stays (On st) = ⊥
Stays Done = Unit {0}
Stays (Refuse code) = Unit {0}

act_stays : (d : Do) (st : Stack) (n : Next) → Takes d → Stays n → Stays (on_stack d st n)
act_stays (Push ws) st n t s = absurd t
act_stays Pass st n t s = s
act_stays (No code) st n t s = tt

pub end_stays : (text : List ℕ) (c a l : Bool) (r : ℕ) (st : Stack) → Stays (on_mark st (end_mark text c a l r))
unfolding on_mark
end_stays text c a l r [] = tt
end_stays text c a l r (w ∷ st) = act_stays (want w (end_mark text c a l r)) st (on_mark st (end_mark text c a l r)) (at_end text c a l r w) (end_stays text c a l r st)

abbrev pub head_last : HeadNext → Option ℕ
head_last (HeadOn h) = Some 22
head_last Over = None
head_last (Refused code) = Some code

abbrev pub head_go : HeadNext → (Head → Option ℕ) → Option ℕ
head_go (HeadOn h) rest = rest h
head_go Over rest = None
head_go (Refused code) rest = Some code

unfoldable pub head_run : WordsView → List Token → ℕ → Head → Option ℕ
head_run words [] at h = head_last (head_step h (mark_at words at))
head_run words (token ∷ tokens) at h = head_go (head_step h (mark_at words at)) (head_run words tokens (at + 1))

-- the refusal of the line from a place on, if there is one
unfoldable pub head_at : WordsView → ℕ → Head → Option ℕ
head_at words at h = head_run words (drop at words.tokens) at h

inside_last : (n : Next) → head_last (body_next n) ≡ last n
inside_last (On st) = refl
inside_last Done = refl
inside_last (Refuse code) = refl

inside_go : (n : Next) (f : Head → Option ℕ) (g : Stack → Option ℕ) → ((st : Stack) → f (Within st) ≡ g st) → head_go (body_next n) f ≡ go n g
inside_go (On st) f g h = h st
inside_go Done f g h = refl
inside_go (Refuse code) f g h = refl

within_run : (words : WordsView) (tokens : List Token) (at : ℕ) (st : Stack) → head_run words tokens at (Within st) ≡ run words tokens at st
unfolding head_run run head_step
within_run words [] at st = inside_last (on_mark st (mark_at words at))
within_run words (t ∷ ts) at st = inside_go (on_mark st (mark_at words at)) (head_run words ts (at + 1)) (run words ts (at + 1)) (λ (s : Stack). within_run words ts (at + 1) s)

pub within_at : (words : WordsView) (at : ℕ) (st : Stack) → head_at words at (Within st) ≡ run_at words at st
unfolding head_at run_at
within_at words at st = within_run words (drop at words.tokens) at st

pub head_on : (words : WordsView) (at : ℕ) (h : Head) → at < length words.tokens → head_at words at h ≡ head_go (head_step h (mark_at words at)) (λ next. head_at words (at + 1) next)
unfolding head_at head_run
head_on words at h l =
    let d : Token = record { kind = kind.Name; start = 0; end = 0 } in
    rw (drop_more words.tokens at d l) refl

pub head_past : (words : WordsView) (at : ℕ) (h : Head) → length words.tokens ≤ at → head_at words at h ≡ head_last (head_step h (mark_at words at))
unfolding head_at head_run
head_past words at h l = rw (drop_all at words.tokens l) refl

-- what becomes of the line
abbrev pub head_after : WordsView → ℕ → HeadNext → Option ℕ
head_after words at (HeadOn h) = head_at words (at + 1) h
head_after words at Over = None
head_after words at (Refused code) = Some code

abbrev pub HeadStays : HeadNext → Type 0
HeadStays (HeadOn h) = ⊥
HeadStays Over = Unit {0}
HeadStays (Refused code) = Unit {0}

inside_stays : (n : Next) → Stays n → HeadStays (body_next n)
inside_stays (On st) s = absurd s
inside_stays Done s = tt
inside_stays (Refuse code) s = tt

begun_stays : (b : Beginning) (text : List ℕ) (c a l : Bool) (r : ℕ) → HeadStays (beginning_more b (end_mark text c a l r))
begun_stays (Goes st) text c a l r = inside_stays (on_mark st (end_mark text c a l r)) (end_stays text c a l r st)
begun_stays (Stops code) text c a l r = tt

pub head_stays : (text : List ℕ) (c a l : Bool) (r : ℕ) (h : Head) → HeadStays (head_step h (end_mark text c a l r))
unfolding head_step
head_stays text c a l r AtStart = tt
head_stays text c a l r AfterSlash = tt
head_stays text c a l r AfterN = tt
head_stays text c a l r AtLabel = tt
head_stays text c a l r (Named name) = begun_stays (beginning name) text c a l r
head_stays text c a l r AtBody = tt
head_stays text c a l r (Within st) = inside_stays (on_mark st (end_mark text c a l r)) (end_stays text c a l r st)

on_line : (words : WordsView) (at : ℕ) (n : HeadNext) → head_go n (λ next. head_at words (at + 1) next) ≡ head_after words at n
on_line words at (HeadOn h) = refl
on_line words at Over = refl
on_line words at (Refused code) = refl

at_last : (words : WordsView) (at : ℕ) (n : HeadNext) → HeadStays n → head_last n ≡ head_after words at n
at_last words at (HeadOn h) s = absurd s
at_last words at Over s = refl
at_last words at (Refused code) s = refl

pub one_head : (words : WordsView) (at : ℕ) (h : Head) → head_at words at h ≡ head_after words at (head_step h (mark_at words at))
one_head words at h =
    elim (cases_lt at (length words.tokens)) [
      | inl l ↦ head_on words at h l ∙ on_line words at (head_step h (mark_at words at))
      | inr l ↦
          let m = mark_past words at l in
          let S : Mark → Type 0 = λ k. HeadStays (head_step h k) in
          head_past words at h l ∙ at_last words at (head_step h (mark_at words at)) (subst S (sym m) (head_stays (text_at words at) (has_close words) (mark_at words at).axis (mark_at words at).later (mark_at words at).rest h))
    ]

-- the body
inside_after : (words : WordsView) (at : ℕ) (st : Stack) → head_after words at (body_next (on_mark st (mark_at words at))) ≡ run_at words at st
unfolding head_step
inside_after words at st = sym (one_head words at (Within st)) ∙ within_at words at st

begun_after : (words : WordsView) (at : ℕ) (b : Beginning) → head_after words at (beginning_next b) ≡ begun_at words (at + 1) b
begun_after words at (Goes st) = within_at words (at + 1) st
begun_after words at (Stops code) = refl

letter_case : (words : WordsView) (letter at : ℕ) (b : Bool) → (letter == 76) ≡ b → piece_at words at ≡ piece.Letter letter →
    head_after words at (letter_body b (mark_at words at)) ≡ follow (lettered_body words letter at) (λ s. None)
unfolding lettered_body
letter_case words letter at true h e =
    let same : letter ≡ 76 = eqb-true letter 76 h in
    let P = λ (k : ℕ). piece_at words at ≡ piece.Letter k in
    within_at words (at + 1) (AfterL ∷ []) ∙ l_go words at (subst P same e) ∙ rw same refl
letter_case words letter at false h e = inside_after words at (AWord ∷ MoreWords ∷ []) ∙ word_blocks words at ∙ rw h refl

body_case : (words : WordsView) → IsWorked words → (at : ℕ) (p : Piece) → piece_at words at ≡ p → head_after words at (body_step p (mark_at words at)) ≡ follow (body_of words at p) (λ s. None)
body_case words w at piece.End e = refl
body_case words w at piece.Name e = begun_after words at (beginning (text_at words at)) ∙ named_go words w (text_at words at) at e refl
body_case words w at (piece.Letter b) e = letter_case words b at (b == 76) refl e
body_case words w at p e = inside_after words at (AWord ∷ MoreWords ∷ []) ∙ word_blocks words at

pub bodies : (words : WordsView) → IsWorked words → (at : ℕ) → head_at words at AtBody ≡ follow (body_at words at) (λ s. None)
unfolding head_step body_at
bodies words w at = one_head words at AtBody ∙ body_case words w at (piece_at words at) refl

-- the label
begun_more_after : (words : WordsView) (at : ℕ) (b : Beginning) → head_after words at (beginning_more b (mark_at words at)) ≡ begun_at words at b
begun_more_after words at (Goes st) = inside_after words at st
begun_more_after words at (Stops code) = refl

colon_or : (words : WordsView) → IsWorked words → (at : ℕ) (b : Bool) → piece_at words at ≡ piece.Name →
    head_after words (at + 1) (named_step b (text_at words at) (mark_at words (at + 1)))
    ≡ follow (body_at words (cond {A = Option (List ℕ) × ℕ} b (Some (name_of (text_at words at)), at + 2) (None, at)).1) (λ s. None)
unfolding body_at
colon_or words w at true e = ap (λ (n : ℕ). head_at words n AtBody) (two at) ∙ bodies words w (at + 2)
colon_or words w at false e = begun_more_after words (at + 1) (beginning (text_at words at)) ∙ named_go words w (text_at words at) at e refl ∙ rw e refl

label_case : (words : WordsView) → IsWorked words → (at : ℕ) (p : Piece) → piece_at words at ≡ p →
    head_after words at (label_step p (mark_at words at)) ≡ follow (body_at words (label_at words at).1) (λ s. None)
unfolding label_at head_step body_at
label_case words w at piece.Name e =
    one_head words (at + 1) (Named (text_at words at)) ∙ colon_or words w at (is_colon (piece_at words (at + 1))) e ∙ rw e refl
label_case words w at p e = body_case words w at p e ∙ rw e (rw e refl)

labels : (words : WordsView) → IsWorked words → (at : ℕ) → head_at words at AtLabel ≡ follow (body_at words (label_at words at).1) (λ s. None)
unfolding head_step
labels words w at = one_head words at AtLabel ∙ label_case words w at (piece_at words at) refl

-- the number
letter_is : (p : Piece) (b : ℕ) → is_letter p b ≡ true → p ≡ piece.Letter b
letter_is (piece.Letter c) b h = ap (λ k. piece.Letter k) (eqb-true c b h)
letter_is p b h = cc

digits_go : (words : WordsView) → IsWorked words → (at n : ℕ) (b : Bool) →
    head_after words (at + 1) (block_number_step b)
    ≡ follow (◌>>=◌ {B = Option ℕ × ℕ} (cond b (Ok n) (Err 22)) (λ n. Ok (Some n, at + 2))) (λ q. follow (body_at words (label_at words q.1).1) (λ s. None))
digits_go words w at n true = ap (λ (k : ℕ). head_at words k AtLabel) (two at) ∙ labels words w (at + 2)
digits_go words w at n false = refl

lone_n : (words : WordsView) (at : ℕ) → piece_at words at ≡ piece.Letter 78 → Some 27 ≡ follow (body_at words (label_at words at).1) (λ s. None)
unfolding label_at body_at lettered_body
lone_n words at e = rw e (rw e (sym (no_address words at 78 e refl)))

n_case : (words : WordsView) → IsWorked words → (at : ℕ) (p : Piece) → piece_at words at ≡ piece.Letter 78 → piece_at words (at + 1) ≡ p →
    head_after words (at + 1) (after_n p (text_at words (at + 1))) ≡ follow (number_at words at) (λ q. follow (body_at words (label_at words q.1).1) (λ s. None))
unfolding number_at has_number block_number_at block_number
n_case words w at (piece.Number z) e f =
    digits_go words w at (whole z) (is_digits (text_at words (at + 1)) && nat_le (length (text_at words (at + 1))) 8) ∙ rw (e, f) refl
n_case words w at p e f = lone_n words at e ∙ rw (e, f) refl

number_or : (words : WordsView) → IsWorked words → (at : ℕ) (b : Bool) → is_letter (piece_at words at) 78 ≡ b →
    head_after words at (number_step b (mark_at words at)) ≡ follow (number_at words at) (λ q. follow (body_at words (label_at words q.1).1) (λ s. None))
unfolding number_at has_number head_step
number_or words w at true h =
    let e = letter_is (piece_at words at) 78 h in
    one_head words (at + 1) AfterN ∙ n_case words w at (piece_at words (at + 1)) e refl
number_or words w at false h = label_case words w at (piece_at words at) refl ∙ rw h refl

numbers : (words : WordsView) → IsWorked words → (at : ℕ) →
    head_after words at (number_step (is_letter (piece_at words at) 78) (mark_at words at)) ≡ follow (number_at words at) (λ q. follow (body_at words (label_at words q.1).1) (λ s. None))
numbers words w at = number_or words w at (is_letter (piece_at words at) 78) refl

-- / and the whole
slash_or : (words : WordsView) → IsWorked words → (b : Bool) → is_number (piece_at words 1) ≡ b →
    head_after words 1 (after_slash b (mark_at words 1)) ≡ follow {A = Bool × ℕ} (cond b (Err 59) (Ok (true, 1))) (λ k. follow (number_at words k.1) (λ q. follow (body_at words (label_at words q.1).1) (λ s. None)))
slash_or words w true h = refl
slash_or words w false h = numbers words w 1

start_or : (words : WordsView) → IsWorked words → (b : Bool) → is_slash (piece_at words 0) ≡ b →
    head_after words 0 (start_step b (mark_at words 0)) ≡ follow (skip_of words) (λ k. follow (number_at words k.1) (λ q. follow (body_at words (label_at words q.1).1) (λ s. None)))
unfolding skip_of head_step
start_or words w true h = one_head words 1 AfterSlash ∙ slash_or words w (is_number (piece_at words 1)) refl ∙ rw h refl
start_or words w false h = numbers words w 0 ∙ rw h refl

tail : (words : WordsView) (skip : Bool) (at : ℕ) →
    follow (number_at words at) (λ q. follow (body_at words (label_at words q.1).1) (λ s. None))
    ≡ follow (number_at words at >>= λ number. Ok (skip, number.0, number.1)) (λ head. follow (with_label words head (label_at words head.2)) (λ b. None))
tail words skip at =
    follow_same (number_at words at) (λ q. follow (body_at words (label_at words q.1).1) (λ s. None))
    (λ q. follow (with_label words (skip, q.0, q.1) (label_at words q.1)) (λ b. None))
    (λ (q : Option ℕ × ℕ). made {B = BlockView} (body_at words (label_at words q.1).1) (λ s. record { skip = skip; number = q.0; label = (label_at words q.1).0; statement = s }) (λ b. None))
    ∙ made {B = Bool × Option ℕ × ℕ} (number_at words at) (λ number. (skip, number.0, number.1)) (λ head. follow (with_label words head (label_at words head.2)) (λ b. None))

pub blocks : (words : WordsView) → IsWorked words → head_at words 0 AtStart ≡ follow (block_of words) (λ b. None)
unfolding head_step block_of head_of
blocks words w =
    one_head words 0 AtStart
    ∙ start_or words w (is_slash (piece_at words 0)) refl
    ∙ chain (skip_of words) (λ k. number_at words k.1 >>= λ number. Ok (k.0, number.0, number.1)) (λ head. follow (with_label words head (label_at words head.2)) (λ b. None)) _
    (λ (k : Bool × ℕ). tail words k.0 k.1)
    ∙ sym (follow_bind (skip_of words >>= λ k. number_at words k.1 >>= λ number. Ok (k.0, number.0, number.1)) (λ head. with_label words head (label_at words head.2)) (λ b. None))
