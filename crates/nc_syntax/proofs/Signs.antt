-- Signs, numbers and expressions: the reader by tokens goes on as the reader of the line.
use Rattle.std.proofs.Common.{◌≡◌, ℕ, zero, suc, ◌+◌, ◌-◌, ◌<◌, ◌≤◌, List, [], ◌∷◌, length, drop, get_or, refl, ap, sym, ◌∙◌, inl, inr, Option, Some, None, Result, Ok, Err, Bool, true, false, cond, arith}
use Rattle.std.specs.Prelude.{◌==◌, if◌then◌else◌, slice_get}
use Rattle.std.proofs.lemmas.Bool.{cases_lt, eqb-true}
use Rattle.std.proofs.lemmas.List.{drop_more, drop_all, length-drop}
use Rattle.std.proofs.lemmas.Option.{slice_get_past, slice_get_read}
use Rattle.block_scanner.specs.WordsView.{WordsView}
use Rattle.nc_expressions.specs.declared.symbols.Symbol.{Symbol}
use Rattle.nc_expressions.specs.declared.symbols.Symbol.TheVariants as symbol
use Rattle.nc_expressions.specs.declared.levels.Level.TheVariants.{Plain}
use Rattle.nc_expressions.specs.Limits.{all_limits}
use Rattle.nc_expressions.specs.Machine as machine
use Rattle.nc_expressions.specs.Parsing.{reading_with_place, expr_at}
use Rattle.nc_expressions.specs.Stops.{stop_from, not_taken}
use Rattle.nc_expressions.specs.Symbols.{symbols_of}
use Rattle.nc_expressions.specs.Tree.{Tree}
use Rattle.nc_expressions.proofs.Beginnings.{length-symbols_of}
use Rattle.nc_expressions.proofs.Stopped.{stop_on, stop_refused}
use Rattle.nc_blocks.specs.declared.pieces.Piece.{Piece}
use Rattle.nc_blocks.specs.declared.pieces.Piece.TheVariants as piece
use Rattle.nc_blocks.specs.Pieces.{piece_at, text_at}
use Rattle.nc_blocks.specs.Marks.{word_code, word_code_of, assign_of, assign_at, open_of, open_at, close_of, close_at, close_bracket_of, close_bracket_at}
use Rattle.nc_blocks.specs.Reading.{expression_at, in_words, value_at, after_sign_of, constant_of}
use Rattle.nc_blocks.proofs.Places.{piece_past}
use Rattle.nc_syntax.specs.Wanted.{mark_at, Assigns, Opens, Closes, ClosesBracket, Constant, Value, start, fail, No, want, assign_want, open_want, close_want, close_bracket_want, number_want, signed_want, value_want, value_next, end_next, Stack}
use Rattle.nc_syntax.proofs.Wanted.{run_at, follow}
use Rattle.nc_syntax.proofs.Stepping.{after, one_step}

assign_case : (words : WordsView) (at code : ℕ) (st : Stack) (p : Piece) → after words at (assign_want p code) st ≡ follow (assign_of p (at + 1) code) (λ next. run_at words next st)
assign_case words at code st piece.Assign = refl
assign_case words at code st p = refl

pub assigns : (words : WordsView) (at : ℕ) (w : Bool) (st : Stack) →
    run_at words at (Assigns w ∷ st) ≡ follow (assign_at words at (fail w (mark_at words at))) (λ next. run_at words next st)
unfolding want assign_at
assigns words at w st = one_step words at (Assigns w) st ∙ assign_case words at (fail w (mark_at words at)) st (piece_at words at)

open_case : (words : WordsView) (at code : ℕ) (st : Stack) (p : Piece) → after words at (open_want p code) st ≡ follow (open_of p (at + 1) code) (λ next. run_at words next st)
open_case words at code st piece.Open = refl
open_case words at code st p = refl

pub opens : (words : WordsView) (at : ℕ) (w : Bool) (st : Stack) →
    run_at words at (Opens w ∷ st) ≡ follow (open_at words at (fail w (mark_at words at))) (λ next. run_at words next st)
unfolding want open_at
opens words at w st = one_step words at (Opens w) st ∙ open_case words at (fail w (mark_at words at)) st (piece_at words at)

close_case : (words : WordsView) (at code : ℕ) (st : Stack) (p : Piece) → after words at (close_want p code) st ≡ follow (close_of p (at + 1) code) (λ next. run_at words next st)
close_case words at code st piece.Close = refl
close_case words at code st p = refl

pub closes : (words : WordsView) (at : ℕ) (w : Bool) (st : Stack) →
    run_at words at (Closes w ∷ st) ≡ follow (close_at words at (fail w (mark_at words at))) (λ next. run_at words next st)
unfolding want close_at
closes words at w st = one_step words at (Closes w) st ∙ close_case words at (fail w (mark_at words at)) st (piece_at words at)

close_bracket_case : (words : WordsView) (at code : ℕ) (st : Stack) (p : Piece) →
    after words at (close_bracket_want p code) st ≡ follow (close_bracket_of p (at + 1) code) (λ next. run_at words next st)
close_bracket_case words at code st piece.CloseBracket = refl
close_bracket_case words at code st p = refl

pub word_fail : (words : WordsView) (at : ℕ) → word_code words at ≡ fail true (mark_at words at)
unfolding word_code
word_fail words at = refl

pub closes_bracket : (words : WordsView) (at : ℕ) (st : Stack) →
    run_at words at (ClosesBracket ∷ st) ≡ follow (close_bracket_at words at (word_code words at)) (λ next. run_at words next st)
unfolding want close_bracket_at word_code
closes_bracket words at st = one_step words at ClosesBracket st ∙ close_bracket_case words at (fail true (mark_at words at)) st (piece_at words at)

-- numbers with a sign
number_case : (words : WordsView) (at code : ℕ) (st : Stack) (sign p : Piece) →
    after words at (number_want p code) st ≡ follow (constant_of sign p (at + 1) code) (λ x. run_at words x.1 st)
number_case words at code st sign (piece.Number z) = refl
number_case words at code st sign p = refl

following_sign : (words : WordsView) (at : ℕ) (w : Bool) (st : Stack) (sign : Piece) →
    run_at words at (Constant w ∷ st) ≡ follow (constant_of sign (piece_at words at) (at + 1) (fail w (mark_at words at))) (λ x. run_at words x.1 st)
unfolding want
following_sign words at w st sign = one_step words at (Constant w) st ∙ number_case words at (fail w (mark_at words at)) st sign (piece_at words at)

pub signed_case : (words : WordsView) (at : ℕ) (w : Bool) (st : Stack) (p : Piece) → piece_at words at ≡ p →
    after words at (signed_want w p (fail w (mark_at words at))) st
    ≡ follow (constant_of p (piece_at words (after_sign_of p at)) (after_sign_of p at + 1) (fail w (mark_at words (after_sign_of p at)))) (λ x. run_at words x.1 st)
signed_case words at w st (piece.Number z) e = rw e refl
signed_case words at w st piece.Plus e = following_sign words (at + 1) w st piece.Plus
signed_case words at w st piece.Minus e = following_sign words (at + 1) w st piece.Minus
signed_case words at w st p e = rw e refl

-- expressions
abbrev pub any : Bool → WordsView → ℕ → Result (Tree × ℕ) ℕ → Result (Tree × ℕ) ℕ
any true words stop r = in_words words stop r
any false words stop r = r

left_over : (ss : List Symbol) (at : ℕ) → at ≤ length ss → length ss - length (drop at ss) ≡ at
left_over ss at h = omega (arith, length-drop at ss)

any_ok : (w : Bool) (words : WordsView) (stop : ℕ) (p : Tree × ℕ) → any w words stop (Ok p) ≡ Ok p
any_ok true words stop p = refl
any_ok false words stop p = refl

any_refused : (w : Bool) (words : WordsView) (stop at code : ℕ) (st : Stack) (k : Tree × ℕ → Option ℕ) → stop ≡ at →
    after words at (No (cond w (if code == 22 then word_code_of (piece_at words at) (text_at words at) else code) code)) st ≡ follow (any w words stop (Err code)) k
unfolding word_code
any_refused true words stop at code st k e = rw e refl
any_refused false words stop at code st k e = refl

value_case : (words : WordsView) (at : ℕ) (w : Bool) (st : Stack) (state : machine.State) (s : Symbol) (n : machine.Next) →
    at < length (symbols_of words) → s ≡ get_or (symbols_of words) at s → machine.step all_limits state s ≡ n →
    ((next : machine.State) → run_at words (at + 1) (Value w next ∷ st) ≡
    follow (any w words (stop_from (symbols_of words) (at + 1) next) (reading_with_place (length (symbols_of words)) (machine.run all_limits (drop (at + 1) (symbols_of words)) next))) (λ p. run_at words p.1 st)) →
    after words at (value_next w (mark_at words at) n) st ≡
    follow (any w words (stop_from (symbols_of words) at state)
    (reading_with_place (length (symbols_of words)) (machine.go_on n (drop at (symbols_of words)) (machine.run all_limits (drop (at + 1) (symbols_of words)))))) (λ p. run_at words p.1 st)
value_case words at w st state s (machine.On next) h is e again =
    again next
    ∙ ap (λ (k : ℕ). follow (any w words k (reading_with_place (length (symbols_of words)) (machine.run all_limits (drop (at + 1) (symbols_of words)) next))) (λ p. run_at words p.1 st))
    (sym (stop_on (symbols_of words) at s state next h is e))
value_case words at w st state s (machine.Ends t) h is e again =
    let k : Tree × ℕ → Option ℕ = λ p. run_at words p.1 st in
    ap (λ (n : ℕ). run_at words n st) (sym (left_over (symbols_of words) at (omega (arith, h))))
    ∙ ap (λ (r : Result (Tree × ℕ) ℕ). follow r k) (sym (any_ok w words (stop_from (symbols_of words) at state) (t, length (symbols_of words) - length (drop at (symbols_of words)))))
value_case words at w st state s (machine.Refuse code) h is e again =
    any_refused w words (stop_from (symbols_of words) at state) at code st (λ p. run_at words p.1 st) (stop_refused (symbols_of words) at s state code h is e)

no_symbol : (words : WordsView) (at : ℕ) → length words.tokens ≤ at → slice_get (symbols_of words) at ≡ None
no_symbol words at h = slice_get_past (symbols_of words) at (omega (arith, h, length-symbols_of words))

end_code : (words : WordsView) (at : ℕ) → length words.tokens ≤ at → word_code words at ≡ 22
unfolding word_code
end_code words at h = rw (sym (piece_past words at h)) refl

same_if : (b : Bool) (code : ℕ) → (b ≡ true → 22 ≡ code) → cond b 22 code ≡ code
same_if true code h = h refl
same_if false code h = refl

kept : (code : ℕ) → (if code == 22 then 22 else code) ≡ code
kept code = same_if (code == 22) code (λ h. sym (eqb-true code 22 h))

any_end : (w : Bool) (words : WordsView) (stop code : ℕ) (k : Tree × ℕ → Option ℕ) → length words.tokens ≤ stop → Some code ≡ follow (any w words stop (Err code)) k
any_end true words stop code k h = rw (end_code words stop h) (ap (λ (c : ℕ). Some c) (sym (kept code)))
any_end false words stop code k h = refl

past_case : (words : WordsView) (at : ℕ) (w : Bool) (st : Stack) (n : machine.Next) → at ≡ length (symbols_of words) → (stop : ℕ) → length words.tokens ≤ stop →
    after words at (end_next n) st ≡ follow (any w words stop (reading_with_place (length (symbols_of words)) (machine.at_last n))) (λ p. run_at words p.1 st)
past_case words at w st (machine.On state) e stop h = any_end w words stop 22 (λ p. run_at words p.1 st) h
past_case words at w st (machine.Ends t) e stop h =
    let k : Tree × ℕ → Option ℕ = λ p. run_at words p.1 st in
    let all : at ≡ length (symbols_of words) - 0 = omega (arith, e) in
    ap (λ (n : ℕ). run_at words n st) all ∙ ap (λ (r : Result (Tree × ℕ) ℕ). follow r k) (sym (any_ok w words stop (t, length (symbols_of words) - 0)))
past_case words at w st (machine.Refuse code) e stop h = any_end w words stop code (λ p. run_at words p.1 st) h

get_same : (ss : List Symbol) (at : ℕ) (d e : Symbol) → at < length ss → get_or ss at d ≡ get_or ss at e
get_same [] at d e h = absurd (omega arith)
get_same (x ∷ xs) zero d e h = refl
get_same (x ∷ xs) (suc at) d e h = get_same xs at d e (omega (arith, h))

value_past : (words : WordsView) (at : ℕ) (w : Bool) (st : Stack) (state : machine.State) → at ≡ length (symbols_of words) →
    run_at words at (Value w state ∷ st) ≡
    follow (any w words (stop_from (symbols_of words) at state) (reading_with_place (length (symbols_of words)) (machine.run all_limits (drop at (symbols_of words)) state))) (λ p. run_at words p.1 st)
unfolding want machine.run stop_from not_taken
value_past words at w st state h =
    let past : length words.tokens ≤ at = omega (arith, h, length-symbols_of words) in
    let gone : drop at (symbols_of words) ≡ [] = drop_all at (symbols_of words) (omega (arith, h)) in
    one_step words at (Value w state) st
    ∙ rw (no_symbol words at past, gone) (past_case words at w st (machine.finish state) h (length (symbols_of words) - 0) (omega (arith, length-symbols_of words)))

seen_step : (words : WordsView) (at : ℕ) (w : Bool) (st : Stack) (state : machine.State) (s : Symbol) → slice_get (symbols_of words) at ≡ Some s →
    run_at words at (Value w state ∷ st) ≡ after words at (value_next w (mark_at words at) (machine.step all_limits state s)) st
unfolding want
seen_step words at w st state s seen =
    one_step words at (Value w state) st ∙ ap (λ (o : Option Symbol). after words at (value_want w state (mark_at words at) o) st) seen

run_one : (ss : List Symbol) (at : ℕ) (s : Symbol) (state : machine.State) → drop at ss ≡ s ∷ drop (at + 1) ss →
    machine.go_on (machine.step all_limits state s) (drop at ss) (machine.run all_limits (drop (at + 1) ss)) ≡ machine.run all_limits (drop at ss) state
unfolding machine.run
run_one ss at s state more =
    ap (λ (l : List Symbol). machine.go_on (machine.step all_limits state s) l (machine.run all_limits (drop (at + 1) ss))) more
    ∙ ap (λ (l : List Symbol). machine.run all_limits l state) (sym more)

value_run : (n : ℕ) (words : WordsView) (at : ℕ) (w : Bool) (st : Stack) (state : machine.State) → at + n ≡ length (symbols_of words) →
    run_at words at (Value w state ∷ st) ≡
    follow (any w words (stop_from (symbols_of words) at state) (reading_with_place (length (symbols_of words)) (machine.run all_limits (drop at (symbols_of words)) state))) (λ p. run_at words p.1 st)
value_run zero words at w st state h = value_past words at w st state (omega (arith, h))
value_run (suc n) words at w st state h =
    let ss = symbols_of words in
    let s = get_or ss at symbol.Other in
    let within : at < length ss = omega (arith, h) in
    let more : drop at ss ≡ s ∷ drop (at + 1) ss = drop_more ss at symbol.Other within in
    let is : s ≡ get_or ss at s = get_same ss at symbol.Other s within in
    let seen : slice_get ss at ≡ Some s = slice_get_read ss (length ss) at s refl within is in
    seen_step words at w st state s seen
    ∙ value_case words at w st state s (machine.step all_limits state s) within is refl
    (λ (next : machine.State). value_run n words (at + 1) w st next (omega (arith, h)))
    ∙ ap (λ (r : machine.Reading). follow (any w words (stop_from ss at state) (reading_with_place (length ss) r)) (λ p. run_at words p.1 st)) (run_one ss at s state more)

nothing_read : (words : WordsView) (at : ℕ) (w : Bool) (st : Stack) (k : Tree × ℕ → Option ℕ) → length words.tokens ≤ at →
    run_at words at (start w ∷ st) ≡ follow (any w words (stop_from (symbols_of words) at (machine.Wants [] Plain)) (expression_at words at)) k
unfolding want machine.run machine.read machine.finish stop_from not_taken expression_at expr_at
nothing_read words at w st k past =
    let gone : drop at (symbols_of words) ≡ [] = drop_all at (symbols_of words) (omega (arith, past, length-symbols_of words)) in
    one_step words at (start w) st
    ∙ rw (no_symbol words at past, gone) (any_end w words (length (symbols_of words) - 0) 22 k (omega (arith, length-symbols_of words)))

any_value : (words : WordsView) (at : ℕ) (w : Bool) (st : Stack) →
    run_at words at (start w ∷ st) ≡ follow (any w words (stop_from (symbols_of words) at (machine.Wants [] Plain)) (expression_at words at)) (λ p. run_at words p.1 st)
unfolding expression_at expr_at machine.read
any_value words at w st =
    elim (cases_lt at (length words.tokens)) [
      | inl h ↦ value_run (length (symbols_of words) - at) words at w st (machine.Wants [] Plain) (omega (arith, h, length-symbols_of words))
      | inr h ↦ nothing_read words at w st (λ p. run_at words p.1 st) h
    ]

pub values : (words : WordsView) (at : ℕ) (st : Stack) → run_at words at (start true ∷ st) ≡ follow (value_at words at) (λ p. run_at words p.1 st)
unfolding value_at
values words at st = any_value words at true st

pub expressions : (words : WordsView) (at : ℕ) (st : Stack) → run_at words at (start false ∷ st) ≡ follow (expression_at words at) (λ p. run_at words p.1 st)
expressions words at st = any_value words at false st
