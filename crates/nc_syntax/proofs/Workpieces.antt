-- WORKPIECE: the reader by tokens goes on as the reader of the line.
use Rattle.std.proofs.Common.{◌≡◌, ℕ, zero, suc, ◌+◌, ◌-◌, ◌<◌, ◌≤◌, List, [], ◌∷◌, ◌++◌, length, drop, get_or, reverse, refl, ap, sym, ◌∙◌, subst, Option, Some, None, Result, Ok, Err, Bool, true, false, cond, arith}
use Rattle.std.specs.Prelude.{nat_lt, ◌||◌, not, slice_get}
use Rattle.std.specs.List.{list_any, prefix_len}
use Rattle.std.proofs.lemmas.Bool.{lt-ltb, le-ltb}
use Rattle.std.proofs.lemmas.List.{drop_more, drop_all, length-reverse, reverse-append}
use Rattle.block_scanner.specs.declared.Kind.TheVariants as kind
use Rattle.block_scanner.specs.declared.Token.{Token}
use Rattle.block_scanner.specs.WordsView.{WordsView}
use Rattle.nc_expressions.specs.Value.{◌>>=◌}
use Rattle.nc_blocks.specs.declared.pieces.Piece.{Piece}
use Rattle.nc_blocks.specs.declared.pieces.Piece.TheVariants as piece
use Rattle.nc_blocks.specs.Pieces.{piece_at, is_end}
use Rattle.nc_blocks.specs.Marks.{code_of, end_at, open_at, open_of}
use Rattle.nc_blocks.specs.Statement.{Statement, Message}
use Rattle.std.proofs.lemmas.Option.{slice_get-get_or}
use Rattle.nc_blocks.proofs.Places.{piece_past}
use Rattle.nc_forms.proofs.Standings.{piece_within, past_end}
use Rattle.nc_forms.proofs.MessageLaws.{close_token, close_stands}
use Rattle.nc_syntax.specs.Wanted.{mark_at, Opens, Anything, want, anything_want, has_close_from, rest_of}
use Rattle.nc_syntax.proofs.Wanted.{run_at, follow}
use Rattle.nc_syntax.proofs.Stepping.{after, one_step}
use Rattle.nc_syntax.proofs.Signs.{opens}
use Rattle.nc_syntax.proofs.Words.{made}
use Rattle.nc_syntax.proofs.Forms.{ends}
use Rattle.nc_forms.specs.LineEnds.{statement_alone}
use Rattle.nc_forms.specs.Parentheses.{is_close, is_close_kind}
use Rattle.nc_forms.specs.Coordination.{after_last, last_close, is_broken, has_broken, workpiece_form}

-- the count of tokens up to the last ) of a list
abbrev up : Bool → Option ℕ → Option ℕ
up b (Some n) = Some (suc n)
up true None = Some 1
up false None = None

abbrev closes : Token → Bool
closes t = is_close_kind t.kind

abbrev upto : List Token → Option ℕ
upto [] = None
upto (t ∷ ts) = up (closes t) (upto ts)

abbrev counted : Option ℕ → Result ℕ ℕ
counted (Some n) = Ok n
counted None = Err 22

abbrev open_part : Token → Bool
open_part t = not (closes t)

-- how far the end of a list has no )
abbrev Counts : Option ℕ → ℕ → ℕ → Type 0
Counts (Some n) clear all = (clear + n ≡ all) × (0 < n)
Counts None clear all = clear ≡ all

prefix_one : (b : Bool) (n m all : ℕ) → cond b (1 + n) 0 < suc all → (n < all → m ≡ n) → cond b (1 + m) 0 ≡ cond b (1 + n) 0
prefix_one true n m all h f = ap (λ (k : ℕ). 1 + k) (f (omega (arith, h)))
prefix_one false n m all h f = refl

prefix_two : (b : Bool) (n m all more : ℕ) → cond b (1 + n) 0 ≡ suc all → (n ≡ all → m ≡ all + more) → cond b (1 + m) 0 ≡ suc all + more
prefix_two true n m all more h f = let e = f (omega (arith, h)) in omega (arith, e)
prefix_two false n m all more h f = absurd (omega (arith, h))

prefix_last : (b : Bool) → cond b (1 + 0) 0 ≡ 0 + cond b 1 0
prefix_last true = refl
prefix_last false = refl

prefix_more : (q : Token → Bool) (xs : List Token) (t : Token) → prefix_len q xs < length xs → prefix_len q (xs ++ t ∷ []) ≡ prefix_len q xs
prefix_more q [] t h = absurd (omega (arith, h))
prefix_more q (x ∷ xs) t h = prefix_one (q x) (prefix_len q xs) (prefix_len q (xs ++ t ∷ [])) (length xs) h (λ (l : prefix_len q xs < length xs). prefix_more q xs t l)

prefix_all : (q : Token → Bool) (xs : List Token) (t : Token) → prefix_len q xs ≡ length xs → prefix_len q (xs ++ t ∷ []) ≡ length xs + cond (q t) 1 0
prefix_all q [] t h = prefix_last (q t)
prefix_all q (x ∷ xs) t h = prefix_two (q x) (prefix_len q xs) (prefix_len q (xs ++ t ∷ [])) (length xs) (cond (q t) 1 0) h (λ (l : prefix_len q xs ≡ length xs). prefix_all q xs t l)

counts_one : (b : Bool) (o : Option ℕ) (xs : List Token) (t : Token) → closes t ≡ b → Counts o (prefix_len open_part xs) (length xs) → Counts (up b o) (prefix_len open_part (xs ++ t ∷ [])) (length xs + 1)
counts_one b (Some n) xs t e h =
    let more = prefix_more open_part xs t (omega (arith, h.0, h.1)) in
    (omega (arith, h.0, more), omega arith)
counts_one true None xs t e h =
    let more = prefix_all open_part xs t h in
    let zero_more : cond {A = ℕ} (open_part t) 1 0 ≡ 0 = rw e refl in
    (omega (arith, more, zero_more), omega arith)
counts_one false None xs t e h =
    let more = prefix_all open_part xs t h in
    let one_more : cond {A = ℕ} (open_part t) 1 0 ≡ 1 = rw e refl in
    omega (arith, more, one_more)

counts : (ts : List Token) → Counts (upto ts) (prefix_len open_part (reverse ts)) (length ts)
counts [] = refl
counts (t ∷ ts) =
    let same : length (reverse ts) ≡ length ts = length-reverse ts in
    let h = counts ts in
    let P = λ (n : ℕ). Counts (upto ts) (prefix_len open_part (reverse ts)) n in
    let one = counts_one (closes t) (upto ts) (reverse ts) t refl (subst P (sym same) h) in
    let next : length (reverse ts) + 1 ≡ length (t ∷ ts) = omega (arith, same) in
    let Q = λ (n : ℕ). Counts (up (closes t) (upto ts)) (prefix_len open_part (reverse ts ++ t ∷ [])) n in
    let turned : reverse ts ++ t ∷ [] ≡ reverse (t ∷ ts) = sym (reverse-append (t ∷ []) ts) in
    let R = λ (xs : List Token). Counts (up (closes t) (upto ts)) (prefix_len open_part xs) (length (t ∷ ts)) in
    subst R turned (subst Q next one)

after_case : (o : Option ℕ) (clear all : ℕ) → Counts o clear all → after_last all (cond (nat_lt clear all) (Some clear) None) ≡ counted o
after_case (Some n) clear all h =
    let l : nat_lt clear all ≡ true = lt-ltb clear all (omega (arith, h.0, h.1)) in
    let e : all - clear ≡ n = omega (arith, h.0) in
    rw l (ap (λ (k : ℕ). Ok k) e)
after_case None clear all h =
    let l : nat_lt clear all ≡ false = le-ltb clear all (omega (arith, h)) in rw l refl

last_is : (tokens : List Token) → last_close tokens ≡ counted (upto tokens)
unfolding last_close
last_is tokens =
    let same : length (reverse tokens) ≡ length tokens = length-reverse tokens in
    let clear = prefix_len open_part (reverse tokens) in
    ap (λ (n : ℕ). after_last (length tokens) (cond (nat_lt clear n) (Some clear) None)) same
    ∙ after_case (upto tokens) clear (length tokens) (counts tokens)

-- the last ) of a line, seen from a place
upto_drop : (tokens : List Token) (i k : ℕ) → upto (drop i tokens) ≡ Some k → upto tokens ≡ Some (i + k)
upto_drop tokens zero k h = let same : k ≡ 0 + k = omega arith in h ∙ ap (λ (n : ℕ). Some n) same
upto_drop [] (suc i) k h = cc
upto_drop (t ∷ ts) (suc i) k h =
    let same : suc (i + k) ≡ suc i + k = omega arith in
    ap (up (closes t)) (upto_drop ts i k h) ∙ ap (λ (n : ℕ). Some n) same

none_up : (b : Bool) (o : Option ℕ) (i e : ℕ) → ((n : ℕ) → o ≡ Some n → n ≤ i) → up b o ≡ Some e → e ≤ suc i
none_up b (Some n) i e f h = let l = f n refl in let same : suc n ≡ e = cc in omega (arith, l, same)
none_up true None i e f h = let same : 1 ≡ e = cc in omega (arith, same)
none_up false None i e f h = cc

upto_none : (tokens : List Token) (i e : ℕ) → upto (drop i tokens) ≡ None → upto tokens ≡ Some e → e ≤ i
upto_none tokens zero e h k = let no : ◌≡◌ {A = Option ℕ} None (Some e) = sym h ∙ k in cc
upto_none [] (suc i) e h k = cc
upto_none (t ∷ ts) (suc i) e h k = none_up (closes t) (upto ts) i e (λ (n : ℕ) (l : upto ts ≡ Some n). upto_none ts i n h l) k

abbrev some : Option ℕ → Bool
some (Some n) = true
some None = false

up_some : (b : Bool) (o : Option ℕ) → some (up b o) ≡ (b || some o)
up_some true (Some n) = refl
up_some true None = refl
up_some false (Some n) = refl
up_some false None = refl

any_upto : (ts : List Token) → list_any (λ token. is_close_kind token.kind) ts ≡ some (upto ts)
any_upto [] = refl
any_upto (t ∷ ts) = ap (λ (b : Bool). closes t || b) (any_upto ts) ∙ sym (up_some (closes t) (upto ts))

-- what becomes of the line
abbrev result : WordsView → ℕ → Bool → Option ℕ → Option ℕ
result words i c (Some k) = follow (cond (has_broken words i k) (Err 22) (statement_alone words (i + k) Message)) (λ s. None)
result words i true None = follow (end_at words i) (λ n. None)
result words i false None = Some (rest_of words (last_close words.tokens))

whole_one : (words : WordsView) (i k : ℕ) (p : Piece) → piece_at words i ≡ p → is_broken p ≡ false → (c d : Bool) →
    result words (i + 1) d (Some k) ≡ result words i c (Some (suc k))
unfolding has_broken
whole_one words i k p e b c d =
    let same : i + 1 + k ≡ i + suc k = omega arith in
    rw (e, b, same) refl

closed_one : (words : WordsView) (i : ℕ) (p : Piece) → piece_at words i ≡ p → is_broken p ≡ false → (c : Bool) → result words (i + 1) true None ≡ result words i c (Some 1)
unfolding has_broken statement_alone
closed_one words i p e b c = rw (e, b) (made {B = Statement} (end_at words (i + 1)) (λ n. Message) (λ s. None))

shut_case : (words : WordsView) (i : ℕ) (c : Bool) (o : Option ℕ) → piece_at words i ≡ piece.Close → result words (i + 1) true o ≡ result words i c (up true o)
shut_case words i c (Some k) e = whole_one words i k piece.Close e refl c true
shut_case words i c None e = closed_one words i piece.Close e refl c

open_end : (words : WordsView) (i : ℕ) (p : Piece) → piece_at words i ≡ p → is_end p ≡ false → follow (end_at words i) (λ n. None) ≡ Some (code_of p 24)
unfolding end_at
open_end words i piece.End e h = cc
open_end words i p e h = rw e refl

other_case : (words : WordsView) (i : ℕ) (c : Bool) (o : Option ℕ) (p : Piece) → piece_at words i ≡ p → is_broken p ≡ false → is_end p ≡ false →
    (c ≡ true → o ≡ None → last_close words.tokens ≡ Ok i) → result words (i + 1) false o ≡ result words i c (up false o)
other_case words i c (Some k) p e b n f = whole_one words i k p e b c false
other_case words i false None p e b n f = refl
other_case words i true None p e b n f = rw (f refl refl, e) (sym (open_end words i p e n))

broken_case : (words : WordsView) (i : ℕ) (c : Bool) (o : Option ℕ) → piece_at words i ≡ piece.Broken →
    Some (cond (c || some (up false o)) 22 (rest_of words (last_close words.tokens))) ≡ result words i c (up false o)
unfolding has_broken
broken_case words i true (Some k) e = rw e refl
broken_case words i false (Some k) e = rw e refl
broken_case words i true None e = sym (open_end words i piece.Broken e refl)
broken_case words i false None e = refl

step_case : (words : WordsView) (i : ℕ) (c b : Bool) (o : Option ℕ) (p : Piece) → piece_at words i ≡ p → b ≡ is_close p → is_end p ≡ false →
    has_close_from words i ≡ some (up b o) → (c ≡ true → up b o ≡ None → last_close words.tokens ≡ Ok i) →
    (b ≡ true → run_at words (i + 1) (Anything true ∷ []) ≡ result words (i + 1) true o) → run_at words (i + 1) (Anything false ∷ []) ≡ result words (i + 1) false o →
    after words i (anything_want c (mark_at words i) p) [] ≡ result words i c (up b o)
step_case words i c b o piece.End e s n l f shut next = cc
step_case words i c b o piece.Close e s n l f shut next =
    shut s ∙ shut_case words i c o e ∙ ap (λ (x : Bool). result words i c (up x o)) (sym s)
step_case words i c b o piece.Broken e s n l f shut next =
    rw (l, s) (broken_case words i c o e)
step_case words i c b o p e s n l f shut next =
    let g : c ≡ true → o ≡ None → last_close words.tokens ≡ Ok i = λ (h : c ≡ true) (k : o ≡ None). f h (ap (λ (x : Bool). up x o) s ∙ ap (up false) k) in
    next ∙ other_case words i c o p e refl refl g ∙ ap (λ (x : Bool). result words i c (up x o)) (sym s)

last_case : (words : WordsView) (i : ℕ) (c : Bool) → piece_at words i ≡ piece.End → after words i (anything_want c (mark_at words i) piece.End) [] ≡ result words i c None
last_case words i true e = ends words i
last_case words i false e = refl

close_is : (p : Piece) → is_close p ≡ true → p ≡ piece.Close
close_is piece.Close h = refl
close_is p h = cc

closed_no : (words : WordsView) (i : ℕ) (t : Token) → slice_get words.tokens i ≡ Some t → closes t ≡ false → (b : Bool) → is_close (piece_at words i) ≡ b → false ≡ b
closed_no words i t h e true k =
    let c = close_token words i (close_is (piece_at words i) k) in
    let same : ◌≡◌ {A = Option Token} (Some c.0) (Some t) = sym c.1 ∙ h in
    let token : c.0 ≡ t = cc in
    sym e ∙ ap closes (sym token) ∙ c.2
closed_no words i t h e false k = refl

token_close : (words : WordsView) (i : ℕ) (t : Token) (b : Bool) → slice_get words.tokens i ≡ Some t → closes t ≡ b → b ≡ is_close (piece_at words i)
token_close words i t true h e = sym (ap is_close (close_stands words i t h e))
token_close words i t false h e = closed_no words i t h e (is_close (piece_at words i)) refl

end_is : (p : Piece) → is_end p ≡ true → p ≡ piece.End
end_is piece.End h = refl
end_is p h = cc

not_true : false ≡ true → ⊥
not_true h = cc

no_end : (words : WordsView) (i : ℕ) → i < length words.tokens → (b : Bool) → is_end (piece_at words i) ≡ b → is_end (piece_at words i) ≡ false
no_end words i h true e = let l = past_end words i (end_is (piece_at words i) e) in absurd (omega (arith, h, l))
no_end words i h false e = e

scan : (n : ℕ) (words : WordsView) (i : ℕ) (c : Bool) → i + n ≡ length words.tokens → (c ≡ true → upto (drop i words.tokens) ≡ None → last_close words.tokens ≡ Ok i) →
    run_at words i (Anything c ∷ []) ≡ result words i c (upto (drop i words.tokens))
unfolding want has_close_from
scan zero words i c h f =
    let gone : drop i words.tokens ≡ [] = drop_all i words.tokens (omega (arith, h)) in
    let e : piece_at words i ≡ piece.End = sym (piece_past words i (omega (arith, h))) in
    one_step words i (Anything c) []
    ∙ ap (λ (p : Piece). after words i (anything_want c (mark_at words i) p) []) e
    ∙ last_case words i c e
    ∙ ap (λ (ts : List Token). result words i c (upto ts)) (sym gone)
scan (suc n) words i c h f =
    let d : Token = record { kind = kind.Name; start = 0; end = 0 } in
    let within : i < length words.tokens = omega (arith, h) in
    let t = get_or words.tokens i d in
    let more : drop i words.tokens ≡ t ∷ drop (i + 1) words.tokens = drop_more words.tokens i d within in
    let there : slice_get words.tokens i ≡ Some t = slice_get-get_or words.tokens i d within in
    let b = closes t in
    let o = upto (drop (i + 1) words.tokens) in
    let all : upto (drop i words.tokens) ≡ up b o = ap upto more in
    let l : has_close_from words i ≡ some (up b o) = any_upto (drop i words.tokens) ∙ ap some all in
    let g : c ≡ true → up b o ≡ None → last_close words.tokens ≡ Ok i = λ (x : c ≡ true) (k : up b o ≡ None). f x (all ∙ k) in
    let place : i + 1 + n ≡ length words.tokens = omega (arith, h) in
    let following : b ≡ true → upto (drop (i + 1) words.tokens) ≡ None → last_close words.tokens ≡ Ok (i + 1) =
    λ (x : b ≡ true) (k : upto (drop (i + 1) words.tokens) ≡ None).
    last_is words.tokens ∙ ap counted (upto_drop words.tokens i 1 (all ∙ ap (λ (y : Bool). up y o) x ∙ ap (up true) k)) in
    one_step words i (Anything c) []
    ∙ step_case words i c b o (piece_at words i) refl (token_close words i t b there refl) (no_end words i within (is_end (piece_at words i)) refl) l g
    (λ (x : b ≡ true). scan n words (i + 1) true place (λ (y : true ≡ true) (k : upto (drop (i + 1) words.tokens) ≡ None). following x k))
    (scan n words (i + 1) false place (λ (y : false ≡ true) (k : upto (drop (i + 1) words.tokens) ≡ None). absurd (not_true y)))
    ∙ ap (result words i c) (sym all)

none_case : (words : WordsView) (at : ℕ) (o : Option ℕ) → ((e : ℕ) → o ≡ Some e → e < at + 1 × e < length words.tokens) → last_close words.tokens ≡ counted o →
    Some (rest_of words (last_close words.tokens)) ≡ follow (last_close words.tokens >>= λ end. cond (has_broken words (at + 1) (end - (at + 1))) (Err 22) (statement_alone words end Message)) (λ s. None)
unfolding has_broken statement_alone
none_case words at None f e = rw e refl
none_case words at (Some k) f e =
    let b = f k refl in
    let gone : k - (at + 1) ≡ 0 = omega (arith, b.0) in
    rw (e, gone) (sym (open_end words k (piece_at words k) refl (no_end words k b.1 (is_end (piece_at words k)) refl)) ∙ made {B = Statement} (end_at words k) (λ n. Message) (λ s. None))

some_case : (words : WordsView) (at k : ℕ) → last_close words.tokens ≡ Ok (at + 1 + k) →
    result words (at + 1) false (Some k) ≡ follow (last_close words.tokens >>= λ end. cond (has_broken words (at + 1) (end - (at + 1))) (Err 22) (statement_alone words end Message)) (λ s. None)
some_case words at k e =
    let count : at + 1 + k - (at + 1) ≡ k = omega arith in rw (e, count) refl

following_open : (words : WordsView) (at : ℕ) → piece_at words at ≡ piece.Open → at < length words.tokens → (o : Option ℕ) → upto (drop (at + 1) words.tokens) ≡ o →
    result words (at + 1) false o ≡ follow (last_close words.tokens >>= λ end. cond (has_broken words (at + 1) (end - (at + 1))) (Err 22) (statement_alone words end Message)) (λ s. None)
following_open words at e within (Some k) h = some_case words at k (last_is words.tokens ∙ ap counted (upto_drop words.tokens (at + 1) k h))
following_open words at e within None h =
    let d : Token = record { kind = kind.Name; start = 0; end = 0 } in
    let t = get_or words.tokens at d in
    let more : drop at words.tokens ≡ t ∷ drop (at + 1) words.tokens = drop_more words.tokens at d within in
    let there : slice_get words.tokens at ≡ Some t = slice_get-get_or words.tokens at d within in
    let c : closes t ≡ false = token_close words at t (closes t) there refl ∙ ap is_close e in
    let none : upto (drop at words.tokens) ≡ None = ap upto more ∙ ap (λ (x : Bool). up x (upto (drop (at + 1) words.tokens))) c ∙ ap (up false) h in
    none_case words at (upto words.tokens) (λ (m : ℕ) (k : upto words.tokens ≡ Some m). let l = upto_none words.tokens at m none k in (omega (arith, l), omega (arith, l, within))) (last_is words.tokens)

work_case : (words : WordsView) (at : ℕ) (p : Piece) → piece_at words at ≡ p →
    follow (open_of p (at + 1) 22) (λ n. run_at words n (Anything false ∷ []))
    ≡ follow (open_of p (at + 1) 22 >>= λ first. last_close words.tokens >>= λ end. cond (has_broken words first (end - first)) (Err 22) (statement_alone words end Message)) (λ s. None)
work_case words at piece.Open e =
    let within = piece_within words at piece.Open e tt in
    let n = length words.tokens - (at + 1) in
    let place : at + 1 + n ≡ length words.tokens = omega (arith, within) in
    scan n words (at + 1) false place (λ (y : false ≡ true) (k : upto (drop (at + 1) words.tokens) ≡ None). absurd (not_true y))
    ∙ following_open words at e within (upto (drop (at + 1) words.tokens)) refl
work_case words at p e = refl

-- what WORKPIECE reads in its parentheses
pub workpieces : (words : WordsView) (at : ℕ) → run_at words at (Opens false ∷ Anything false ∷ []) ≡ follow (workpiece_form words at) (λ s. None)
unfolding workpiece_form open_at
workpieces words at = opens words at false (Anything false ∷ []) ∙ work_case words at (piece_at words at) refl
