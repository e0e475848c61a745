-- Signs, numbers and names: what is read at a place stands there, and what stands there is read.
use Rattle.std.proofs.Common.{◌≡◌, ℕ, ◌+◌, List, length, refl, ap, sym, ◌∙◌, inl, inr, Option, Some, None, Result, Ok, Err, Bool, true, false, cond, arith}
use Rattle.std.specs.Prelude.{ℤ, ◌&&◌, neg_ℤ, nat_le}
use Rattle.std.proofs.lemmas.Bool.{leb-true, le-leb}
use Rattle.std.specs.Cmp.Derive.{both_true}
use Rattle.block_scanner.specs.WordsView.{WordsView}
use Rattle.nc_expressions.specs.Symbols.{is_digits, index_of}
use Rattle.nc_blocks.specs.declared.pieces.Piece.{Piece}
use Rattle.nc_blocks.specs.declared.pieces.Piece.TheVariants as piece
use Rattle.nc_blocks.specs.Pieces.{piece_at, text_at}
use Rattle.nc_blocks.specs.Marks.{end_or_refusal, end_at, assign_of, assign_at, open_of, open_at, close_of, close_at, close_bracket_of, close_bracket_at, comma_of, comma_at, is_keyword, keyword_at}
use Rattle.nc_expressions.specs.Value.{◌>>=◌}
use Rattle.nc_blocks.specs.Reading.{after_sign_of, after_sign, with_sign, constant_of, constant_at, whole, block_number, block_number_of, block_number_at, index_or, parameter_number, index_of_piece, index_at, label_of, label_at}
use Rattle.nc_blocks.specs.AxisNames.{is_digits_piece, has_digits}
use Rattle.nc_forms.specs.Standing.{IsKeyword, IsSignedNumber, IsDigits, IsBlockNumber, IsIndex, IsNameOf}

-- one step after another
pub bound : {A B : Type 0} (r : Result A ℕ) (f : A → Result B ℕ) (y : B) → (r >>= f) ≡ Ok y → (x : A) × (r ≡ Ok x) × (f x ≡ Ok y)
bound (Ok x) f y h = (x, refl, h)
bound (Err code) f y h = cc

pub goes : {A B : Type 0} (r : Result A ℕ) (x : A) (f : A → Result B ℕ) → r ≡ Ok x → (r >>= f) ≡ f x
goes r x f h = ap (λ s. s >>= f) h

-- choices
pub yes_of : {A : Type 0} (b : Bool) (x y : A) → b ≡ true → cond b x y ≡ x
yes_of true x y h = refl
yes_of false x y h = cc

pub no_of : {A : Type 0} (b : Bool) (x y : A) → b ≡ false → cond b x y ≡ y
no_of true x y h = cc
no_of false x y h = refl

pub taken : {A : Type 0} (b : Bool) (x : Result A ℕ) (code : ℕ) (y : A) → cond b x (Err code) ≡ Ok y → (b ≡ true) × (x ≡ Ok y)
taken true x code y h = (refl, h)
taken false x code y h = cc

-- what follows from either side of a choice follows from the choice
pub one_of : {A C : Type 0} (b : Bool) (x y : Result A ℕ) (z : A) → cond b x y ≡ Ok z → (b ≡ true → x ≡ Ok z → C) → (b ≡ false → y ≡ Ok z → C) → C
one_of true x y z h f g = f refl h
one_of false x y z h f g = g refl h

pub refused : {A C : Type 0} (code : ℕ) (x : A) → ◌≡◌ {A = Result A ℕ} (Err code) (Ok x) → C
refused code x h = cc

pub parts_true : (a b : Bool) → (a && b) ≡ true → (a ≡ true) × (b ≡ true)
parts_true true b h = (refl, h)
parts_true false b h = cc

-- the value and the place of what is read
pub same_pair : {A B : Type 0} (a c : A) (b d : B) → ◌≡◌ {A = Result (A × B) ℕ} (Ok (a, b)) (Ok (c, d)) → (a ≡ c) × (b ≡ d)
same_pair {A = A} {B = B} a c b d h =
    let e : (a, b) ≡ (c, d) = cc in
    (ap (λ (p : A × B). p.0) e, ap (λ (p : A × B). p.1) e)

-- signs
ended_found : (p : Piece) (n : ℕ) → end_or_refusal p ≡ Ok n → p ≡ piece.End
ended_found piece.End n h = refl
ended_found p n h = cc

pub end_found : (words : WordsView) (at n : ℕ) → end_at words at ≡ Ok n → piece_at words at ≡ piece.End
unfolding end_at
end_found words at n h = ended_found (piece_at words at) n h

pub end_only : (words : WordsView) (at : ℕ) → piece_at words at ≡ piece.End → end_at words at ≡ Ok 0
unfolding end_at
end_only words at h = ap (λ p. end_or_refusal p) h

assign_of_found : (p : Piece) (next code n : ℕ) → assign_of p next code ≡ Ok n → (p ≡ piece.Assign) × (n ≡ next)
assign_of_found piece.Assign next code n h = (refl, (cc))
assign_of_found p next code n h = cc

pub assign_found : (words : WordsView) (at code n : ℕ) → assign_at words at code ≡ Ok n → (piece_at words at ≡ piece.Assign) × (n ≡ at + 1)
unfolding assign_at
assign_found words at code n h = assign_of_found (piece_at words at) (at + 1) code n h

pub assign_only : (words : WordsView) (at code : ℕ) → piece_at words at ≡ piece.Assign → assign_at words at code ≡ Ok (at + 1)
unfolding assign_at
assign_only words at code h = ap (λ p. assign_of p (at + 1) code) h

open_of_found : (p : Piece) (next code n : ℕ) → open_of p next code ≡ Ok n → (p ≡ piece.Open) × (n ≡ next)
open_of_found piece.Open next code n h = (refl, (cc))
open_of_found p next code n h = cc

pub open_found : (words : WordsView) (at code n : ℕ) → open_at words at code ≡ Ok n → (piece_at words at ≡ piece.Open) × (n ≡ at + 1)
unfolding open_at
open_found words at code n h = open_of_found (piece_at words at) (at + 1) code n h

pub open_only : (words : WordsView) (at code : ℕ) → piece_at words at ≡ piece.Open → open_at words at code ≡ Ok (at + 1)
unfolding open_at
open_only words at code h = ap (λ p. open_of p (at + 1) code) h

close_of_found : (p : Piece) (next code n : ℕ) → close_of p next code ≡ Ok n → (p ≡ piece.Close) × (n ≡ next)
close_of_found piece.Close next code n h = (refl, (cc))
close_of_found p next code n h = cc

pub close_found : (words : WordsView) (at code n : ℕ) → close_at words at code ≡ Ok n → (piece_at words at ≡ piece.Close) × (n ≡ at + 1)
unfolding close_at
close_found words at code n h = close_of_found (piece_at words at) (at + 1) code n h

pub close_only : (words : WordsView) (at code : ℕ) → piece_at words at ≡ piece.Close → close_at words at code ≡ Ok (at + 1)
unfolding close_at
close_only words at code h = ap (λ p. close_of p (at + 1) code) h

close_bracket_of_found : (p : Piece) (next code n : ℕ) → close_bracket_of p next code ≡ Ok n → (p ≡ piece.CloseBracket) × (n ≡ next)
close_bracket_of_found piece.CloseBracket next code n h = (refl, (cc))
close_bracket_of_found p next code n h = cc

pub close_bracket_found : (words : WordsView) (at code n : ℕ) → close_bracket_at words at code ≡ Ok n → (piece_at words at ≡ piece.CloseBracket) × (n ≡ at + 1)
unfolding close_bracket_at
close_bracket_found words at code n h = close_bracket_of_found (piece_at words at) (at + 1) code n h

pub close_bracket_only : (words : WordsView) (at code : ℕ) → piece_at words at ≡ piece.CloseBracket → close_bracket_at words at code ≡ Ok (at + 1)
unfolding close_bracket_at
close_bracket_only words at code h = ap (λ p. close_bracket_of p (at + 1) code) h

comma_of_found : (p : Piece) (next n : ℕ) → comma_of p next ≡ Ok n → (p ≡ piece.Comma) × (n ≡ next)
comma_of_found piece.Comma next n h = (refl, (cc))
comma_of_found p next n h = cc

pub comma_found : (words : WordsView) (at n : ℕ) → comma_at words at ≡ Ok n → (piece_at words at ≡ piece.Comma) × (n ≡ at + 1)
unfolding comma_at
comma_found words at n h = comma_of_found (piece_at words at) (at + 1) n h

pub comma_only : (words : WordsView) (at : ℕ) → piece_at words at ≡ piece.Comma → comma_at words at ≡ Ok (at + 1)
unfolding comma_at
comma_only words at h = ap (λ p. comma_of p (at + 1)) h

pub keyword_found : (words : WordsView) (at : ℕ) (word : List ℕ) (n : ℕ) → keyword_at words at word ≡ Ok n → IsKeyword words at word × (n ≡ at + 1)
unfolding keyword_at
keyword_found words at word n h =
    let t = taken (is_keyword words at word) (Ok (at + 1)) 22 n h in
    let e : ◌≡◌ {A = Result ℕ ℕ} (Ok (at + 1)) (Ok n) = t.1 in
    (t.0, (cc))

pub keyword_only : (words : WordsView) (at : ℕ) (word : List ℕ) → IsKeyword words at word → keyword_at words at word ≡ Ok (at + 1)
unfolding keyword_at
keyword_only words at word h = yes_of (is_keyword words at word) (Ok (at + 1)) (Err 22) h

-- numbers
number_after : (first second : Piece) (next code : ℕ) (z : ℤ) (end : ℕ) → constant_of first second next code ≡ Ok (z, end) →
    (v : ℤ) × (second ≡ piece.Number v) × (z ≡ with_sign first v) × (end ≡ next)
number_after first (piece.Number v) next code z end h =
    let p = same_pair (with_sign first v) z next end h in (v, refl, sym p.0, sym p.1)
number_after first second next code z end h = cc

constant_cases : (words : WordsView) (at code : ℕ) (z : ℤ) (end : ℕ) (first : Piece) → piece_at words at ≡ first →
    constant_of first (piece_at words (after_sign_of first at)) (after_sign_of first at + 1) code ≡ Ok (z, end) → IsSignedNumber words at end z
constant_cases words at code z end piece.Plus e h =
    let n = number_after piece.Plus (piece_at words (at + 1)) (at + 1 + 1) code z end h in
    let f = n.1 ∙ ap (λ v. piece.Number v) (sym n.2) in
    inr (inl (e, f, omega (arith, n.3)))
constant_cases words at code z end piece.Minus e h =
    let n = number_after piece.Minus (piece_at words (at + 1)) (at + 1 + 1) code z end h in
    inr (inr (n.0, e, n.1, n.2, omega (arith, n.3)))
constant_cases words at code z end first e h =
    let n = number_after first (piece_at words at) (at + 1) code z end h in
    inl (n.1 ∙ ap (λ v. piece.Number v) (sym n.2), n.3)

pub constant_found : (words : WordsView) (at code : ℕ) (z : ℤ) (end : ℕ) → constant_at words at code ≡ Ok (z, end) → IsSignedNumber words at end z
unfolding constant_at after_sign
constant_found words at code z end h = constant_cases words at code z end (piece_at words at) refl h

pub constant_only : (words : WordsView) (at code : ℕ) (z : ℤ) (end : ℕ) → IsSignedNumber words at end z → constant_at words at code ≡ Ok (z, end)
unfolding constant_at after_sign
constant_only words at code z end h =
    let F = λ (p : Piece). constant_of p (piece_at words (after_sign_of p at)) (after_sign_of p at + 1) code in
    elim h [
      | inl a ↦ ap F a.0 ∙ ap (λ q. constant_of (piece.Number z) q (at + 1) code) a.0 ∙ ap (λ n. Ok (z, n)) (sym a.1)
      | inr b ↦ elim b [
        | inl c ↦ let place : at + 1 + 1 ≡ end = omega (arith, c.2) in
            ap F c.0 ∙ ap (λ q. constant_of piece.Plus q (at + 1 + 1) code) c.1 ∙ ap (λ n. Ok (z, n)) place
        | inr d ↦ let place : at + 1 + 1 ≡ end = omega (arith, d.4) in
            ap F d.1 ∙ ap (λ q. constant_of piece.Minus q (at + 1 + 1) code) d.2 ∙ ap (λ n. Ok (neg_ℤ d.0, n)) place ∙ ap (λ v. Ok (v, end)) (sym d.3)
      ]
    ]

block_number_cases : (words : WordsView) (at n : ℕ) (p : Piece) → piece_at words at ≡ p → block_number_of p (text_at words at) ≡ Ok n → IsBlockNumber words at n
unfolding block_number
block_number_cases words at n (piece.Number z) e h =
    let t = taken (is_digits (text_at words at) && nat_le (length (text_at words at)) 8) (Ok (whole z)) 22 n h in
    let b = parts_true (is_digits (text_at words at)) (nat_le (length (text_at words at)) 8) t.0 in
    let same : ◌≡◌ {A = Result ℕ ℕ} (Ok (whole z)) (Ok n) = t.1 in
    (z, e, b.0, leb-true (length (text_at words at)) 8 b.1, (cc))
block_number_cases words at n p e h = cc

pub block_number_found : (words : WordsView) (at n : ℕ) → block_number_at words at ≡ Ok n → IsBlockNumber words at n
unfolding block_number_at
block_number_found words at n h = block_number_cases words at n (piece_at words at) refl h

pub block_number_only : (words : WordsView) (at n : ℕ) → IsBlockNumber words at n → block_number_at words at ≡ Ok n
unfolding block_number_at block_number
block_number_only words at n h =
    ap (λ p. block_number_of p (text_at words at)) h.1
    ∙ yes_of (is_digits (text_at words at) && nat_le (length (text_at words at)) 8) (Ok (whole h.0)) (Err 22)
    (both_true h.2 (le-leb (length (text_at words at)) 8 h.3))
    ∙ ap (λ k. Ok k) (sym h.4)

index_or_found : (o : Option ℕ) (code i : ℕ) → index_or o code ≡ Ok i → o ≡ Some i
index_or_found (Some j) code i h = cc
index_or_found None code i h = cc

index_cases : (words : WordsView) (at code i : ℕ) (p : Piece) → piece_at words at ≡ p → index_of_piece p (text_at words at) code ≡ Ok i → IsIndex words at i
unfolding parameter_number
index_cases words at code i (piece.Number z) e h =
    let t = taken (is_digits (text_at words at)) (index_or (index_of z) 22) 22 i h in
    (z, e, t.0, index_or_found (index_of z) 22 i t.1)
index_cases words at code i p e h = cc

pub index_found : (words : WordsView) (at code i : ℕ) → index_at words at code ≡ Ok i → IsIndex words at i
unfolding index_at
index_found words at code i h = index_cases words at code i (piece_at words at) refl h

pub index_only : (words : WordsView) (at code i : ℕ) → IsIndex words at i → index_at words at code ≡ Ok i
unfolding index_at parameter_number
index_only words at code i h =
    ap (λ p. index_of_piece p (text_at words at) code) h.1
    ∙ yes_of (is_digits (text_at words at)) (index_or (index_of h.0) 22) (Err 22) h.2
    ∙ ap (λ o. index_or o 22) h.3

-- names
label_cases : (words : WordsView) (at : ℕ) (name : List ℕ) (p : Piece) → piece_at words at ≡ p → label_of p (text_at words at) ≡ Ok name → IsNameOf words at name
label_cases words at name piece.Name e h = (e, (cc))
label_cases words at name p e h = cc

pub label_found : (words : WordsView) (at : ℕ) (name : List ℕ) → label_at words at ≡ Ok name → IsNameOf words at name
unfolding label_at
label_found words at name h = label_cases words at name (piece_at words at) refl h

pub label_only : (words : WordsView) (at : ℕ) (name : List ℕ) → IsNameOf words at name → label_at words at ≡ Ok name
unfolding label_at
label_only words at name h = ap (λ p. label_of p (text_at words at)) h.0 ∙ ap (λ n. Ok n) (sym h.1)

-- digits
digits_cases : (words : WordsView) (at : ℕ) (p : Piece) → piece_at words at ≡ p → is_digits_piece p (text_at words at) ≡ true → IsDigits words at
digits_cases words at (piece.Number z) e h = (z, e, h)
digits_cases words at p e h = cc

pub digits_found : (words : WordsView) (at : ℕ) → has_digits words at ≡ true → IsDigits words at
unfolding has_digits
digits_found words at h = digits_cases words at (piece_at words at) refl h

pub digits_only : (words : WordsView) (at : ℕ) → IsDigits words at → has_digits words at ≡ true
unfolding has_digits
digits_only words at h = ap (λ p. is_digits_piece p (text_at words at)) h.1 ∙ h.2
