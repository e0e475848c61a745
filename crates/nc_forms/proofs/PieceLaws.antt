-- WordsView: what the tests of pieces tell.
use Rattle.std.proofs.Common.{◌≡◌, ℕ, ◌+◌, List, ◌∷◌, refl, ap, sym, ◌∙◌, subst, inl, inr, Result, Ok, Bool, true, false}
use Rattle.std.specs.Prelude.{ℤ, ◌==◌, ◌&&◌, ◌||◌}
use Rattle.std.proofs.lemmas.Bool.{eqb-true}
use Rattle.block_scanner.specs.WordsView.{WordsView}
use Rattle.nc_blocks.specs.declared.pieces.Piece.{Piece}
use Rattle.nc_blocks.specs.declared.pieces.Piece.TheVariants as piece
use Rattle.nc_blocks.specs.Pieces.{piece_at, text_at, is_assign, is_text}
use Rattle.nc_blocks.specs.AxisNames.{is_axis_start, has_digits, has_axis_name, is_digits_piece}
use Rattle.nc_forms.specs.Standing.{IsAxisName, IsSignedNumber}
use Rattle.nc_forms.proofs.Marked.{parts_true, same_pair, digits_found, digits_only}
use Rattle.nc_forms.specs.Parentheses.{is_close}

-- what holds of the value and the place that are read holds of those that the answer has
pub moved : {A : Type 0} (P : ℕ → A → Type 0) (a c : A) (b d : ℕ) → ◌≡◌ {A = Result (A × ℕ) ℕ} (Ok (a, b)) (Ok (c, d)) → P b a → P d c
moved {A = A} P a c b d e h =
    let p = same_pair a c b d e in
    let Q = λ (x : A). P b x in
    let R = λ (n : ℕ). P n c in
    subst R p.1 (subst Q p.0 h)

pub assign_is : (p : Piece) → is_assign p ≡ true → p ≡ piece.Assign
assign_is piece.Assign h = refl
assign_is p h = cc

pub text_is : (p : Piece) → is_text p ≡ true → p ≡ piece.Text
text_is piece.Text h = refl
text_is p h = cc

pub axis_name_found : (words : WordsView) (at letter : ℕ) → piece_at words at ≡ piece.Letter letter → has_axis_name words at ≡ true → IsAxisName words at (letter ∷ text_at words (at + 1))
unfolding has_axis_name
axis_name_found words at letter l h =
    let p = parts_true (is_axis_start (piece_at words at)) (has_digits words (at + 1)) h in
    (letter, l, sym (ap is_axis_start l) ∙ p.0, digits_found words (at + 1) p.1, refl)

-- truth values
pub false_of : (b : Bool) → (b ≡ true → ⊥) → b ≡ false
false_of true h = absurd (h refl)
false_of false h = refl

pub or_cases : {C : Type 0} (a b : Bool) → (a || b) ≡ true → (a ≡ true → C) → (b ≡ true → C) → C
or_cases true b h f g = f refl
or_cases false b h f g = g h

pub both : (a b : Bool) → a ≡ true → b ≡ true → (a && b) ≡ true
both true b h k = k
both false b h k = cc

pub last_false : (a b : Bool) → b ≡ false → (a && b) ≡ false
last_false true b h = h
last_false false b h = refl

pub or_parts : (a b : Bool) → (a || b) ≡ false → (a ≡ false) × (b ≡ false)
or_parts true b h = cc
or_parts false b h = (refl, h)

pub or_both : (a b : Bool) → a ≡ false → b ≡ false → (a || b) ≡ false
or_both true b h k = cc
or_both false b h k = k

pub letter_case : (P : ℕ → Type 0) (b k : ℕ) → (b == k) ≡ true → P k → P b
letter_case P b k h p = subst P (sym (eqb-true b k h)) p

pub axis_name_only : (words : WordsView) (at : ℕ) (address : List ℕ) → IsAxisName words at address → has_axis_name words at ≡ true
unfolding has_axis_name
axis_name_only words at address h =
    both (is_axis_start (piece_at words at)) (has_digits words (at + 1)) (ap is_axis_start h.1 ∙ h.2) (digits_only words (at + 1) h.3)

pub no_digits : (words : WordsView) (at : ℕ) (p : Piece) → piece_at words at ≡ p → ((text : List ℕ) → is_digits_piece p text ≡ false) → has_digits words at ≡ false
unfolding has_digits
no_digits words at p h f = ap (λ q. is_digits_piece q (text_at words at)) h ∙ f (text_at words at)

pub signed_no_assign : (words : WordsView) (at end : ℕ) (z : ℤ) → IsSignedNumber words at end z → is_assign (piece_at words at) ≡ false
signed_no_assign words at end z h =
    elim h [
      | inl a ↦ ap is_assign a.0
      | inr b ↦ elim b [
        | inl c ↦ ap is_assign c.0
        | inr c ↦ ap is_assign c.1
      ]
    ]

pub close_piece : (p : Piece) → is_close p ≡ true → p ≡ piece.Close
close_piece piece.Close h = refl
close_piece p h = cc
