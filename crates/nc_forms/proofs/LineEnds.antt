-- WordsView: where a line ends, and what ends within it.
use Rattle.std.proofs.Common.{◌≡◌, ℕ, ◌+◌, ◌<◌, ◌≤◌, List, length, refl, sym, inl, inr, Ok, false, arith}
use Rattle.std.specs.Prelude.{ℤ, not}
use Rattle.block_scanner.specs.WordsView.{WordsView}
use Rattle.nc_expressions.specs.Tree.{Tree}
use Rattle.nc_blocks.specs.declared.pieces.Piece.{Piece}
use Rattle.nc_blocks.specs.declared.pieces.Piece.TheVariants as piece
use Rattle.nc_blocks.specs.Pieces.{piece_at, is_end}
use Rattle.nc_blocks.specs.Statement.{Statement}
use Rattle.nc_blocks.proofs.Places.{piece_past}
use Rattle.nc_forms.specs.Standing.{IsSignedNumber, IsAssigned, IsKeyword, IsAlone}
use Rattle.nc_forms.proofs.Standings.{piece_within, past_end, keyword_piece, expression_within}
use Rattle.nc_forms.proofs.Marked.{bound, end_found, end_only}
use Rattle.nc_blocks.specs.Marks.{end_at}
use Rattle.nc_forms.specs.LineEnds.{statement_alone}

pub signed_within : (words : WordsView) (at end : ℕ) (z : ℤ) → IsSignedNumber words at end z → (at < end) × (end ≤ length words.tokens)
signed_within words at end z h =
    elim h [
      | inl a ↦ let w = piece_within words at (piece.Number z) a.0 tt in (omega (arith, a.1), omega (arith, a.1, w))
      | inr b ↦ elim b [
        | inl c ↦ let w = piece_within words (at + 1) (piece.Number z) c.1 tt in (omega (arith, c.2), omega (arith, c.2, w))
        | inr c ↦ let w = piece_within words (at + 1) (piece.Number c.0) c.2 tt in (omega (arith, c.4), omega (arith, c.4, w))
      ]
    ]

-- from a nearer place on
pub nearer : (at next end all : ℕ) → at ≤ next → (next < end) × (end ≤ all) → (at < end) × (end ≤ all)
nearer at next end all h w = (omega (arith, w.0), w.1)

pub assigned_within : (words : WordsView) (at end : ℕ) (t : Tree) → IsAssigned words at end t → (at < end) × (end ≤ length words.tokens)
assigned_within words at end t h = nearer at (at + 1) end (length words.tokens) (omega arith) (expression_within words (at + 1) end t h.1)

pub end_is : (p : Piece) → not (is_end p) ≡ false → p ≡ piece.End
end_is piece.End h = refl
end_is p h = cc

-- the end of the line
pub line_end : (words : WordsView) (end : ℕ) → piece_at words end ≡ piece.End → end ≤ length words.tokens → end ≡ length words.tokens
line_end words end h w = omega (arith, past_end words end h, w)

pub at_line_end : (words : WordsView) (end : ℕ) → end ≡ length words.tokens → piece_at words end ≡ piece.End
at_line_end words end h = sym (piece_past words end (omega (arith, h)))

-- what stands alone or last
pub keyword_within : (words : WordsView) (at : ℕ) (word : List ℕ) → IsKeyword words at word → at < length words.tokens
keyword_within words at word h = piece_within words at piece.Name (keyword_piece words at word h) tt

pub alone_found : (words : WordsView) (at : ℕ) (s x : Statement) → statement_alone words at s ≡ Ok x → (piece_at words at ≡ piece.End) × (s ≡ x)
unfolding statement_alone
alone_found words at s x h =
    let b = bound (end_at words at) (λ (n : ℕ). Ok s) x h in
    let same : s ≡ x = cc in (end_found words at b.0 b.1, same)

pub alone_only : (words : WordsView) (at : ℕ) (s : Statement) → piece_at words at ≡ piece.End → statement_alone words at s ≡ Ok s
unfolding statement_alone
alone_only words at s h = rw (end_only words at h) refl

-- the end of the line after what stands there
pub after_last : (words : WordsView) (at : ℕ) → at < length words.tokens → piece_at words (at + 1) ≡ piece.End → length words.tokens ≡ at + 1
after_last words at w h = omega (arith, past_end words (at + 1) h, w)

-- a name alone
pub alone_form_found : (words : WordsView) (at : ℕ) (word : List ℕ) (s x : Statement) → IsKeyword words at word → statement_alone words (at + 1) s ≡ Ok x →
    IsAlone words at (length words.tokens) word × (s ≡ x)
alone_form_found words at word s x k h =
    let a = alone_found words (at + 1) s x h in ((k, after_last words at (keyword_within words at word k) a.0), a.1)
