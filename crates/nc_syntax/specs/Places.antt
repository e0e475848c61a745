-- Law. Where a refused line breaks off: the leftmost place at which no block goes on, and the code of this place.
use Rattle.std.specs.Prelude.{◌≡◌, ℕ, ◌+◌, ◌<◌, ◌⊎◌, Bool, length, slice_get, Some}
use Rattle.block_scanner.specs.WordsView.{WordsView}
use Rattle.nc_expressions.specs.declared.faults.SyntaxFault.{SyntaxFault}
use Rattle.nc_expressions.specs.declared.faults.SyntaxFault.TheVariants.{Refused, NoMemory}
use Rattle.nc_expressions.specs.declared.symbols.Symbol.TheVariants as symbol
use Rattle.nc_expressions.specs.declared.trees.UnaryOp.{UnaryOp}
use Rattle.nc_expressions.specs.Symbols.{symbols_of}
use Rattle.nc_blocks.specs.Pieces.{piece_at, text_at}
use Rattle.nc_blocks.specs.Statement.{BlockView}
use Rattle.nc_syntax.specs.Spelled.{Spells, IsAccepted}
use Rattle.nc_syntax.specs.Wanted.{mark_at}
use Rattle.nc_syntax.specs.Forms.{Head, head_step, state_at}
use Rattle.nc_syntax.specs.Forms as forms

-- the same stands at a place of both lines
abbrev pub IsSameAt : WordsView → WordsView → ℕ → Type 0
IsSameAt words other at =
    (piece_at words at ≡ piece_at other at) × (text_at words at ≡ text_at other at)
    × (slice_get (symbols_of words) at ≡ slice_get (symbols_of other) at)

-- the other line begins with the first so many tokens of this one
abbrev pub BeginsAs : WordsView → ℕ → WordsView → Type 0
BeginsAs words count other = (at : ℕ) → at < count → IsSameAt words other at

-- some line that begins with the first so many tokens spells a block
abbrev pub GoesOn : WordsView → ℕ → Type 0
GoesOn words count = (other : WordsView) × (block : BlockView) × BeginsAs words count other × Spells other block

-- the same, or only the name of a function at their end is too much, where its parenthesis is the place of the refusal
abbrev pub MayGoOn : WordsView → ℕ → Type 0
MayGoOn words count =
    GoesOn words count
    ⊎ ((before : ℕ) × (f : UnaryOp) × (count ≡ before + 1) × (slice_get (symbols_of words) before ≡ Some (symbol.Function f)) × GoesOn words before)

-- the leftmost place at which no block goes on; or the end of a line that spells none, and could go on
abbrev pub BreaksAt : WordsView → ℕ → Type 0
BreaksAt words at =
    MayGoOn words at
    × (((at < length words.tokens) × ¬ (GoesOn words (at + 1)))
    ⊎ ((at ≡ length words.tokens) × ((block : BlockView) → ¬ (Spells words block))))

-- what the tokens before a place leave wanted refuses what stands there with this code
abbrev pub IsRefusedAt : WordsView → ℕ → ℕ → Type 0
IsRefusedAt words at code = (head : Head) × (state_at words at ≡ Some head) × (head_step head (mark_at words at) ≡ forms.Refused code)

-- a line that is refused, and has no refused word and no number out of range, breaks off at a place with its code
abbrev pub BreaksOff : WordsView → Bool → SyntaxFault → Type 0
BreaksOff words compensation (Refused code) =
    IsAccepted words compensation → (place : ℕ) × BreaksAt words place × IsRefusedAt words place code
BreaksOff words compensation NoMemory = Unit {0}
