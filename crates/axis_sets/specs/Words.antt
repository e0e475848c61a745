-- Meaning. The bits of a word as a list, the lowest first.
use Rattle.std.specs.Prelude.{◌≡◌, ℕ, zero, suc, ◌+◌, ◌*◌, ◌/◌, ◌%◌, ◌^◌, ◌<◌, ◌==◌, Bool, cond, List, [], ◌∷◌}
use Rattle.std.proofs.Common.{arith, refl}
use Rattle.std.proofs.Math.Nat.{pow-suc}

-- the n lowest bits of a word
unfoldable pub bits_of : ℕ → ℕ → List Bool
bits_of zero word = []
bits_of (suc n) word = (word % 2 == 1) ∷ bits_of n (word / 2)

-- the word of some bits
unfoldable pub word_of : List Bool → ℕ
word_of [] = 0
word_of (bit ∷ bits) = cond bit 1 0 + 2 * word_of bits

-- the word of all its bits is the word
pub word_of-bits_of : (n w : ℕ) → w < 2 ^ n → word_of (bits_of n w) ≡ w
unfolding bits_of word_of
word_of-bits_of zero w fits = omega arith
word_of-bits_of (suc n) w fits =
    rw (word_of-bits_of n (w / 2) (omega (arith, pow-suc 2 n))) (whole (w % 2) refl)
  where
    whole : (d : ℕ) → w % 2 ≡ d → cond (w % 2 == 1) 1 0 + 2 * (w / 2) ≡ w
    whole d e = grind arith
