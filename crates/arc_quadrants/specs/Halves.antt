-- Meaning. A quarter cut in two again and again.
use Rattle.std.specs.Prelude.{ℕ, zero, suc, ◌+◌, ◌*◌, ◌^◌, ◌<◌, List, [], ◌∷◌, ◌++◌}

-- the direction between two directions that is their sum
abbrev pub middle : ℕ × ℕ → ℕ × ℕ → ℕ × ℕ
middle a b = (a.0 + b.0, a.1 + b.1)

-- the parts in order, each by its two directions: at each level every part is cut in two at the middle
abbrev pub halves : ℕ → ℕ × ℕ → ℕ × ℕ → List ((ℕ × ℕ) × (ℕ × ℕ))
halves zero a b = (a, b) ∷ []
halves (suc depth) a b = halves depth a (middle a b) ++ halves depth (middle a b) b

-- a direction short enough to be cut so often: its parts are not both 0 and stay below 2 ^ 29
pub record IsShort (depth : ℕ) (d : ℕ × ℕ) : Type 0 where
  pub some : 0 < d.0 + d.1
  pub first : d.0 * 2 ^ depth < 536870912
  pub second : d.1 * 2 ^ depth < 536870912
