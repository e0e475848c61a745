-- Meaning. All but one.
use Rattle.std.specs.Prelude.{ℕ, ◌==◌, not, List, filter}

-- of these numbers those other than one
abbrev pub others_than : ℕ → List ℕ → List ℕ
others_than one numbers = filter (λ n. not (n == one)) numbers
