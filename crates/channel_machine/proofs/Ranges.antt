-- A test of all numbers of a range, and what is left of it.
use Rattle.std.proofs.Common.{◌≡◌, ◌∙◌, ℕ, suc, ◌+◌, ◌-◌, ◌<◌, ◌≤◌, ◌&&◌, Bool, true, false, sym, ap, arith}
use Rattle.std.specs.List.{list_all, range_with_len}

-- the first number, and the rest
pub from_next : (test : ℕ → Bool) (low index high : ℕ) → index < high → list_all test (range_with_len index (high - index)) ≡ (test index && list_all test (range_with_len (index + 1) (high - (index + 1))))
from_next test low index high below =
    let more : high - index ≡ suc (high - (index + 1)) = omega (arith, below) in
    ap (λ (n : ℕ). list_all test (range_with_len index n)) more

-- the first number fails, and so do all
pub fails : (test : ℕ → Bool) (index high : ℕ) (all : Bool) → index < high → list_all test (range_with_len index (high - index)) ≡ all → test index ≡ false → false ≡ all
fails test index high all below same not = sym (from_next test 0 index high below ∙ ap (λ (b : Bool). b && list_all test (range_with_len (index + 1) (high - (index + 1)))) not) ∙ same

-- it passes, and the rest decides
pub passes : (test : ℕ → Bool) (index high : ℕ) (all : Bool) → index < high → list_all test (range_with_len index (high - index)) ≡ all → test index ≡ true
    → list_all test (range_with_len (index + 1) (high - (index + 1))) ≡ all
passes test index high all below same is = sym (from_next test 0 index high below ∙ ap (λ (b : Bool). b && list_all test (range_with_len (index + 1) (high - (index + 1)))) is) ∙ same

-- none is left
pub ended : (test : ℕ → Bool) (index high : ℕ) (all : Bool) → high ≤ index → list_all test (range_with_len index (high - index)) ≡ all → true ≡ all
ended test index high all past same =
    let none : high - index ≡ 0 = omega (arith, past) in
    sym (ap (λ (n : ℕ). list_all test (range_with_len index n)) none) ∙ same
