-- The front of a text that is found by the first place at which a test passes.
use Rattle.std.proofs.Common.{◌≡◌, ◌∙◌, ℕ, ◌+◌, ◌≤◌, List, ◌∷◌, length, take, None, Some, sym, ap, arith, add-one}
use Rattle.std.proofs.lemmas.List.{length-take, take_all, take_min}
use Rattle.std.proofs.lemmas.Bool.Decides.{nat_tests}
use Rattle.std.specs.List.{before_first, position, position_or_len}
use Rattle.explain_lines.specs.Numbers.{is_no_digit}

pub front_found : (xs : List ℕ) (n : ℕ) → position is_no_digit xs ≡ Some n → take n xs ≡ before_first is_no_digit xs
front_found xs n e = let s : position_or_len is_no_digit xs ≡ n = grind (arith, nat_tests) in rw s

pub front_open : (xs : List ℕ) → position is_no_digit xs ≡ None → xs ≡ before_first is_no_digit xs
front_open xs e = let l : length xs ≤ position_or_len is_no_digit xs = grind (arith, nat_tests) in sym (take_all (position_or_len is_no_digit xs) xs l)

pub digits_fit : (xs : List ℕ) → length (before_first is_no_digit xs) ≤ length xs
digits_fit xs = omega (arith, length-take (position_or_len is_no_digit xs) xs)

pub front_of_block : (letter : ℕ) (rest : List ℕ) → take (length (before_first is_no_digit rest) + 1) (letter ∷ rest) ≡ letter ∷ before_first is_no_digit rest
front_of_block letter rest =
    let n : ℕ = position_or_len is_no_digit rest in
    let m : take (length (before_first is_no_digit rest)) rest ≡ before_first is_no_digit rest = ap (λ k. take k rest) (length-take n rest) ∙ take_min n rest in
    rw (add-one (length (before_first is_no_digit rest))) (ap (λ (ys : List ℕ). letter ∷ ys) m)
