-- What a range of numbers gives, from the first on.
use Rattle.std.proofs.Common.{◌≡◌, ◌∙◌, ℕ, suc, ◌+◌, ◌-◌, ◌<◌, List, slice_get, Option, None, Some, sym, ap, arith}
use Rattle.std.specs.List.{cons_option, filter_map, range_with_len}

module _ {X : Type 0} (h : ℕ → Option X) (over : ℕ) where
  -- what the numbers from one on give, below an end
  abbrev pub Given : ℕ → List X
  Given number = filter_map h (range_with_len (number + 1) (over - number))

  one_on : (number : ℕ) → number < over → Given number ≡ cons_option (h (number + 1)) (Given (number + 1))
  one_on number below = let one : over - number ≡ suc (over - (number + 1)) = omega arith in ap (λ (n : ℕ). filter_map h (range_with_len (number + 1) n)) one

  pub found_here : (number left : ℕ) (x : X) (sought : Option X) → number < over → h (number + 1) ≡ Some x → left ≡ 0 → slice_get (Given number) left ≡ sought → Some x ≡ sought
  found_here number left x sought below is none so_far =
      let here : slice_get (Given number) left ≡ Some x = ap (λ (k : ℕ). slice_get (Given number) k) none ∙ ap (λ (xs : List X). slice_get xs 0) (one_on number below ∙ ap (λ (o : Option X). cons_option o (Given (number + 1))) is) in
      sym here ∙ so_far

  pub one_passed : (number left next : ℕ) (x : X) (sought : Option X) → number < over → h (number + 1) ≡ Some x → left ≡ suc next → slice_get (Given number) left ≡ sought → slice_get (Given (number + 1)) next ≡ sought
  one_passed number left next x sought below is more so_far =
      let later : slice_get (Given number) left ≡ slice_get (Given (number + 1)) next =
      ap (λ (k : ℕ). slice_get (Given number) k) more ∙ ap (λ (xs : List X). slice_get xs (suc next)) (one_on number below ∙ ap (λ (o : Option X). cons_option o (Given (number + 1))) is) in
      sym later ∙ so_far

  pub none_here : (number left : ℕ) (sought : Option X) → number < over → h (number + 1) ≡ None → slice_get (Given number) left ≡ sought → slice_get (Given (number + 1)) left ≡ sought
  none_here number left sought below is so_far =
      sym (ap (λ (xs : List X). slice_get xs left) (one_on number below ∙ ap (λ (o : Option X). cons_option o (Given (number + 1))) is)) ∙ so_far
