-- The first number for which there is something.
use Rattle.std.proofs.Common.{◌≡◌, ◌∙◌, ℕ, zero, suc, ◌+◌, ◌<◌, ◌≤◌, ◌==◌, Bool, true, false, Option, None, Some, refl, ap, arith, eqb-true, eq-eqb}
use Rattle.std.specs.List.{range_with_len}
use Rattle.std.specs.Option.{option_or}
use Rattle.explain_assumptions.specs.Rows.{first_in}

module _ {A : Type 0} (at : ℕ → Option A) where
  -- none before it has anything
  found_from : (n start place : ℕ) (x : A) → ((k : ℕ) → start ≤ k → k < place → at k ≡ None) → start ≤ place → place < start + n → at place ≡ Some x → first_in at (range_with_len start n) ≡ Some x
  found_from zero start place x none from within is = absurd (omega arith)
  found_from (suc n) start place x none from within is =
      by_test (start == place) refl (λ apart. found_from n (start + 1) place x (λ k after before. none k (omega arith) before) (omega (arith, apart)) (omega arith) is)
    where
      by_test : (t : Bool) → (start == place) ≡ t → ((start ≡ place → ⊥) → first_in at (range_with_len (start + 1) n) ≡ Some x) → first_in at (range_with_len start (suc n)) ≡ Some x
      by_test true same later = ap (λ (o : Option A). option_or o (first_in at (range_with_len (start + 1) n))) (ap at (eqb-true start place same) ∙ is)
      by_test false other later =
          let apart : start ≡ place → ⊥ = λ e. let agrees : (start == place) ≡ true = eq-eqb start place e in absurd cc in
          ap (λ (o : Option A). option_or o (first_in at (range_with_len (start + 1) n))) (none start (omega arith) (omega (arith, apart))) ∙ later apart

  none_from : (n start : ℕ) → ((k : ℕ) → start ≤ k → k < start + n → at k ≡ None) → first_in at (range_with_len start n) ≡ None
  none_from zero start none = refl
  none_from (suc n) start none =
      ap (λ (o : Option A). option_or o (first_in at (range_with_len (start + 1) n))) (none start (omega arith) (omega arith)) ∙ none_from n (start + 1) (λ k after before. none k (omega arith) (omega arith))

  pub found : (n place : ℕ) (x : A) → ((k : ℕ) → k < place → at k ≡ None) → place < n → at place ≡ Some x → first_in at (range_with_len 0 n) ≡ Some x
  found n place x none within is = found_from n 0 place x (λ k _ before. none k before) (omega arith) (omega arith) is

  pub nothing : (n : ℕ) → ((k : ℕ) → k < n → at k ≡ None) → first_in at (range_with_len 0 n) ≡ None
  nothing n none = none_from n 0 (λ k _ before. none k (omega arith))
