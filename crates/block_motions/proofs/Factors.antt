-- The factors of two axes are equal where their counts of millionths are.
use Rattle.std.proofs.Common.{◌≡◌, ℕ, ◌<◌, Bool, true, false, [], ◌∷◌, refl, sym, ap, ◌∙◌, arith}
use Rattle.std.specs.Prelude.{ℤ, pos, ◌*ℤ◌}
use Rattle.std.specs.Ordering.{int_eq}
use Rattle.std.proofs.lemmas.Bool.Decides.{Decides-int_eq}
use Rattle.number_laws.proofs.Integers.{times_injective}
use Rattle.number_laws.proofs.Ring.{var, times, ring}

swap : (a b c : ℤ) → (a *ℤ b) *ℤ c ≡ (a *ℤ c) *ℤ b
swap a b c = ring (a ∷ b ∷ c ∷ []) (times (times (var 0) (var 1)) (var 2)) (times (times (var 0) (var 2)) (var 1)) tt

module _ (r s f g : ℤ) (u v : ℕ) (first : r *ℤ pos u ≡ f *ℤ pos 1000000) (second : s *ℤ pos v ≡ g *ℤ pos 1000000) where
  forth : r ≡ s → f *ℤ pos v ≡ g *ℤ pos u
  forth same =
      times_injective 1000000 (f *ℤ pos v) (g *ℤ pos u) (omega arith)
      (swap f (pos v) (pos 1000000) ∙ ap (λ (z : ℤ). z *ℤ pos v) (sym first) ∙ ap (λ (z : ℤ). (z *ℤ pos u) *ℤ pos v) same
      ∙ swap s (pos u) (pos v) ∙ ap (λ (z : ℤ). z *ℤ pos u) second ∙ swap g (pos 1000000) (pos u))

  back : 0 < u → 0 < v → f *ℤ pos v ≡ g *ℤ pos u → r ≡ s
  back some some' same =
      times_injective u r s some
      (times_injective v (r *ℤ pos u) (s *ℤ pos u) some'
      (ap (λ (z : ℤ). z *ℤ pos v) first ∙ swap f (pos 1000000) (pos v) ∙ ap (λ (z : ℤ). z *ℤ pos 1000000) same
      ∙ swap g (pos u) (pos 1000000) ∙ ap (λ (z : ℤ). z *ℤ pos u) (sym second) ∙ swap s (pos v) (pos u)))

  pub same_factor : 0 < u → 0 < v → int_eq r s ≡ int_eq (f *ℤ pos v) (g *ℤ pos u)
  same_factor some some' = by_tests (int_eq r s) (int_eq (f *ℤ pos v) (g *ℤ pos u)) refl refl
    where
      by_tests : (a b : Bool) → int_eq r s ≡ a → int_eq (f *ℤ pos v) (g *ℤ pos u) ≡ b → int_eq r s ≡ int_eq (f *ℤ pos v) (g *ℤ pos u)
      by_tests true true is was = is ∙ sym was
      by_tests true false is was = is ∙ sym ((Decides-int_eq (f *ℤ pos v) (g *ℤ pos u)).1 (forth ((Decides-int_eq r s).0 is)))
      by_tests false true is was = (Decides-int_eq r s).1 (back some some' ((Decides-int_eq (f *ℤ pos v) (g *ℤ pos u)).0 was)) ∙ sym was
      by_tests false false is was = is ∙ sym was
