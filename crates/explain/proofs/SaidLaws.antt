-- Numbers with what stands at them: what is so of each stays so where one more is put in, and is so of what is found.
use Rattle.std.proofs.Common.{◌≡◌, ℕ, nat_eq, Bool, true, false, cond, List, [], ◌∷◌, All, IfSome, Option, Some, refl, sym, subst}
use Rattle.std.proofs.lemmas.Bool.{eqb-true}
use Rattle.std.proofs.lemmas.List.Elements.{All-cons, All-head, All-tail}
use Rattle.indexmap.specs.IndexMap.{insert_entry}
use Rattle.std.specs.Map.{lookup}

module _ {V : Type 0} (P : ℕ × V → Type 0) where
  pub all_kept : (es : List (ℕ × V)) (k : ℕ) (v : V) → All P es → P (k, v) → All P (insert_entry nat_eq es k v)
  all_kept [] k v all new = All-cons P (k, v) [] new all
  all_kept (e ∷ es) k v all new = by_key (nat_eq k e.0) refl (all_kept es k v (All-tail P e es all) new)
    where
      by_key : (b : Bool) → nat_eq k e.0 ≡ b → All P (insert_entry nat_eq es k v) → All P (cond b ((e.0, v) ∷ es) (e ∷ insert_entry nat_eq es k v))
      by_key true same rest = All-cons P (e.0, v) es (subst (λ (n : ℕ). P (n, v)) (eqb-true k e.0 same) new) (All-tail P e es all)
      by_key false other rest = All-cons P e (insert_entry nat_eq es k v) (All-head P e es all) rest

  pub found_is : (es : List (ℕ × V)) (k : ℕ) (v : V) → All P es → lookup (nat_eq k) es ≡ Some v → P (k, v)
  found_is [] k v all found = absurd cc
  found_is (e ∷ es) k v all found = by_key (nat_eq k e.0) refl found (λ later. found_is es k v (All-tail P e es all) later)
    where
      own : (n : ℕ) → n ≡ k → P (n, e.1) → P (k, e.1)
      own n is p = subst (λ (m : ℕ). P (m, e.1)) is p

      by_key : (b : Bool) → nat_eq k e.0 ≡ b → cond b (Some e.1) (lookup (nat_eq k) es) ≡ Some v → (lookup (nat_eq k) es ≡ Some v → P (k, v)) → P (k, v)
      by_key true same found rest = subst (λ (o : Option V). IfSome o (λ x. P (k, x))) found (own e.0 (sym (eqb-true k e.0 same)) (All-head P e es all))
      by_key false other found rest = rest found
