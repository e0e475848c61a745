-- Sets without a member, and sets with one.
use Rattle.std.proofs.Common.{◌≡◌, ℕ, ◌==◌, ◌&&◌, ◌||◌, not, Bool, true, false, cond, inl, inr, List, [], ◌∷◌, filter, length, refl, ap, ◌∙◌}
use Rattle.std.specs.List.{list_any, range_with_len}
use Rattle.std.proofs.lemmas.Bool.{cases_Bool, true_from_ne_false}
use Rattle.axis_sets.specs.Sets.{has, members_of, IsEmpty}
use Rattle.axis_sets.proofs.SetLaws.{list_any-members_of}
use Rattle.sync_types.proofs.BoardTests.{no_truth, some_pass}
use Rattle.sync_types.specs.BoardActions.{others_than}

both : (p q r : ℕ → Bool) (xs : List ℕ) → ((x : ℕ) → r x ≡ (q x && p x)) → filter r xs ≡ filter p (filter q xs)
both p q r [] e = refl
both p q r (x ∷ xs) e = elim (cases_Bool (q x)) [
  | inl on ↦ rw (e x, on) (ap (λ (rest : List ℕ). cond (p x) (x ∷ rest) rest) (both p q r xs e))
  | inr off ↦ rw (e x, off) (both p q r xs e)
]

pub without_members : (w named : List Bool) (c : ℕ) → length w ≡ length named → ((m : ℕ) → has w m ≡ (has named m && not (m == c))) → members_of w ≡ others_than c (members_of named)
without_members w named c same e = rw same (both (λ d. not (d == c)) (has named) (has w) (range_with_len 0 (length named)) e)

pub some_member : (s : List Bool) → (IsEmpty s → ⊥) → list_any (λ n. true) (members_of s) ≡ true
some_member s filled = true_from_ne_false _ (λ none. filled (λ m. elim (cases_Bool (has s m)) [
  | inl on ↦ no_truth (list_any (λ n. true) (members_of s)) (some_pass (λ n. true) (members_of s) m (list_any-members_of s m ∙ on) refl) none
  | inr off ↦ off
]))

pub cleared : (own marks some : Bool) → some ≡ true → (own && not (own && not marks)) ≡ (own && not (own && not (marks || not some)))
cleared own true some on = refl
cleared true false some on = rw on refl
cleared false false some on = refl

-- a set without a member
none_of : (p : ℕ → Bool) (xs : List ℕ) → ((x : ℕ) → p x ≡ false) → filter p xs ≡ []
none_of p [] off = refl
none_of p (x ∷ xs) off = rw (off x) (none_of p xs off)

pub no_member : (s : List Bool) → IsEmpty s → list_any (λ n. true) (members_of s) ≡ false
no_member s empty = ap (λ (xs : List ℕ). list_any (λ n. true) xs) (none_of (has s) (range_with_len 0 (length s)) empty)

pub all_cleared : (own marks some : Bool) → marks ≡ false → some ≡ false → own ≡ (own && not (own && not (marks || not some)))
all_cleared true marks some off none = rw (off, none) refl
all_cleared false marks some off none = refl
