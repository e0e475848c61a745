-- What is true of every set.
use Rattle.std.proofs.Common.{◌≡◌, ℕ, zero, suc, ◌+◌, ◌<◌, ◌≤◌, ◌==◌, ◌&&◌, ◌||◌, ◌⊎◌, Bool, true, false, cond, inl, inr, List, ◌∷◌, length, filter, refl, sym, ◌∙◌, arith}
use Rattle.std.proofs.Math.ListN.{get_or-eq_default}
use Rattle.std.proofs.lemmas.Bool.{eq-eqb, ne_eqb, cases_eq}
use Rattle.std.proofs.lemmas.List.{ext_get_or}
use Rattle.std.proofs.lemmas.List.FromFn.{length-range_with_len, get_or-range_with_len}
use Rattle.std.proofs.lemmas.List.Kept.{IsStrictlyIncreasing-filter}
use Rattle.std.specs.List.{list_any, range_with_len}
use Rattle.std.specs.List.Sorted.{IsStrictlyIncreasing}
use Rattle.axis_sets.specs.Sets.{has, members_of}

-- two sets of one kind with the same members are one set
pub same_sets : (s t : List Bool) → length s ≡ length t → ((m : ℕ) → has s m ≡ has t m) → s ≡ t
same_sets s t sizes same = ext_get_or false s t sizes (λ m _. same m)

-- no number from the size of a set on is a member
pub has-past : (s : List Bool) (m : ℕ) → length s ≤ m → has s m ≡ false
has-past s m past = get_or-eq_default s false past

any_kept : (q : ℕ → Bool) (b : Bool) (x : ℕ) (xs : List ℕ) → list_any q (cond b (x ∷ xs) xs) ≡ ((b && q x) || list_any q xs)
any_kept q true x xs = refl
any_kept q false x xs = refl

-- a number outside the range is not among those of the range that pass
unlisted : (p : ℕ → Bool) (a n m : ℕ) → (m < a) ⊎ (a + n ≤ m) → list_any (λ x. x == m) (filter p (range_with_len a n)) ≡ false
unlisted p a zero m out = refl
unlisted p a (suc n) m out =
    let apart : (a == m) ≡ false = ne_eqb a m (λ e. elim out [ inl h ↦ omega arith | inr h ↦ omega arith ]) in
    let rest : list_any (λ x. x == m) (filter p (range_with_len (a + 1) n)) ≡ false =
    unlisted p (a + 1) n m (elim out [ inl h ↦ inl (omega arith) | inr h ↦ inr (omega arith) ]) in
    any_kept (λ x. x == m) (p a) a (filter p (range_with_len (a + 1) n)) ∙ rw (apart, rest) (none (p a))
  where
    none : (b : Bool) → ((b && false) || false) ≡ false
    none true = refl
    none false = refl

-- a number in the range is among those that pass where it passes
listed : (p : ℕ → Bool) (a n m : ℕ) → a ≤ m → m < a + n → list_any (λ x. x == m) (filter p (range_with_len a n)) ≡ p m
listed p a zero m from upto = absurd (omega arith)
listed p a (suc n) m from upto = elim (cases_eq a m) [
  | inl here ↦ any_kept (λ x. x == m) (p a) a (filter p (range_with_len (a + 1) n))
      ∙ rw (here, eq-eqb m m refl, unlisted p (m + 1) n m (inl (omega arith))) (only (p m))
  | inr other ↦ any_kept (λ x. x == m) (p a) a (filter p (range_with_len (a + 1) n))
      ∙ rw (ne_eqb a m other, listed p (a + 1) n m (omega arith) (omega arith)) (later (p a) (p m))
]
  where
    only : (b : Bool) → ((b && true) || false) ≡ b
    only true = refl
    only false = refl

    later : (b c : Bool) → ((b && false) || c) ≡ c
    later true c = refl
    later false c = refl

-- the list of the members has each of them
pub list_any-members_of : (s : List Bool) (m : ℕ) → list_any (λ x. x == m) (members_of s) ≡ has s m
list_any-members_of s m = elim (below_or_past m (length s)) [
  | inl below ↦ listed (has s) 0 (length s) m (omega arith) (omega arith)
  | inr past ↦ unlisted (has s) 0 (length s) m (inr (omega arith)) ∙ sym (has-past s m past)
]
  where
    below_or_past : (a b : ℕ) → (a < b) ⊎ (b ≤ a)
    below_or_past a b = grind arith

ascending_range : (n : ℕ) → IsStrictlyIncreasing (range_with_len 0 n)
ascending_range n k within =
    let size : length (range_with_len 0 n) ≡ n = length-range_with_len 0 n in
    rw (get_or-range_with_len 0 n k 0 (omega arith), get_or-range_with_len 0 n (k + 1) 0 (omega arith)) (omega arith)

-- and has them ascending
pub members_of-ascending : (s : List Bool) → IsStrictlyIncreasing (members_of s)
members_of-ascending s = IsStrictlyIncreasing-filter (has s) (range_with_len 0 (length s)) (ascending_range (length s))
