-- Tests of all members of a set, and of all but one.
use Rattle.std.proofs.Common.{◌≡◌, ℕ, zero, suc, ◌+◌, ◌<◌, ◌≤◌, ◌==◌, ◌&&◌, ◌||◌, not, ◌⊎◌, Bool, true, false, cond, inl, inr, List, [], ◌∷◌, length, filter, refl, sym, ap, ◌∙◌, arith}
use Rattle.std.proofs.lemmas.Bool.{eq-eqb, ne_eqb, cases_eq}
use Rattle.std.specs.List.{list_all, list_any, range_with_len}
use Rattle.axis_sets.proofs.SetLaws.{has-past, list_any-members_of}
use Rattle.axis_sets.specs.Sets.{has, members_of}
use Rattle.set_laws.specs.Others.{others_than}

-- a member is below the size of its set
pub has-below : (s : List Bool) (m : ℕ) → has s m ≡ true → m < length s
has-below s m member = elim (below_or_past m (length s)) [
  | inl below ↦ below
  | inr past ↦ absurd (never (has s m) member (has-past s m past))
]
  where
    below_or_past : (a b : ℕ) → (a < b) ⊎ (b ≤ a)
    below_or_past a b = grind arith

    never : (b : Bool) → b ≡ true → b ≡ false → ⊥
    never b e h = cc

any_kept : (q : ℕ → Bool) (b : Bool) (x : ℕ) (xs : List ℕ) → list_any q (cond b (x ∷ xs) xs) ≡ ((b && q x) || list_any q xs)
any_kept q true x xs = refl
any_kept q false x xs = refl

-- a test of those that a filter keeps
pub list_all-filter : (p q : ℕ → Bool) (xs : List ℕ) → list_all p (filter q xs) ≡ list_all (λ x. not (q x) || p x) xs
list_all-filter p q [] = refl
list_all-filter p q (x ∷ xs) = all_kept p (q x) x (filter q xs) ∙ rw (list_all-filter p q xs) refl
  where
    all_kept : (p : ℕ → Bool) (b : Bool) (x : ℕ) (ys : List ℕ) → list_all p (cond b (x ∷ ys) ys) ≡ ((not b || p x) && list_all p ys)
    all_kept p true x ys = refl
    all_kept p false x ys = refl

-- each number of a range passes
all_of_range : (p : ℕ → Bool) (a n : ℕ) → ((m : ℕ) → a ≤ m → m < a + n → p m ≡ true) → list_all p (range_with_len a n) ≡ true
all_of_range p a zero each = refl
all_of_range p a (suc n) each =
    let rest : list_all p (range_with_len (a + 1) n) ≡ true = all_of_range p (a + 1) n (λ m from upto. each m (omega arith) (omega arith)) in
    let here : p a ≡ true = each a (omega arith) (omega arith) in
    rw (here, rest) refl

both : (b c : Bool) → (b && c) ≡ true → (b ≡ true) × (c ≡ true)
both true c h = (refl, h)
both false c h = (h, absurd (never h))
  where
    never : false ≡ true → ⊥
    never e = cc

one_of_range : (p : ℕ → Bool) (a n m : ℕ) → list_all p (range_with_len a n) ≡ true → a ≤ m → m < a + n → p m ≡ true
one_of_range p a zero m all from upto = absurd (omega arith)
one_of_range p a (suc n) m all from upto =
    let parts = both (p a) (list_all p (range_with_len (a + 1) n)) all in
    elim (cases_eq a m) [
      | inl here ↦ ap p (sym here) ∙ parts.0
      | inr other ↦ one_of_range p (a + 1) n m parts.1 (omega arith) (omega arith)
    ]

-- a test of all members holds where each passes
pub list_all-members_of : (s : List Bool) (p : ℕ → Bool) → ((m : ℕ) → has s m ≡ true → p m ≡ true) → list_all p (members_of s) ≡ true
list_all-members_of s p each =
    list_all-filter p (has s) (range_with_len 0 (length s))
    ∙ all_of_range (λ x. not (has s x) || p x) 0 (length s) (λ m from upto. implied (has s m) (p m) (each m))
  where
    implied : (b c : Bool) → (b ≡ true → c ≡ true) → (not b || c) ≡ true
    implied true c h = h refl
    implied false c h = refl

-- and then each passes
pub list_all-at_member : (s : List Bool) (p : ℕ → Bool) (m : ℕ) → list_all p (members_of s) ≡ true → has s m ≡ true → p m ≡ true
list_all-at_member s p m all member =
    let tested : list_all (λ x. not (has s x) || p x) (range_with_len 0 (length s)) ≡ true = sym (list_all-filter p (has s) (range_with_len 0 (length s))) ∙ all in
    let below = has-below s m member in
    passes (has s m) (p m) member (one_of_range (λ x. not (has s x) || p x) 0 (length s) m tested (omega arith) (omega arith))
  where
    passes : (b c : Bool) → b ≡ true → (not b || c) ≡ true → c ≡ true
    passes b c e h = cc

-- a test of all members but one holds where each of them passes
pub list_all-others : (s : List Bool) (p : ℕ → Bool) (one : ℕ) → ((m : ℕ) → has s m ≡ true → (m == one) ≡ false → p m ≡ true) → list_all p (others_than one (members_of s)) ≡ true
list_all-others s p one each =
    list_all-filter p (λ n. not (n == one)) (members_of s)
    ∙ list_all-members_of s (λ n. not (not (n == one)) || p n) (λ m member. implied (m == one) (p m) (each m member))
  where
    implied : (b c : Bool) → (b ≡ false → c ≡ true) → (not (not b) || c) ≡ true
    implied true c h = refl
    implied false c h = h refl

-- and then each of them passes
pub list_all-at_other : (s : List Bool) (p : ℕ → Bool) (one m : ℕ) → list_all p (others_than one (members_of s)) ≡ true → has s m ≡ true → (m == one) ≡ false → p m ≡ true
list_all-at_other s p one m all member other =
    passes (m == one) (p m) other
    (list_all-at_member s (λ n. not (not (n == one)) || p n) m (sym (list_all-filter p (λ n. not (n == one)) (members_of s)) ∙ all) member)
  where
    passes : (b c : Bool) → b ≡ false → (not (not b) || c) ≡ true → c ≡ true
    passes b c e h = cc

-- a number is among the members that pass where it is a member and passes
pub list_any-filter_members : (s : List Bool) (p : ℕ → Bool) (m : ℕ) → list_any (λ x. x == m) (filter p (members_of s)) ≡ (has s m && p m)
list_any-filter_members s p m = kept p m (members_of s) ∙ rw (list_any-members_of s m) refl
  where
    joined : (b c : Bool) → ((b && true) || (c && b)) ≡ ((true || c) && b)
    joined true c = refl
    joined false true = refl
    joined false false = refl

    later : (b c : Bool) → ((b && false) || c) ≡ c
    later true c = refl
    later false c = refl

    kept : (p : ℕ → Bool) (m : ℕ) (xs : List ℕ) → list_any (λ x. x == m) (filter p xs) ≡ (list_any (λ x. x == m) xs && p m)
    kept p m [] = refl
    kept p m (x ∷ xs) = any_kept (λ y. y == m) (p x) x (filter p xs) ∙ rw (kept p m xs) (elim (cases_eq x m) [
      | inl here ↦ rw (here, eq-eqb m m refl) (joined (p m) (list_any (λ y. y == m) xs))
      | inr other ↦ rw (ne_eqb x m other) (later (p x) (list_any (λ y. y == m) xs && p m))
    ])
