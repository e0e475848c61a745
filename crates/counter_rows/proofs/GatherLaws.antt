-- The greatest of the rest of a range.
use Rattle.std.proofs.Common.{◌≡◌, ℕ, suc, ◌+◌, ◌-◌, ◌<◌, max, Bool, true, false, inl, inr, filter, refl, sym, ap, ◌∙◌, arith, if◌then◌else◌}
use Rattle.std.proofs.lemmas.Bool.{cases_Bool, cases_lt}
use Rattle.std.specs.List.{range_with_len}
use Rattle.counter_rows.specs.Rows.{top}

pub rest_step : (f : ℕ → ℕ) (p : ℕ → Bool) (n m : ℕ) → m < n
    → top f (filter p (range_with_len m (n - m))) ≡ (if p m then max (f m) (top f (filter p (range_with_len (m + 1) (n - (m + 1))))) else top f (filter p (range_with_len (m + 1) (n - (m + 1)))))
rest_step f p n m within =
    let e : n - m ≡ suc (n - (m + 1)) = omega arith in
    rw e (elim (cases_Bool (p m)) [ inl on ↦ rw on refl | inr off ↦ rw off refl ])

pub max_assoc : (a b c : ℕ) → max (max a b) c ≡ max a (max b c)
max_assoc a b c = elim (cases_lt a b) [
  | inl ab ↦ elim (cases_lt b c) [ inl bc ↦ omega arith | inr bc ↦ omega arith ]
  | inr ab ↦ elim (cases_lt a c) [ inl ac ↦ omega arith | inr ac ↦ elim (cases_lt b c) [ inl bc ↦ omega arith | inr bc ↦ omega arith ] ]
]

pub past_all : (f : ℕ → ℕ) (p : ℕ → Bool) (n m : ℕ) → m ≡ n → top f (filter p (range_with_len m (n - m))) ≡ 0
past_all f p n m e = let none : n - m ≡ 0 = omega arith in rw none refl

-- one member more or none
pub gathered_step : (f : ℕ → ℕ) (p : ℕ → Bool) (n m old new total : ℕ) → m < n
    → (p m ≡ true → new ≡ max old (f m)) → (p m ≡ false → new ≡ old)
    → max old (top f (filter p (range_with_len m (n - m)))) ≡ total
    → max new (top f (filter p (range_with_len (m + 1) (n - (m + 1))))) ≡ total
gathered_step f p n m old new total within more same known = elim (cases_Bool (p m)) [
  | inl on ↦
      let step : top f (filter p (range_with_len m (n - m))) ≡ max (f m) (top f (filter p (range_with_len (m + 1) (n - (m + 1))))) = rest_step f p n m within ∙ rw on refl in
      rw (more on) (max_assoc old (f m) (top f (filter p (range_with_len (m + 1) (n - (m + 1))))) ∙ (ap (λ (r : ℕ). max old r) (sym step) ∙ known))
  | inr off ↦
      let step : top f (filter p (range_with_len m (n - m))) ≡ top f (filter p (range_with_len (m + 1) (n - (m + 1)))) = rest_step f p n m within ∙ rw off refl in
      rw (same off) (ap (λ (r : ℕ). max old r) (sym step) ∙ known)
]

pub gathered_all : (f : ℕ → ℕ) (p : ℕ → Bool) (n m row total : ℕ) → m ≡ n → max row (top f (filter p (range_with_len m (n - m)))) ≡ total → row ≡ total
gathered_all f p n m row total e known =
    let none : top f (filter p (range_with_len m (n - m))) ≡ 0 = past_all f p n m e in
    let same : max row 0 ≡ total = rw none at known in
    omega arith
