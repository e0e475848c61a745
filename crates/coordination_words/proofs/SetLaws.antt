-- What passes of the numbers in a set: those that arguments put into it.
use Rattle.std.proofs.Common.{◌≡◌, ℕ, zero, suc, ◌⊎◌, inl, inr, Bool, true, false, List, [], ◌∷◌, replicate, slice_set, Result, Ok, Err, refl, sym, ap, subst, ◌∙◌}
use Rattle.axis_sets.specs.Sets.{has}
use Rattle.nc_blocks.specs.Statement.{OperandView}
use Rattle.nc_expressions.specs.Value.{◌>>=◌}
use Rattle.coordination_words.specs.Operands.{set_with}

-- what comes of a value that comes of another
pub from_bind : {A B : Type 0} (r : Result A ℕ) (f : A → Result B ℕ) (y : B) → (r >>= f) ≡ Ok y → (x : A) × (r ≡ Ok x) × (f x ≡ Ok y)
from_bind (Ok x) f y is = (x, refl, is)
from_bind {A} {B} (Err code) f y is = absurd (never is)
  where
    never : (let r : Result B ℕ = Err code in r) ≡ Ok y → ⊥
    never e = cc

false_is_true : {A : Type 0} → false ≡ true → A
false_is_true e = absurd (never e)
  where
    never : false ≡ true → ⊥
    never h = cc

-- a member of a set with a number more is that number or was a member
pub more_has : (s : List Bool) (m k : ℕ) → has (slice_set s m true) k ≡ true → (k ≡ m) ⊎ (has s k ≡ true)
more_has [] m k member = inr member
more_has (x ∷ xs) zero zero member = inl refl
more_has (x ∷ xs) zero (suc k) member = inr member
more_has (x ∷ xs) (suc m) zero member = inr member
more_has (x ∷ xs) (suc m) (suc k) member = elim (more_has xs m k member) [ inl here ↦ inl (ap suc here) | inr there ↦ inr there ]

-- a member of a set with a number less was a member
pub less_has : (s : List Bool) (m k : ℕ) → has (slice_set s m false) k ≡ true → has s k ≡ true
less_has [] m k member = member
less_has (x ∷ xs) zero zero member = false_is_true member
less_has (x ∷ xs) zero (suc k) member = member
less_has (x ∷ xs) (suc m) zero member = member
less_has (x ∷ xs) (suc m) (suc k) member = less_has xs m k member

-- and the number is none
pub less_itself : (s : List Bool) (m : ℕ) → has (slice_set s m false) m ≡ false
less_itself [] m = refl
less_itself (x ∷ xs) zero = refl
less_itself (x ∷ xs) (suc m) = less_itself xs m

-- what was a member is one after a number more
kept_has : (s : List Bool) (m k : ℕ) → has s k ≡ true → has (slice_set s m true) k ≡ true
kept_has [] m k member = member
kept_has (x ∷ xs) zero zero member = refl
kept_has (x ∷ xs) zero (suc k) member = member
kept_has (x ∷ xs) (suc m) zero member = member
kept_has (x ∷ xs) (suc m) (suc k) member = kept_has xs m k member

-- and after the numbers of all arguments
pub all_kept : (number_in : OperandView → Result ℕ ℕ) (s : List Bool) (operands : List OperandView) (t : List Bool) → set_with number_in s operands ≡ Ok t
    → (k : ℕ) → has s k ≡ true → has t k ≡ true
all_kept number_in s [] t is k member = subst (λ (r : List Bool). has r k ≡ true) (same is) member
  where
    same : (let r : Result (List Bool) ℕ = Ok s in r) ≡ Ok t → s ≡ t
    same e = cc
all_kept number_in s (operand ∷ operands) t is k member =
    let found = from_bind (number_in operand) (λ n. set_with number_in (slice_set s n true) operands) t is in
    all_kept number_in (slice_set s found.0 true) operands t found.2 k (kept_has s found.0 k member)

-- the set with no member has none
pub none_has : (n k : ℕ) → has (replicate n false) k ≡ false
none_has zero k = refl
none_has (suc n) zero = refl
none_has (suc n) (suc k) = none_has n k

-- where each number that an argument stands for passes, each member passes
pub all_pass : (test : ℕ → Bool) (number_in : OperandView → Result ℕ ℕ) → ((operand : OperandView) (n : ℕ) → number_in operand ≡ Ok n → test n ≡ true)
    → (s : List Bool) → ((m : ℕ) → has s m ≡ true → test m ≡ true) → (operands : List OperandView) (t : List Bool) → set_with number_in s operands ≡ Ok t
    → (m : ℕ) → has t m ≡ true → test m ≡ true
all_pass test number_in each s so [] t is m member = so m (subst (λ (r : List Bool). has r m ≡ true) (sym (same is)) member)
  where
    same : (let r : Result (List Bool) ℕ = Ok s in r) ≡ Ok t → s ≡ t
    same e = cc
all_pass test number_in each s so (operand ∷ operands) t is k within =
    let found = from_bind (number_in operand) (λ n. set_with number_in (slice_set s n true) operands) t is in
    all_pass test number_in each (slice_set s found.0 true)
    (λ m member. elim (more_has s found.0 m member) [ inl here ↦ ap test here ∙ each operand found.0 found.1 | inr there ↦ so m there ])
    operands t found.2 k within

-- the same of a set that begins with no member
pub all_found_pass : (test : ℕ → Bool) (number_in : OperandView → Result ℕ ℕ) → ((operand : OperandView) (n : ℕ) → number_in operand ≡ Ok n → test n ≡ true)
    → (size : ℕ) (operands : List OperandView) (t : List Bool) → set_with number_in (replicate size false) operands ≡ Ok t
    → (m : ℕ) → has t m ≡ true → test m ≡ true
all_found_pass test number_in each size operands t is =
    all_pass test number_in each (replicate size false) (λ m member. false_is_true (sym (none_has size m) ∙ member)) operands t is
