-- Orders of whole numbers by certificates: a sum of products of facts, which a solver of equations checks.
use Rattle.std.proofs.Common.{◌≡◌, ◌∙◌, ℕ, zero, suc, List, [], ◌∷◌, refl, ap, arith}
use Rattle.std.proofs.Math.Dec.{T}
use Rattle.std.proofs.lemmas.Int.{ints, by_lt_z}
use Rattle.std.specs.Prelude.{ℤ, pos, ◌+ℤ◌, ◌-ℤ◌, ◌*ℤ◌, ◌≤ℤ◌, ◌<ℤ◌}
use Rattle.number_laws.proofs.Integers.{nonneg-+ℤ, nonneg-*ℤ, nonneg-square, nonneg-pos}
use Rattle.number_laws.proofs.Ring.{Expr, num, plus, minus, times, eval, norm, is_zero, vanishes}

-- what is never negative, over facts `0 ≤ e` and equations `z ≡ 0` that are counted from 0
pub data Cert : Type 0 where
  some : ℕ → Cert  -- a numeral
  given : ℕ → Cert  -- a fact
  square : Expr → Cert  -- a square
  zeroed : ℕ → Expr → Cert  -- a multiple of an equation
  both : Cert → Cert → Cert  -- a sum
  by : Cert → Cert → Cert  -- a product

-- the expression at a place of a list, or 0
abbrev pub at : List Expr → ℕ → Expr
at [] n = num (pos 0)
at (e ∷ es) zero = e
at (e ∷ es) (suc n) = at es n

abbrev pub meaning : List Expr → List Expr → Cert → Expr
meaning hs zs (some n) = num (pos n)
meaning hs zs (given i) = at hs i
meaning hs zs (square e) = times e e
meaning hs zs (zeroed i e) = times e (at zs i)
meaning hs zs (both c d) = plus (meaning hs zs c) (meaning hs zs d)
meaning hs zs (by c d) = times (meaning hs zs c) (meaning hs zs d)

-- the facts: a tuple `(h0, (h1, tt))`
abbrev pub AllNonneg : List ℤ → List Expr → Type 0
AllNonneg ρ [] = Unit {0}
AllNonneg ρ (e ∷ es) = (pos 0 ≤ℤ eval ρ e) × AllNonneg ρ es

-- the equations, in the same form
abbrev pub AllZero : List ℤ → List Expr → Type 0
AllZero ρ [] = Unit {0}
AllZero ρ (e ∷ es) = (eval ρ e ≡ pos 0) × AllZero ρ es

at-nonneg : (ρ : List ℤ) (hs : List Expr) → AllNonneg ρ hs → (i : ℕ) → pos 0 ≤ℤ eval ρ (at hs i)
at-nonneg ρ [] h i = nonneg-pos 0
at-nonneg ρ (e ∷ es) h zero = h.0
at-nonneg ρ (e ∷ es) h (suc i) = at-nonneg ρ es h.1 i

at-zero : (ρ : List ℤ) (zs : List Expr) → AllZero ρ zs → (i : ℕ) → eval ρ (at zs i) ≡ pos 0
at-zero ρ [] h i = refl
at-zero ρ (e ∷ es) h zero = h.0
at-zero ρ (e ∷ es) h (suc i) = at-zero ρ es h.1 i

nothing : (a : ℤ) → a *ℤ pos 0 ≡ pos 0
nothing a = omega (arith, ints)

along : (a b : ℤ) → a ≡ b → pos 0 ≤ℤ b → pos 0 ≤ℤ a
along a b e h = omega (arith, ints)

meaning-nonneg : (ρ : List ℤ) (hs zs : List Expr) → AllNonneg ρ hs → AllZero ρ zs
    → (c : Cert) → pos 0 ≤ℤ eval ρ (meaning hs zs c)
meaning-nonneg ρ hs zs h z (some n) = nonneg-pos n
meaning-nonneg ρ hs zs h z (given i) = at-nonneg ρ hs h i
meaning-nonneg ρ hs zs h z (square e) = nonneg-square (eval ρ e)
meaning-nonneg ρ hs zs h z (zeroed i e) =
    along (eval ρ e *ℤ eval ρ (at zs i)) (pos 0) (ap (λ v. eval ρ e *ℤ v) (at-zero ρ zs z i) ∙ nothing (eval ρ e)) (nonneg-pos 0)
meaning-nonneg ρ hs zs h z (both c d) =
    nonneg-+ℤ (eval ρ (meaning hs zs c)) (eval ρ (meaning hs zs d)) (meaning-nonneg ρ hs zs h z c) (meaning-nonneg ρ hs zs h z d)
meaning-nonneg ρ hs zs h z (by c d) =
    nonneg-*ℤ (eval ρ (meaning hs zs c)) (eval ρ (meaning hs zs d)) (meaning-nonneg ρ hs zs h z c) (meaning-nonneg ρ hs zs h z d)

le_from : (a b m : ℤ) → (b -ℤ a) -ℤ m ≡ pos 0 → pos 0 ≤ℤ m → a ≤ℤ b
le_from a b m e h = omega (arith, ints)

-- a ≤ b, where b - a is the certificate: the last argument is `tt`
pub certify : (ρ : List ℤ) (hs zs : List Expr) (c : Cert) (a b : Expr) → AllNonneg ρ hs → AllZero ρ zs
    → T (is_zero (norm (minus (minus b a) (meaning hs zs c)))) → eval ρ a ≤ℤ eval ρ b
certify ρ hs zs c a b h z t =
    le_from (eval ρ a) (eval ρ b) (eval ρ (meaning hs zs c)) (vanishes ρ (minus (minus b a) (meaning hs zs c)) t)
    (meaning-nonneg ρ hs zs h z c)

above_none : (a b : ℤ) → b <ℤ a → pos 0 ≤ℤ ((a -ℤ b) -ℤ pos 1)
above_none a b h = omega (arith, ints)

never : (m : ℤ) → m +ℤ pos 1 ≡ pos 0 → pos 0 ≤ℤ m → ⊥
never m e h = omega (arith, ints)

-- a ≤ b, where the certificate is -1 if a > b: fact 0 is 0 ≤ a - b - 1 then, and the given ones are 1, 2, ..
pub refute : (ρ : List ℤ) (hs zs : List Expr) (c : Cert) (a b : Expr) → AllNonneg ρ hs → AllZero ρ zs
    → T (is_zero (norm (plus (meaning (minus (minus a b) (num (pos 1)) ∷ hs) zs c) (num (pos 1))))) → eval ρ a ≤ℤ eval ρ b
refute ρ hs zs c a b h z t =
    let facts = minus (minus a b) (num (pos 1)) ∷ hs in
    by_lt_z (eval ρ b) (eval ρ a)
    (λ less. absurd (never (eval ρ (meaning facts zs c)) (vanishes ρ (plus (meaning facts zs c) (num (pos 1))) t)
    (meaning-nonneg ρ facts zs (above_none (eval ρ a) (eval ρ b) less, h) z c)))
    (λ le. le)

-- ---- equations from equations
-- the sum of the equations, each times its factor
abbrev pub combined : List Expr → List Expr → Expr
combined [] ms = num (pos 0)
combined (z ∷ zs) [] = num (pos 0)
combined (z ∷ zs) (m ∷ ms) = plus (times m z) (combined zs ms)

sum_zero : (m z s : ℤ) → z ≡ pos 0 → s ≡ pos 0 → (m *ℤ z) +ℤ s ≡ pos 0
sum_zero m z s e f = ap (λ v. (m *ℤ v) +ℤ s) e ∙ ap (λ v. (m *ℤ pos 0) +ℤ v) f ∙ zero_sum m
  where
    zero_sum : (m : ℤ) → (m *ℤ pos 0) +ℤ pos 0 ≡ pos 0
    zero_sum m = omega (arith, ints)

combined-zero : (ρ : List ℤ) (zs ms : List Expr) → AllZero ρ zs → eval ρ (combined zs ms) ≡ pos 0
combined-zero ρ [] ms h = refl
combined-zero ρ (z ∷ zs) [] h = refl
combined-zero ρ (z ∷ zs) (m ∷ ms) h =
    sum_zero (eval ρ m) (eval ρ z) (eval ρ (combined zs ms)) h.0 (combined-zero ρ zs ms h.1)

same_from : (a b s : ℤ) → (a -ℤ b) -ℤ s ≡ pos 0 → s ≡ pos 0 → a ≡ b
same_from a b s e f = omega (arith, ints)

-- a ≡ b, where a - b is the sum of the equations, each times its factor: the last argument is `tt`
pub ring_from : (ρ : List ℤ) (zs ms : List Expr) (a b : Expr) → AllZero ρ zs
    → T (is_zero (norm (minus (minus a b) (combined zs ms)))) → eval ρ a ≡ eval ρ b
ring_from ρ zs ms a b h t =
    same_from (eval ρ a) (eval ρ b) (eval ρ (combined zs ms)) (vanishes ρ (minus (minus a b) (combined zs ms)) t)
    (combined-zero ρ zs ms h)

-- the sum of many certificates
abbrev pub all_of : List Cert → Cert
all_of [] = some 0
all_of (c ∷ cs) = both c (all_of cs)
