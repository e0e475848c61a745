-- A solver of equations in whole numbers: both sides are written as syntax, and are equal where their difference has the normal form 0.
use Rattle.std.proofs.Common.{◌≡◌, ◌∙◌, ℕ, zero, suc, Bool, true, false, List, [], ◌∷◌, cond, refl, sym, ap, arith}
use Rattle.std.proofs.Math.Dec.{T}
use Rattle.std.proofs.Math.IntN.{+ℤ_comm, +ℤ_assoc, +ℤ_idl, *ℤ_comm}
use Rattle.std.proofs.lemmas.Int.{ints}
use Rattle.std.specs.Prelude.{ℤ, pos, negsuc, neg_ℤ, ◌+ℤ◌, ◌-ℤ◌, ◌*ℤ◌}
use Rattle.number_laws.proofs.Integers.{+ℤ-*ℤ, *ℤ-+ℤ, *ℤ_assoc, minus_one}

-- a polynomial: `more p q` is p + x * q, where x is the first variable and p speaks of the later ones alone
pub data Pol : Type 0 where
  con : ℤ → Pol
  more : Pol → Pol → Pol

-- its value, where a missing variable is 0
abbrev pub value : List ℤ → Pol → ℤ
value ρ (con c) = c
value [] (more p q) = value [] p
value (x ∷ ρ) (more p q) = value ρ p +ℤ (x *ℤ value (x ∷ ρ) q)

abbrev pub add_con : ℤ → Pol → Pol
add_con c (con d) = con (c +ℤ d)
add_con c (more p q) = more (add_con c p) q

abbrev pub add : Pol → Pol → Pol
add (con c) t = add_con c t
add (more p q) (con d) = more (add_con d p) q
add (more p q) (more r s) = more (add p r) (add q s)

abbrev pub scale : ℤ → Pol → Pol
scale c (con d) = con (c *ℤ d)
scale c (more p q) = more (scale c p) (scale c q)

-- f multiplies by a factor that lacks the first variable
abbrev pub low : (Pol → Pol) → Pol → Pol
low f (con c) = more (f (con c)) (con (pos 0))
low f (more r s) = more (f r) (low f s)

abbrev pub mul : Pol → Pol → Pol
mul (con c) t = scale c t
mul (more p q) t = add (low (mul p) t) (more (con (pos 0)) (mul q t))

abbrev pub is_nil : ℤ → Bool
is_nil (pos zero) = true
is_nil (pos (suc n)) = false
is_nil (negsuc n) = false

abbrev pub is_zero : Pol → Bool
is_zero (con c) = is_nil c
is_zero (more p q) = cond (is_zero p) (is_zero q) false

-- ---- what the operations do to the value
add_con-value : (ρ : List ℤ) (c : ℤ) (t : Pol) → value ρ (add_con c t) ≡ c +ℤ value ρ t
add_con-value ρ c (con d) = refl
add_con-value [] c (more p q) = add_con-value [] c p
add_con-value (x ∷ ρ) c (more p q) =
    ap (λ v. v +ℤ (x *ℤ value (x ∷ ρ) q)) (add_con-value ρ c p) ∙ +ℤ_assoc c (value ρ p) (x *ℤ value (x ∷ ρ) q)

shuffle : (a b c d : ℤ) → (a +ℤ b) +ℤ (c +ℤ d) ≡ (a +ℤ c) +ℤ (b +ℤ d)
shuffle a b c d = omega (arith, ints)

last_first : (a b c : ℤ) → (a +ℤ b) +ℤ c ≡ (b +ℤ c) +ℤ a
last_first a b c = omega (arith, ints)

add-value : (ρ : List ℤ) (s t : Pol) → value ρ (add s t) ≡ value ρ s +ℤ value ρ t
add-value ρ (con c) t = add_con-value ρ c t
add-value [] (more p q) (con d) = add_con-value [] d p ∙ +ℤ_comm d (value [] p)
add-value (x ∷ ρ) (more p q) (con d) =
    ap (λ v. v +ℤ (x *ℤ value (x ∷ ρ) q)) (add_con-value ρ d p) ∙ last_first d (value ρ p) (x *ℤ value (x ∷ ρ) q)
add-value [] (more p q) (more r s) = add-value [] p r
add-value (x ∷ ρ) (more p q) (more r s) =
    ap (λ v. v +ℤ (x *ℤ value (x ∷ ρ) (add q s))) (add-value ρ p r)
    ∙ ap (λ v. (value ρ p +ℤ value ρ r) +ℤ (x *ℤ v)) (add-value (x ∷ ρ) q s)
    ∙ ap (λ v. (value ρ p +ℤ value ρ r) +ℤ v) (*ℤ-+ℤ x (value (x ∷ ρ) q) (value (x ∷ ρ) s))
    ∙ shuffle (value ρ p) (value ρ r) (x *ℤ value (x ∷ ρ) q) (x *ℤ value (x ∷ ρ) s)

scale_step : (c p x q : ℤ) → (c *ℤ p) +ℤ (x *ℤ (c *ℤ q)) ≡ c *ℤ (p +ℤ (x *ℤ q))
scale_step c p x q =
    ap (λ v. (c *ℤ p) +ℤ v) (sym (*ℤ_assoc x c q) ∙ ap (λ v. v *ℤ q) (*ℤ_comm x c) ∙ *ℤ_assoc c x q)
    ∙ sym (*ℤ-+ℤ c p (x *ℤ q))

scale-value : (ρ : List ℤ) (c : ℤ) (t : Pol) → value ρ (scale c t) ≡ c *ℤ value ρ t
scale-value ρ c (con d) = refl
scale-value [] c (more p q) = scale-value [] c p
scale-value (x ∷ ρ) c (more p q) =
    ap (λ v. v +ℤ (x *ℤ value (x ∷ ρ) (scale c q))) (scale-value ρ c p)
    ∙ ap (λ v. (c *ℤ value ρ p) +ℤ (x *ℤ v)) (scale-value (x ∷ ρ) c q)
    ∙ scale_step c (value ρ p) x (value (x ∷ ρ) q)

nothing_more : (a x : ℤ) → a +ℤ (x *ℤ pos 0) ≡ a
nothing_more a x = omega (arith, ints)

low-value_none : (k : ℤ) (f : Pol → Pol) → ((t : Pol) → value [] (f t) ≡ k *ℤ value [] t)
    → (t : Pol) → value [] (low f t) ≡ k *ℤ value [] t
low-value_none k f h (con c) = h (con c)
low-value_none k f h (more r s) = h r

low-value : (x : ℤ) (ρ : List ℤ) (k : ℤ) (f : Pol → Pol) → ((t : Pol) → value ρ (f t) ≡ k *ℤ value ρ t)
    → (t : Pol) → value (x ∷ ρ) (low f t) ≡ k *ℤ value (x ∷ ρ) t
low-value x ρ k f h (con c) = nothing_more (value ρ (f (con c))) x ∙ h (con c)
low-value x ρ k f h (more r s) =
    ap (λ v. v +ℤ (x *ℤ value (x ∷ ρ) (low f s))) (h r)
    ∙ ap (λ v. (k *ℤ value ρ r) +ℤ (x *ℤ v)) (low-value x ρ k f h s)
    ∙ scale_step k (value ρ r) x (value (x ∷ ρ) s)

mul_step : (p x q t : ℤ) → (p *ℤ t) +ℤ (pos 0 +ℤ (x *ℤ (q *ℤ t))) ≡ (p +ℤ (x *ℤ q)) *ℤ t
mul_step p x q t =
    ap (λ v. (p *ℤ t) +ℤ v) (+ℤ_idl (x *ℤ (q *ℤ t)) ∙ sym (*ℤ_assoc x q t)) ∙ sym (+ℤ-*ℤ p (x *ℤ q) t)

no_more : (a : ℤ) → a +ℤ pos 0 ≡ a
no_more a = omega (arith, ints)

mul-value : (ρ : List ℤ) (s t : Pol) → value ρ (mul s t) ≡ value ρ s *ℤ value ρ t
mul-value ρ (con c) t = scale-value ρ c t
mul-value [] (more p q) t =
    add-value [] (low (mul p) t) (more (con (pos 0)) (mul q t)) ∙ no_more (value [] (low (mul p) t))
    ∙ low-value_none (value [] p) (mul p) (mul-value [] p) t
mul-value (x ∷ ρ) (more p q) t =
    add-value (x ∷ ρ) (low (mul p) t) (more (con (pos 0)) (mul q t))
    ∙ ap (λ v. v +ℤ (pos 0 +ℤ (x *ℤ value (x ∷ ρ) (mul q t)))) (low-value x ρ (value ρ p) (mul p) (mul-value ρ p) t)
    ∙ ap (λ v. (value ρ p *ℤ value (x ∷ ρ) t) +ℤ (pos 0 +ℤ (x *ℤ v))) (mul-value (x ∷ ρ) q t)
    ∙ mul_step (value ρ p) x (value (x ∷ ρ) q) (value (x ∷ ρ) t)

is_nil-value : (c : ℤ) → T (is_nil c) → c ≡ pos 0
is_nil-value (pos zero) h = refl
is_nil-value (pos (suc n)) h = absurd h
is_nil-value (negsuc n) h = absurd h

both_true : (a b : Bool) → T (cond a b false) → T a × T b
both_true true b h = (tt, h)
both_true false b h = absurd h

is_zero-value : (ρ : List ℤ) (p : Pol) → T (is_zero p) → value ρ p ≡ pos 0
is_zero-value ρ (con c) h = is_nil-value c h
is_zero-value [] (more p q) h = is_zero-value [] p (both_true (is_zero p) (is_zero q) h).0
is_zero-value (x ∷ ρ) (more p q) h =
    ap (λ v. v +ℤ (x *ℤ value (x ∷ ρ) q)) (is_zero-value ρ p (both_true (is_zero p) (is_zero q) h).0)
    ∙ ap (λ v. pos 0 +ℤ (x *ℤ v)) (is_zero-value (x ∷ ρ) q (both_true (is_zero p) (is_zero q) h).1)
    ∙ nothing_more (pos 0) x

-- ---- the syntax
pub data Expr : Type 0 where
  num : ℤ → Expr
  var : ℕ → Expr
  plus : Expr → Expr → Expr
  minus : Expr → Expr → Expr
  times : Expr → Expr → Expr
  negate : Expr → Expr

abbrev pub look : List ℤ → ℕ → ℤ
look [] n = pos 0
look (x ∷ ρ) zero = x
look (x ∷ ρ) (suc n) = look ρ n

-- what an expression says; it computes to the term that it stands for
abbrev pub eval : List ℤ → Expr → ℤ
eval ρ (num c) = c
eval ρ (var n) = look ρ n
eval ρ (plus a b) = eval ρ a +ℤ eval ρ b
eval ρ (minus a b) = eval ρ a -ℤ eval ρ b
eval ρ (times a b) = eval ρ a *ℤ eval ρ b
eval ρ (negate a) = neg_ℤ (eval ρ a)

abbrev pub variable : ℕ → Pol
variable zero = more (con (pos 0)) (con (pos 1))
variable (suc n) = more (variable n) (con (pos 0))

abbrev pub norm : Expr → Pol
norm (num c) = con c
norm (var n) = variable n
norm (plus a b) = add (norm a) (norm b)
norm (minus a b) = add (norm a) (scale (negsuc 0) (norm b))
norm (times a b) = mul (norm a) (norm b)
norm (negate a) = scale (negsuc 0) (norm a)

first_is : (x : ℤ) → pos 0 +ℤ (x *ℤ pos 1) ≡ x
first_is x = omega (arith, ints)

variable-value : (ρ : List ℤ) (n : ℕ) → value ρ (variable n) ≡ look ρ n
variable-value [] zero = refl
variable-value [] (suc n) = variable-value [] n
variable-value (x ∷ ρ) zero = first_is x
variable-value (x ∷ ρ) (suc n) = nothing_more (value ρ (variable n)) x ∙ variable-value ρ n

negated : (ρ : List ℤ) (p : Pol) → value ρ (scale (negsuc 0) p) ≡ neg_ℤ (value ρ p)
negated ρ p = scale-value ρ (negsuc 0) p ∙ minus_one (value ρ p)

pub norm-value : (ρ : List ℤ) (a : Expr) → value ρ (norm a) ≡ eval ρ a
norm-value ρ (num c) = refl
norm-value ρ (var n) = variable-value ρ n
norm-value ρ (plus a b) =
    add-value ρ (norm a) (norm b) ∙ ap (λ v. v +ℤ value ρ (norm b)) (norm-value ρ a)
    ∙ ap (λ v. eval ρ a +ℤ v) (norm-value ρ b)
norm-value ρ (minus a b) =
    add-value ρ (norm a) (scale (negsuc 0) (norm b))
    ∙ ap (λ v. v +ℤ value ρ (scale (negsuc 0) (norm b))) (norm-value ρ a)
    ∙ ap (λ v. eval ρ a +ℤ v) (negated ρ (norm b) ∙ ap neg_ℤ (norm-value ρ b))
norm-value ρ (times a b) =
    mul-value ρ (norm a) (norm b) ∙ ap (λ v. v *ℤ value ρ (norm b)) (norm-value ρ a)
    ∙ ap (λ v. eval ρ a *ℤ v) (norm-value ρ b)
norm-value ρ (negate a) = negated ρ (norm a) ∙ ap neg_ℤ (norm-value ρ a)

-- an expression whose normal form is 0 is 0
pub vanishes : (ρ : List ℤ) (a : Expr) → T (is_zero (norm a)) → eval ρ a ≡ pos 0
vanishes ρ a h = sym (norm-value ρ a) ∙ is_zero-value ρ (norm a) h

same_from_difference : (a b : ℤ) → a -ℤ b ≡ pos 0 → a ≡ b
same_from_difference a b e = omega (arith, ints)

-- two expressions are equal where the normal form of their difference is 0: the last argument is `tt`
pub ring : (ρ : List ℤ) (a b : Expr) → T (is_zero (norm (minus a b))) → eval ρ a ≡ eval ρ b
ring ρ a b h = same_from_difference (eval ρ a) (eval ρ b) (vanishes ρ (minus a b) h)
