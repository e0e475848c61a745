-- Square roots by their squares.
use Rattle.std.proofs.Common.{◌≡◌, ℕ, zero, suc, ◌+◌, ◌*◌, ◌<◌, ◌≤◌, ◌⊎◌, inl, inr, ap, sym, subst, ◌∙◌, arith, eq-eqb}
use Rattle.std.specs.Prelude.{ℤ, pos, negsuc, ◌*ℤ◌, ◌≤ℤ◌, nat_le, ◌==◌, cond}
use Rattle.std.specs.Int.RustNames.{unsigned_abs}
use Rattle.std.proofs.Math.Nat.{mul-le-mul}
use Rattle.std.proofs.lemmas.Bool.{cond_both, cond-true, cond-false, leb-true, leb-false, ne_eqb, cases_lt}
use Rattle.std.proofs.lemmas.Int.{ints}
use Rattle.micro_units.specs.Root.{root_up_to, floor_root, ceil_root}
use Rattle.micro_units.specs.Arithmetic.{square_root, IsGreatestRoot}

-- the search finds a number whose square is not above n, and the greatest of these
up_to-square : (k n : ℕ) → root_up_to k n * root_up_to k n ≤ n
up_to-square zero n = omega arith
up_to-square (suc k) n =
    cond_both (nat_le (suc k * suc k) n) (suc k) (root_up_to k n) (λ r. r * r ≤ n)
    (leb-true (suc k * suc k) n) (λ _. up_to-square k n)

last_or_below : (m k : ℕ) → m ≤ suc k → (m ≡ suc k) ⊎ (m ≤ k)
last_or_below m k h = grind arith

up_to-greatest : (k n m : ℕ) → m ≤ k → m * m ≤ n → m ≤ root_up_to k n
up_to-greatest zero n m h s = h
up_to-greatest (suc k) n m h s =
    cond_both (nat_le (suc k * suc k) n) (suc k) (root_up_to k n) (λ r. m ≤ r)
    (λ _. h)
    (λ no. elim (last_or_below m k h) [
      | inl last ↦ absurd (let above = leb-false (suc k * suc k) n no in let square = ap (λ (x : ℕ). x * x) last in omega arith)
      | inr below ↦ up_to-greatest k n m below s
    ])

self_le_square : (m : ℕ) → m ≤ m * m
self_le_square zero = omega arith
self_le_square (suc m) = omega arith

from_squares : (a b : ℕ) → a * a < b * b → a < b
from_squares a b h = elim (cases_lt a b) [ inl below ↦ below | inr above ↦ absurd (let e = mul-le-mul above above in omega arith) ]

pub floor_root-square : (n : ℕ) → floor_root n * floor_root n ≤ n
unfolding floor_root
floor_root-square n = up_to-square n n

pub floor_root-greatest : (n m : ℕ) → m * m ≤ n → m ≤ floor_root n
unfolding floor_root
floor_root-greatest n m h = up_to-greatest n n m (let e = self_le_square m in omega arith) h

-- a number between whose square and the next one n lies
pub floor_root_is : (r n : ℕ) → r * r ≤ n → n < (r + 1) * (r + 1) → r ≡ floor_root n
floor_root_is r n low high =
    let below = from_squares (floor_root n) (r + 1) (let e = floor_root-square n in omega arith) in
    let above = floor_root-greatest n r low in
    omega arith

pub ceil_root_exact : (r n : ℕ) → r * r ≤ n → n < (r + 1) * (r + 1) → r * r ≡ n → r ≡ ceil_root n
unfolding ceil_root
ceil_root_exact r n low high exact =
    let e = floor_root_is r n low high in
    subst (λ (f : ℕ). r ≡ cond (f * f == n) f (f + 1)) e (sym (cond-true (r * r == n) r (r + 1) (eq-eqb (r * r) n exact)))

pub ceil_root_above : (r n : ℕ) → r * r ≤ n → n < (r + 1) * (r + 1) → (r * r ≡ n → ⊥) → r + 1 ≡ ceil_root n
unfolding ceil_root
ceil_root_above r n low high other =
    let e = floor_root_is r n low high in
    subst (λ (f : ℕ). r + 1 ≡ cond (f * f == n) f (f + 1)) e (sym (cond-false (r * r == n) r (r + 1) (ne_eqb (r * r) n other)))

-- the root of a number in range is far below the range
pub root_below : (r n : ℕ) → r * r ≤ n * 1000000 → n < 100000000000000 → r < 10000000000
root_below r n low small = from_squares r 10000000000 (omega arith)

-- the root in millionths, and that none is greater
pub square_root_is : (a : ℤ) (n r : ℕ) → n ≡ unsigned_abs a → r ≡ floor_root (n * 1000000) → pos r ≡ square_root a
unfolding square_root
square_root_is a n r e f = ap pos (f ∙ ap (λ (m : ℕ). floor_root (m * 1000000)) e)

below_root : (n : ℕ) (s : ℤ) → (s *ℤ s) ≤ℤ (pos n *ℤ pos 1000000) → s ≤ℤ pos (floor_root (n * 1000000))
below_root n (pos m) h = let e = floor_root-greatest (n * 1000000) m (omega (arith, ints)) in omega (arith, ints)
below_root n (negsuc m) h = omega (arith, ints)

pub square_root-greatest : (a : ℤ) → pos 0 ≤ℤ a → IsGreatestRoot a (square_root a)
unfolding square_root
square_root-greatest (pos n) h = record {
  at_most = let e = floor_root-square (n * 1000000) in omega (arith, ints);
  greatest = below_root n;
}
square_root-greatest (negsuc n) h = absurd (omega (arith, ints))
