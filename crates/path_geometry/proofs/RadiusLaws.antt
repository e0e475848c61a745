-- The size of the radii of arcs.
use Rattle.std.proofs.Common.{ℕ, ◌+◌, ◌-◌, ◌*◌, ◌<◌, ◌≤◌, ◌==◌, inl, inr, arith, eqb-true}
use Rattle.std.proofs.Math.Nat.{mul-le-mul}
use Rattle.std.proofs.lemmas.Bool.{cond_both}
use Rattle.micro_units.specs.Root.{floor_root, ceil_root}
use Rattle.micro_units.proofs.SquareRoots.{floor_root-square, floor_root-greatest}
use Rattle.number_laws.proofs.Naturals.{le_or_lt}

-- the root of a square, rounded up
pub ceil_root_bound : (root n : ℕ) → ((k : ℕ) → k < root → k * k < n) → n ≤ 800000000000000 → root ≤ 28284272
ceil_root_bound root n least small = elim (le_or_lt root 28284272) [
  | inl within ↦ within
  | inr above ↦ absurd (omega (arith, least 28284272 above))
]

pub floor_root-small : (n : ℕ) → n ≤ 800000000000000 → floor_root n ≤ 28284271
floor_root-small n small = elim (le_or_lt (floor_root n) 28284271) [
  | inl within ↦ within
  | inr above ↦ absurd (let e = floor_root-square n in let f = mul-le-mul above above in omega arith)
]

floor_root-next : (n : ℕ) → n < (floor_root n + 1) * (floor_root n + 1)
floor_root-next n = elim (le_or_lt ((floor_root n + 1) * (floor_root n + 1)) n) [
  | inl within ↦ absurd (let e = floor_root-greatest n (floor_root n + 1) within in omega arith)
  | inr above ↦ above
]

pub ceil_root-square : (n : ℕ) → n ≤ ceil_root n * ceil_root n
unfolding ceil_root
ceil_root-square n = cond_both (floor_root n * floor_root n == n) (floor_root n) (floor_root n + 1) (λ r. n ≤ r * r)
    (λ exact. let e = eqb-true (floor_root n * floor_root n) n exact in omega arith)
    (λ no. let e = floor_root-next n in omega arith)

pub ceil_root-small : (n : ℕ) → n ≤ 800000000000000 → ceil_root n ≤ 28284272
unfolding ceil_root
ceil_root-small n small = cond_both (floor_root n * floor_root n == n) (floor_root n) (floor_root n + 1) (λ r. r ≤ 28284272)
    (λ exact. let e = floor_root-small n small in omega arith)
    (λ no. let e = floor_root-small n small in omega arith)

-- a number between two roots, the one less a little and the other more a little
pub root-below : (n room : ℕ) → (floor_root n - room) * (floor_root n - room) ≤ n
root-below n room = let e = floor_root-square n in let h : floor_root n - room ≤ floor_root n = omega arith in let f = mul-le-mul h h in omega arith

pub root-above : (n room : ℕ) → n ≤ (ceil_root n + room) * (ceil_root n + room)
root-above n room = let e = ceil_root-square n in let h : ceil_root n ≤ ceil_root n + room = omega arith in let f = mul-le-mul h h in omega arith
