-- The reaches by roots are the greatest and the least number that their squares allow, and none is beyond the radius.
use Rattle.std.proofs.Common.{◌≡◌, ◌+◌, ◌-◌, ◌*◌, ◌/◌, ◌<◌, ◌≤◌, ◌==◌, ◌⊎◌, ℕ, false, inl, inr, subst, sym, arith}
use Rattle.std.proofs.Math.Nat.{mul-le-mul, mul-le-mul_left, mul-le-mul_right}
use Rattle.std.proofs.lemmas.Bool.{cond_both, eqb-true}
use Rattle.std.proofs.lemmas.Bool.Decides.{nat_tests}
use Rattle.micro_units.specs.Root.{floor_root, ceil_root}
use Rattle.micro_units.proofs.SquareRoots.{floor_root-square, floor_root-greatest}
use Rattle.number_laws.proofs.Naturals.{le_or_lt}
use Rattle.arc_quadrants.specs.Bounds.{reach_down, reach_up, IsReachDown, IsReachUp}

-- ---- roots
floor_root-next : (n : ℕ) → n < (floor_root n + 1) * (floor_root n + 1)
floor_root-next n = at_order (le_or_lt ((floor_root n + 1) * (floor_root n + 1)) n)
  where
    at_order : ((floor_root n + 1) * (floor_root n + 1) ≤ n) ⊎ (n < (floor_root n + 1) * (floor_root n + 1)) → n < (floor_root n + 1) * (floor_root n + 1)
    at_order (inl le) = let more : floor_root n + 1 ≤ floor_root n = floor_root-greatest n (floor_root n + 1) le in absurd (omega arith)
    at_order (inr less) = less

pub ceil_root-enough : (n : ℕ) → n ≤ ceil_root n * ceil_root n
unfolding ceil_root
ceil_root-enough n =
    cond_both (floor_root n * floor_root n == n) (floor_root n) (floor_root n + 1) (λ r. n ≤ r * r)
    (λ exact. let e : floor_root n * floor_root n ≡ n = eqb-true (floor_root n * floor_root n) n exact in omega arith)
    (λ other. omega (arith, floor_root-next n))

below_square : (k r n : ℕ) → k < r → r * r ≤ n → k * k < n
below_square k r n less low = let next : k + 1 ≤ r = omega arith in omega (arith, mul-le-mul next next)

pub ceil_root-least : (n k : ℕ) → k < ceil_root n → k * k < n
unfolding ceil_root
ceil_root-least n =
    cond_both (floor_root n * floor_root n == n) (floor_root n) (floor_root n + 1) (λ r. (k : ℕ) → k < r → k * k < n)
    (λ exact k less. below_square k (floor_root n) n less (floor_root-square n))
    (λ other k less. strictly k other (le_or_lt (floor_root n) k) less)
  where
    strictly : (k : ℕ) → (floor_root n * floor_root n == n) ≡ false → (floor_root n ≤ k) ⊎ (k < floor_root n) → k < floor_root n + 1 → k * k < n
    strictly k other (inr less) h = below_square k (floor_root n) n less (floor_root-square n)
    strictly k other (inl le) h =
        let same : k ≡ floor_root n = omega arith in
        let low : floor_root n * floor_root n ≤ n = floor_root-square n in
        subst (λ (r : ℕ). r * r < n) (sym same) (grind (arith, nat_tests))

-- ---- quotients
down_at_most : (whole square r : ℕ) → 0 < square → r * r ≤ whole / square → (r * r) * square ≤ whole
down_at_most whole square r some h = omega (arith, mul-le-mul_right square h)

down_next : (whole square r : ℕ) → 0 < square → whole / square < r * r → whole < (r * r) * square
down_next whole square r some h =
    let more : whole / square + 1 ≤ r * r = omega arith in omega (arith, mul-le-mul_right square more)

up_at_least : (whole square r : ℕ) → 0 < square → (whole + (square - 1)) / square ≤ r * r → whole ≤ (r * r) * square
up_at_least whole square r some h = omega (arith, mul-le-mul_right square h)

up_least : (whole square r : ℕ) → 0 < square → r * r < (whole + (square - 1)) / square → (r * r) * square < whole
up_least whole square r some h =
    let more : r * r + 1 ≤ (whole + (square - 1)) / square = omega arith in omega (arith, mul-le-mul_right square more)

pub reach_down_is : (radius part square : ℕ) → 0 < square → IsReachDown (reach_down radius part square) radius part square
unfolding reach_down
reach_down_is radius part square some =
    let whole = (radius * radius) * (part * part) in
    let r = floor_root (whole / square) in
    record {
      at_most = down_at_most whole square r some (floor_root-square (whole / square));
      next = down_next whole square (r + 1) some (floor_root-next (whole / square));
    }

pub reach_up_is : (radius part square : ℕ) → 0 < square → IsReachUp (reach_up radius part square) radius part square
unfolding reach_up
reach_up_is radius part square some =
    let whole = (radius * radius) * (part * part) in
    let quotient = (whole + (square - 1)) / square in
    record {
      at_least = up_at_least whole square (ceil_root quotient) some (ceil_root-enough quotient);
      least = λ k less. up_least whole square k some (ceil_root-least quotient k less);
    }

-- ---- no reach is beyond the radius
pub down_within : (n radius part square : ℕ) → 0 < square → part * part ≤ square → IsReachDown n radius part square → n ≤ radius
down_within n radius part square some short is = at_order (le_or_lt n radius)
  where
    at_order : (n ≤ radius) ⊎ (radius < n) → n ≤ radius
    at_order (inl le) = le
    at_order (inr less) =
        let more : radius + 1 ≤ n = omega arith in
        absurd (omega (arith, mul-le-mul_right square (mul-le-mul more more), mul-le-mul_left (radius * radius) short, is.at_most))

pub up_within : (n radius part square : ℕ) → part * part ≤ square → IsReachUp n radius part square → n ≤ radius
up_within n radius part square short is = at_order (le_or_lt n radius)
  where
    at_order : (n ≤ radius) ⊎ (radius < n) → n ≤ radius
    at_order (inl le) = le
    at_order (inr less) = absurd (omega (arith, is.least radius less, mul-le-mul_left (radius * radius) short))

-- the same as the code meets them
pub root_within : (r radius part square : ℕ) → r * r ≤ ((radius * radius) * (part * part)) / square → 0 < square → part * part ≤ square → r ≤ radius
root_within r radius part square low some short = at_order (le_or_lt r radius)
  where
    at_order : (r ≤ radius) ⊎ (radius < r) → r ≤ radius
    at_order (inl le) = le
    at_order (inr less) =
        let more : radius + 1 ≤ r = omega arith in
        absurd (omega (
          arith,
          down_at_most ((radius * radius) * (part * part)) square r some low,
          mul-le-mul_right square (mul-le-mul more more),
          mul-le-mul_left (radius * radius) short,
        ))

pub root_up_within : (r radius part square whole quotient : ℕ) → ((k : ℕ) → k < r → k * k < quotient) → quotient ≡ (whole + (square - 1)) / square
    → whole ≡ (radius * radius) * (part * part) → 0 < square → part * part ≤ square → r ≤ radius
root_up_within r radius part square whole quotient least divided is some short = at_order (le_or_lt r radius)
  where
    at_order : (r ≤ radius) ⊎ (radius < r) → r ≤ radius
    at_order (inl le) = le
    at_order (inr less) =
        let below : radius * radius < (whole + (square - 1)) / square = subst (λ (q : ℕ). radius * radius < q) divided (least radius less) in
        absurd (omega (arith, up_least whole square radius some below, mul-le-mul_left (radius * radius) short))

pub small_squares : (radius part : ℕ) → radius < 33554432 → part < 536870912 → (radius * radius) * (part * part) < 324518553658426726783156020576256
small_squares radius part h k =
    let r : radius ≤ 33554431 = omega arith in
    let p : part ≤ 536870911 = omega arith in
    omega (arith, mul-le-mul (mul-le-mul r r) (mul-le-mul p p))

pub down_from_value : (n radius part square other : ℕ) → n ≡ reach_down radius part other → other ≡ square → 0 < other → IsReachDown n radius part square
down_from_value n radius part square other e f some =
    subst (λ (m : ℕ). IsReachDown m radius part square) (sym e)
    (subst (λ (m : ℕ). IsReachDown (reach_down radius part other) radius part m) f (reach_down_is radius part other some))

pub up_from_value : (n radius part square other : ℕ) → n ≡ reach_up radius part other → other ≡ square → 0 < other → IsReachUp n radius part square
up_from_value n radius part square other e f some =
    subst (λ (m : ℕ). IsReachUp m radius part square) (sym e)
    (subst (λ (m : ℕ). IsReachUp (reach_up radius part other) radius part m) f (reach_up_is radius part other some))
