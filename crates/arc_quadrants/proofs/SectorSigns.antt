-- Signs in a sector: s = (a, b) begins it in quadrant 0, e = (c, d) ends it, and p = (x, y) is a point; all numbers are whole.
use Rattle.std.proofs.Common.{[], ◌∷◌, arith}
use Rattle.std.proofs.lemmas.Int.{ints}
use Rattle.std.specs.Prelude.{ℤ, pos, neg_ℤ, ◌-ℤ◌, ◌*ℤ◌, ◌≤ℤ◌}
use Rattle.number_laws.proofs.Ring.{num, var, minus, times, negate}
use Rattle.number_laws.proofs.Orders.{some, given, by, both, all_of, refute}

-- ahead of s and to the right: not below
pub not_below : (a b x y : ℤ) → pos 1 ≤ℤ a → pos 0 ≤ℤ b → pos 0 ≤ℤ x → pos 0 ≤ℤ ((a *ℤ y) -ℤ (b *ℤ x)) → pos 0 ≤ℤ y
not_below a b x y ha hb hx ahead =
    let fa : pos 0 ≤ℤ (a -ℤ pos 1) = omega (arith, ints) in
    refute (a ∷ b ∷ x ∷ y ∷ [])
    (minus (var 0) (num (pos 1)) ∷ var 1 ∷ var 2 ∷ minus (times (var 0) (var 3)) (times (var 1) (var 2)) ∷ []) []
    (all_of (given 4 ∷ by (given 2) (given 3) ∷ by (both (given 1) (some 1)) (given 0) ∷ given 1 ∷ []))
    (num (pos 0)) (var 3) (fa, (hb, (hx, (ahead, tt)))) tt tt

-- after an end to the left and not below, and to the left: not below
pub not_below_left : (c d x y : ℤ) → pos 1 ≤ℤ neg_ℤ c → pos 0 ≤ℤ d → pos 0 ≤ℤ neg_ℤ x → pos 0 ≤ℤ ((x *ℤ d) -ℤ (y *ℤ c)) → pos 0 ≤ℤ y
not_below_left c d x y hc hd hx following =
    let fc : pos 0 ≤ℤ (neg_ℤ c -ℤ pos 1) = omega (arith, ints) in
    refute (c ∷ d ∷ x ∷ y ∷ [])
    (minus (negate (var 0)) (num (pos 1)) ∷ var 1 ∷ negate (var 2) ∷ minus (times (var 2) (var 1)) (times (var 3) (var 0)) ∷ []) []
    (all_of (given 4 ∷ by (given 3) (given 2) ∷ by (both (given 1) (some 1)) (given 0) ∷ given 1 ∷ []))
    (num (pos 0)) (var 3) (fc, (hd, (hx, (following, tt)))) tt tt

-- an end in quadrant 2, a turn of more than a half, after the end, and in quadrant 0: ahead of s
pub ahead_above : (a b c d x y : ℤ) → pos 0 ≤ℤ b → pos 1 ≤ℤ neg_ℤ d → pos 0 ≤ℤ y
    → pos 0 ≤ℤ neg_ℤ ((a *ℤ d) -ℤ (b *ℤ c)) → pos 0 ≤ℤ ((x *ℤ d) -ℤ (y *ℤ c)) → pos 0 ≤ℤ ((a *ℤ y) -ℤ (b *ℤ x))
ahead_above a b c d x y hb hd hy turn following =
    let fd : pos 0 ≤ℤ (neg_ℤ d -ℤ pos 1) = omega (arith, ints) in
    refute (a ∷ b ∷ c ∷ d ∷ x ∷ y ∷ [])
    (var 1 ∷ minus (negate (var 3)) (num (pos 1)) ∷ var 5 ∷ negate (minus (times (var 0) (var 3)) (times (var 1) (var 2)))
    ∷ minus (times (var 4) (var 3)) (times (var 5) (var 2)) ∷ []) []
    (all_of (by (given 3) (given 4) ∷ by (given 1) (given 5) ∷ by (both (given 2) (some 1)) (given 0) ∷ given 2 ∷ []))
    (num (pos 0)) (minus (times (var 0) (var 5)) (times (var 1) (var 4))) (hb, (fd, (hy, (turn, (following, tt))))) tt tt

-- an end in quadrant 2, a turn of more than a half, ahead of s, and in quadrant 2: after the end
pub after_below : (a b c d x y : ℤ) → pos 1 ≤ℤ a → pos 0 ≤ℤ neg_ℤ c → pos 0 ≤ℤ neg_ℤ x
    → pos 0 ≤ℤ neg_ℤ ((a *ℤ d) -ℤ (b *ℤ c)) → pos 0 ≤ℤ ((a *ℤ y) -ℤ (b *ℤ x)) → pos 0 ≤ℤ ((x *ℤ d) -ℤ (y *ℤ c))
after_below a b c d x y ha hc hx turn ahead =
    let fa : pos 0 ≤ℤ (a -ℤ pos 1) = omega (arith, ints) in
    refute (a ∷ b ∷ c ∷ d ∷ x ∷ y ∷ [])
    (minus (var 0) (num (pos 1)) ∷ negate (var 2) ∷ negate (var 4) ∷ negate (minus (times (var 0) (var 3)) (times (var 1) (var 2)))
    ∷ minus (times (var 0) (var 5)) (times (var 1) (var 4)) ∷ []) []
    (all_of (by (given 3) (given 4) ∷ by (given 2) (given 5) ∷ by (both (given 1) (some 1)) (given 0) ∷ given 1 ∷ []))
    (num (pos 0)) (minus (times (var 4) (var 3)) (times (var 5) (var 2))) (fa, (hc, (hx, (turn, (ahead, tt))))) tt tt

-- an end in quadrant 2, after it, and not above: not to the right
pub not_right : (c d x y : ℤ) → pos 0 ≤ℤ neg_ℤ c → pos 1 ≤ℤ neg_ℤ d → pos 0 ≤ℤ neg_ℤ y → pos 0 ≤ℤ ((x *ℤ d) -ℤ (y *ℤ c)) → x ≤ℤ pos 0
not_right c d x y hc hd hy following =
    let fd : pos 0 ≤ℤ (neg_ℤ d -ℤ pos 1) = omega (arith, ints) in
    refute (c ∷ d ∷ x ∷ y ∷ [])
    (negate (var 0) ∷ minus (negate (var 1)) (num (pos 1)) ∷ negate (var 3) ∷ minus (times (var 2) (var 1)) (times (var 3) (var 0)) ∷ []) []
    (all_of (given 4 ∷ by (given 3) (given 1) ∷ by (both (given 2) (some 1)) (given 0) ∷ given 2 ∷ []))
    (var 2) (num (pos 0)) (hc, (fd, (hy, (following, tt)))) tt tt

-- an end in quadrant 3, after it, and to the right: not above
pub not_above : (c d x y : ℤ) → pos 1 ≤ℤ c → pos 0 ≤ℤ neg_ℤ d → pos 0 ≤ℤ x → pos 0 ≤ℤ ((x *ℤ d) -ℤ (y *ℤ c)) → y ≤ℤ pos 0
not_above c d x y hc hd hx following =
    let fc : pos 0 ≤ℤ (c -ℤ pos 1) = omega (arith, ints) in
    refute (c ∷ d ∷ x ∷ y ∷ [])
    (minus (var 0) (num (pos 1)) ∷ negate (var 1) ∷ var 2 ∷ minus (times (var 2) (var 1)) (times (var 3) (var 0)) ∷ []) []
    (all_of (given 4 ∷ by (given 3) (given 2) ∷ by (both (given 1) (some 1)) (given 0) ∷ given 1 ∷ []))
    (var 3) (num (pos 0)) (fc, (hd, (hx, (following, tt)))) tt tt

-- an end in quadrant 0 ahead of s: what is ahead of s and after the end is to the right and above
pub right_within : (a b c d x y : ℤ) → pos 0 ≤ℤ a → pos 0 ≤ℤ c → pos 1 ≤ℤ ((a *ℤ d) -ℤ (b *ℤ c))
    → pos 0 ≤ℤ ((a *ℤ y) -ℤ (b *ℤ x)) → pos 0 ≤ℤ ((x *ℤ d) -ℤ (y *ℤ c)) → pos 0 ≤ℤ x
right_within a b c d x y ha hc turn ahead following =
    let ft : pos 0 ≤ℤ (((a *ℤ d) -ℤ (b *ℤ c)) -ℤ pos 1) = omega (arith, ints) in
    refute (a ∷ b ∷ c ∷ d ∷ x ∷ y ∷ [])
    (var 0 ∷ var 2 ∷ minus (minus (times (var 0) (var 3)) (times (var 1) (var 2))) (num (pos 1))
    ∷ minus (times (var 0) (var 5)) (times (var 1) (var 4)) ∷ minus (times (var 4) (var 3)) (times (var 5) (var 2)) ∷ []) []
    (all_of (by (given 1) (given 5) ∷ by (given 2) (given 4) ∷ by (both (given 3) (some 1)) (given 0) ∷ given 3 ∷ []))
    (num (pos 0)) (var 4) (ha, (hc, (ft, (ahead, (following, tt))))) tt tt

pub above_within : (a b c d x y : ℤ) → pos 0 ≤ℤ b → pos 0 ≤ℤ d → pos 1 ≤ℤ ((a *ℤ d) -ℤ (b *ℤ c))
    → pos 0 ≤ℤ ((a *ℤ y) -ℤ (b *ℤ x)) → pos 0 ≤ℤ ((x *ℤ d) -ℤ (y *ℤ c)) → pos 0 ≤ℤ y
above_within a b c d x y hb hd turn ahead following =
    let ft : pos 0 ≤ℤ (((a *ℤ d) -ℤ (b *ℤ c)) -ℤ pos 1) = omega (arith, ints) in
    refute (a ∷ b ∷ c ∷ d ∷ x ∷ y ∷ [])
    (var 1 ∷ var 3 ∷ minus (minus (times (var 0) (var 3)) (times (var 1) (var 2))) (num (pos 1))
    ∷ minus (times (var 0) (var 5)) (times (var 1) (var 4)) ∷ minus (times (var 4) (var 3)) (times (var 5) (var 2)) ∷ []) []
    (all_of (by (given 1) (given 5) ∷ by (given 2) (given 4) ∷ by (both (given 3) (some 1)) (given 0) ∷ given 3 ∷ []))
    (num (pos 0)) (var 5) (hb, (hd, (ft, (ahead, (following, tt))))) tt tt
