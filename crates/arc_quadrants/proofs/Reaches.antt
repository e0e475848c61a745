-- How far a ring reaches along an axis between two directions of quadrant 0: it stays within the rounded reaches, and the
-- reaches of a part lie within those of the whole. All numbers are naturals.
use Rattle.std.proofs.Common.{◌+◌, ◌*◌, ◌<◌, ◌≤◌, ◌⊎◌, ℕ, [], ◌∷◌, inl, inr, arith}
use Rattle.std.proofs.Math.Nat.{mul-le-mul, mul-le-mul_left, mul-le-mul_right, mul-lt-mul_of_pos_right}
use Rattle.std.proofs.lemmas.Int.{ints}
use Rattle.std.specs.Prelude.{pos, ◌-ℤ◌, ◌+ℤ◌, ◌*ℤ◌, ◌≤ℤ◌}
use Rattle.number_laws.proofs.Integers.{nonneg-pos, le-pos}
use Rattle.number_laws.proofs.Naturals.{le_or_lt}
use Rattle.number_laws.proofs.Ring.{num, var, plus, minus, times}
use Rattle.number_laws.proofs.Orders.{some, given, by, both, all_of, refute}
use Rattle.arc_quadrants.specs.Bounds.{IsReachDown, IsReachUp}

-- p = (x, y) over n is ahead of the direction (au, av) and not beyond the outer radius: not beyond hi
pub upper : (au av x y outer hi n : ℕ) → av * x ≤ au * y → x * x + y * y ≤ (outer * outer) * (n * n)
    → (outer * outer) * (au * au) ≤ (hi * hi) * (au * au + av * av) → 0 < au * au + av * av → x ≤ hi * n
upper au av x y outer hi n ahead within reach above =
    let f1 : pos 0 ≤ℤ ((pos au *ℤ pos y) -ℤ (pos av *ℤ pos x)) = omega (arith, ints) in
    let f2 : pos 0 ≤ℤ (((pos outer *ℤ pos outer) *ℤ (pos n *ℤ pos n)) -ℤ ((pos x *ℤ pos x) +ℤ (pos y *ℤ pos y))) = omega (arith, ints) in
    let f3 : pos 0 ≤ℤ (((pos hi *ℤ pos hi) *ℤ ((pos au *ℤ pos au) +ℤ (pos av *ℤ pos av))) -ℤ ((pos outer *ℤ pos outer) *ℤ (pos au *ℤ pos au))) = omega (arith, ints) in
    let f4 : pos 0 ≤ℤ (((pos au *ℤ pos au) +ℤ (pos av *ℤ pos av)) -ℤ pos 1) = omega (arith, ints) in
    let a = var 0 in
    let b = var 1 in
    let vx = var 2 in
    let vy = var 3 in
    let o = var 4 in
    let h = var 5 in
    let vn = var 6 in
    let size = plus (times a a) (times b b) in
    let sized = both (given 4) (some 1) in
    let le : pos x ≤ℤ (pos hi *ℤ pos n) = refute (pos au ∷ pos av ∷ pos x ∷ pos y ∷ pos outer ∷ pos hi ∷ pos n ∷ [])
    (minus (times a vy) (times b vx) ∷ minus (times (times o o) (times vn vn)) (plus (times vx vx) (times vy vy))
    ∷ minus (times (times h h) size) (times (times o o) (times a a)) ∷ minus size (num (pos 1))
    ∷ a ∷ b ∷ vx ∷ vy ∷ h ∷ vn ∷ []) []
    (all_of (by (given 1) (both (by (given 5) (given 8)) (by (given 6) (given 7))) ∷ by (by (given 5) (given 5)) (given 2)
    ∷ by (by (given 10) (given 10)) (given 3) ∷ by (by sized (given 0)) (both (given 7) (by (given 9) (given 10)))
    ∷ by sized (given 0) ∷ by (some 2) (by sized (by (given 9) (given 10))) ∷ given 4 ∷ []))
    vx (times h vn)
    (f1, (f2, (f3, (f4, (nonneg-pos au, (nonneg-pos av, (nonneg-pos x, (nonneg-pos y, (nonneg-pos hi, (nonneg-pos n, tt)))))))))) tt tt in
    le-pos le

-- p is after the direction (bu, bv) and not within the inner radius: not before lo
pub lower : (bu bv x y inner lo n : ℕ) → y * bu ≤ x * bv → (inner * inner) * (n * n) ≤ x * x + y * y
    → (lo * lo) * (bu * bu + bv * bv) ≤ (inner * inner) * (bu * bu) → 0 < bu * bu + bv * bv → lo * n ≤ x
lower bu bv x y inner lo n following beyond reach above =
    let f1 : pos 0 ≤ℤ ((pos x *ℤ pos bv) -ℤ (pos y *ℤ pos bu)) = omega (arith, ints) in
    let f2 : pos 0 ≤ℤ (((pos x *ℤ pos x) +ℤ (pos y *ℤ pos y)) -ℤ ((pos inner *ℤ pos inner) *ℤ (pos n *ℤ pos n))) = omega (arith, ints) in
    let f3 : pos 0 ≤ℤ (((pos inner *ℤ pos inner) *ℤ (pos bu *ℤ pos bu)) -ℤ ((pos lo *ℤ pos lo) *ℤ ((pos bu *ℤ pos bu) +ℤ (pos bv *ℤ pos bv)))) = omega (arith, ints) in
    let f4 : pos 0 ≤ℤ (((pos bu *ℤ pos bu) +ℤ (pos bv *ℤ pos bv)) -ℤ pos 1) = omega (arith, ints) in
    let a = var 0 in
    let b = var 1 in
    let vx = var 2 in
    let vy = var 3 in
    let i = var 4 in
    let l = var 5 in
    let vn = var 6 in
    let size = plus (times a a) (times b b) in
    let sized = both (given 4) (some 1) in
    let le : (pos lo *ℤ pos n) ≤ℤ pos x = refute (pos bu ∷ pos bv ∷ pos x ∷ pos y ∷ pos inner ∷ pos lo ∷ pos n ∷ [])
    (minus (times vx b) (times vy a) ∷ minus (plus (times vx vx) (times vy vy)) (times (times i i) (times vn vn))
    ∷ minus (times (times i i) (times a a)) (times (times l l) size) ∷ minus size (num (pos 1))
    ∷ a ∷ b ∷ vx ∷ vy ∷ l ∷ vn ∷ []) []
    (all_of (by (given 1) (both (by (given 7) (given 6)) (by (given 8) (given 5))) ∷ by (by (given 5) (given 5)) (given 2)
    ∷ by (by (given 10) (given 10)) (given 3) ∷ by (by sized (given 0)) (both (given 7) (by (given 9) (given 10)))
    ∷ by sized (given 0) ∷ by (some 2) (by sized (given 7)) ∷ given 4 ∷ []))
    (times l vn) vx
    (f1, (f2, (f3, (f4, (nonneg-pos bu, (nonneg-pos bv, (nonneg-pos x, (nonneg-pos y, (nonneg-pos lo, (nonneg-pos n, tt)))))))))) tt tt in
    le-pos le

-- ---- the reaches of a part within those of the whole: X and Y are the squares of the two lengths
-- the part c of one direction against a of another, where c is the farther turned
pub slope : (au av cu cv : ℕ) → av * cu ≤ au * cv → (cu * cu) * (au * au + av * av) ≤ (au * au) * (cu * cu + cv * cv)
slope au av cu cv h = omega (arith, mul-le-mul h h)

pub up_mono : (h m i a c X Y : ℕ) → 0 < X → (c * c) * X ≤ (a * a) * Y → IsReachUp h i a X → IsReachUp m i c Y → m ≤ h
up_mono h m i a c X Y some_X flat r t = at_order (le_or_lt m h)
  where
    at_order : (m ≤ h) ⊎ (h < m) → m ≤ h
    at_order (inl le) = le
    at_order (inr less) =
        absurd (omega (arith, mul-lt-mul_of_pos_right (t.least h less) some_X, mul-le-mul_right Y r.at_least, mul-le-mul_left (i * i) flat))

pub down_mono : (m h i a c X Y : ℕ) → 0 < X → 0 < Y → (a * a) * Y ≤ (c * c) * X → IsReachDown m i a X → IsReachDown h i c Y → m ≤ h
down_mono m h i a c X Y some_X some_Y steep r t = at_order (le_or_lt m h)
  where
    at_order : (m ≤ h) ⊎ (h < m) → m ≤ h
    at_order (inl le) = le
    at_order (inr less) =
        let next : h + 1 ≤ m = omega arith in
        absurd (omega (
          arith,
          mul-lt-mul_of_pos_right t.next some_X,
          mul-le-mul_right (X * Y) (mul-le-mul next next),
          mul-le-mul_right Y r.at_most,
          mul-le-mul_left (i * i) steep,
        ))
