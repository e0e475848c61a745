-- Positions along a line lie between its ends, and so do their floors and ceilings.
use Rattle.std.proofs.Common.{◌<◌, ◌≤◌, ℕ, [], ◌∷◌, arith}
use Rattle.std.proofs.lemmas.Int.{ints}
use Rattle.std.specs.Int.RustNames.{unsigned_abs}
use Rattle.std.specs.Prelude.{ℤ, pos, neg_ℤ, ◌-ℤ◌, ◌*ℤ◌, ◌≤ℤ◌}
use Rattle.number_laws.proofs.Integers.{≤ℤ_trans, nonneg-pos, times_cancel}
use Rattle.number_laws.proofs.FloorLaws.{floor_div-le, floor_greatest, ceil_div-ge, ceil_least}
use Rattle.number_laws.proofs.Ring.{var, plus, minus, times}
use Rattle.number_laws.proofs.Orders.{given, by, both, certify}
use Rattle.number_laws.specs.Floors.{floor_div, ceil_div}
use Rattle.path_geometry.specs.Path.{way_divided}

-- m ≥ start and m ≥ end: m * whole - along = (m - start) * (whole - part) + (m - end) * part
pub along-le : (start end m : ℤ) (whole part : ℕ) → part ≤ whole → start ≤ℤ m → end ≤ℤ m → way_divided start end whole part ≤ℤ (m *ℤ pos whole)
along-le start end m whole part h p q =
    let s = var 0 in
    let e = var 1 in
    let b = var 2 in
    let n = var 3 in
    let j = var 4 in
    let start_below : pos 0 ≤ℤ (m -ℤ start) = omega (arith, ints) in
    let end_below : pos 0 ≤ℤ (m -ℤ end) = omega (arith, ints) in
    let rest : pos 0 ≤ℤ (pos whole -ℤ pos part) = omega (arith, ints) in
    certify (start ∷ end ∷ m ∷ pos whole ∷ pos part ∷ []) (minus b s ∷ minus b e ∷ minus n j ∷ j ∷ []) []
    (both (by (given 0) (given 2)) (by (given 1) (given 3))) (plus (times s (minus n j)) (times e j)) (times b n)
    (start_below, (end_below, (rest, (nonneg-pos part, tt)))) tt tt

pub along-ge : (start end m : ℤ) (whole part : ℕ) → part ≤ whole → m ≤ℤ start → m ≤ℤ end → (m *ℤ pos whole) ≤ℤ way_divided start end whole part
along-ge start end m whole part h p q =
    let s = var 0 in
    let e = var 1 in
    let b = var 2 in
    let n = var 3 in
    let j = var 4 in
    let start_above : pos 0 ≤ℤ (start -ℤ m) = omega (arith, ints) in
    let end_above : pos 0 ≤ℤ (end -ℤ m) = omega (arith, ints) in
    let rest : pos 0 ≤ℤ (pos whole -ℤ pos part) = omega (arith, ints) in
    certify (start ∷ end ∷ m ∷ pos whole ∷ pos part ∷ []) (minus s b ∷ minus e b ∷ minus n j ∷ j ∷ []) []
    (both (by (given 0) (given 2)) (by (given 1) (given 3))) (times b n) (plus (times s (minus n j)) (times e j))
    (start_above, (end_above, (rest, (nonneg-pos part, tt)))) tt tt

-- a floor or a ceiling of a position along a line is between whole numbers that its ends are between
pub floor-ge : (start end m : ℤ) (whole part : ℕ) → 0 < whole → part ≤ whole → m ≤ℤ start → m ≤ℤ end
    → m ≤ℤ floor_div (way_divided start end whole part) whole
floor-ge start end m whole part some h p q =
    floor_greatest m (way_divided start end whole part) whole some (along-ge start end m whole part h p q)

pub floor-le : (start end m : ℤ) (whole part : ℕ) → 0 < whole → part ≤ whole → start ≤ℤ m → end ≤ℤ m
    → floor_div (way_divided start end whole part) whole ≤ℤ m
floor-le start end m whole part some h p q =
    times_cancel whole (floor_div (way_divided start end whole part) whole) m some
    (≤ℤ_trans (floor_div-le (way_divided start end whole part) whole some) (along-le start end m whole part h p q))

pub ceil-le : (start end m : ℤ) (whole part : ℕ) → 0 < whole → part ≤ whole → start ≤ℤ m → end ≤ℤ m
    → ceil_div (way_divided start end whole part) whole ≤ℤ m
ceil-le start end m whole part some h p q =
    ceil_least m (way_divided start end whole part) whole some (along-le start end m whole part h p q)

pub ceil-ge : (start end m : ℤ) (whole part : ℕ) → 0 < whole → part ≤ whole → m ≤ℤ start → m ≤ℤ end
    → m ≤ℤ ceil_div (way_divided start end whole part) whole
ceil-ge start end m whole part some h p q =
    times_cancel whole m (ceil_div (way_divided start end whole part) whole) some
    (≤ℤ_trans (along-ge start end m whole part h p q) (ceil_div-ge (way_divided start end whole part) whole some))

near : (z : ℤ) (size : ℕ) → neg_ℤ (pos size) ≤ℤ z → z ≤ℤ pos size → unsigned_abs z ≤ size
near z size p q = omega (arith, ints)

not_below : (z : ℤ) (size : ℕ) → unsigned_abs z ≤ size → neg_ℤ (pos size) ≤ℤ z
not_below z size h = omega (arith, ints)

not_above : (z : ℤ) (size : ℕ) → unsigned_abs z ≤ size → z ≤ℤ pos size
not_above z size h = omega (arith, ints)

pub floor_near : (start end : ℤ) (whole part size : ℕ) → 0 < whole → part ≤ whole → unsigned_abs start ≤ size → unsigned_abs end ≤ size
    → unsigned_abs (floor_div (way_divided start end whole part) whole) ≤ size
floor_near start end whole part size some h p q =
    near (floor_div (way_divided start end whole part) whole) size
    (floor-ge start end (neg_ℤ (pos size)) whole part some h (not_below start size p) (not_below end size q))
    (floor-le start end (pos size) whole part some h (not_above start size p) (not_above end size q))

pub ceil_near : (start end : ℤ) (whole part size : ℕ) → 0 < whole → part ≤ whole → unsigned_abs start ≤ size → unsigned_abs end ≤ size
    → unsigned_abs (ceil_div (way_divided start end whole part) whole) ≤ size
ceil_near start end whole part size some h p q =
    near (ceil_div (way_divided start end whole part) whole) size
    (ceil-ge start end (neg_ℤ (pos size)) whole part some h (not_below start size p) (not_below end size q))
    (ceil-le start end (pos size) whole part some h (not_above start size p) (not_above end size q))
