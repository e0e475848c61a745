-- Of at most nine digits, fewer than nine are read when the next one comes.
use Rattle.std.proofs.Common.{ℕ, ◌<◌, ◌≤◌, ◌^◌, arith}
use Rattle.std.proofs.Math.Nat.{pow-le-pow_right}
use Rattle.job_lines.proofs.numbers.decimal.Goals as goal

below_power : (n i m : ℕ) → n < 10 ^ i → i ≤ m → n < 10 ^ m
below_power n i m below le =
    let more : 10 ^ i ≤ 10 ^ m = pow-le-pow_right {n = 10} (omega arith) le in
    omega arith

pub overflow_mul-number : goal.overflow_mul-number
overflow_mul-number c =
    let below : c.loop-digit.number < 100000000 = below_power c.loop-digit.number c.loop-digit.digit-index 8 c.loop-digit.invariant.below (omega arith) in
    omega arith

pub overflow_add-number : goal.overflow_add-number
overflow_add-number c =
    let below : c.loop-digit.number < 100000000 = below_power c.loop-digit.number c.loop-digit.digit-index 8 c.loop-digit.invariant.below (omega arith) in
    omega arith
