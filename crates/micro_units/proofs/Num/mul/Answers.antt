use Rattle.std.proofs.Common.{arith, ◌≡◌, ◌<◌, ◌≤◌, ◌^◌, ℤ, pos, ◌*ℤ◌, ℕ, ◌*◌, FitsSigned, to_z, of_z}
use Rattle.std.proofs.lemmas.Int.{fits_signed_mul, ints}
use Rattle.std.specs.Int.RustNames.{unsigned_abs}
use mir.Syntax.{w128}
use Rattle.micro_units.proofs.Num.mul.Goals as goal

pub overflow_mul-from : goal.overflow_mul-from
overflow_mul-from c =
    fits_signed_mul w128 (to_z w128 (of_z w128 c.from.result)) (to_z w128 (of_z w128 c.from-2.result)) 9223372036854775808 9223372036854775808
    (omega (arith, ints)) (omega (arith, ints)) (omega arith)
