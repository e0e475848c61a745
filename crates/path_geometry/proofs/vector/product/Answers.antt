use Rattle.std.proofs.Common.{arith, ◌≡◌, ◌<◌, ◌≤◌, ◌^◌, ℤ, pos, ◌*ℤ◌, ℕ, ◌*◌, FitsSigned, to_z, of_z}
use Rattle.std.proofs.lemmas.Int.{fits_signed_mul, ints}
use Rattle.std.specs.Int.RustNames.{unsigned_abs}
use mir.Syntax.{w64}
use Rattle.micro_units.specs.declared.limits.TheConstants.{CHANGE_LIMIT}
use Rattle.path_geometry.proofs.vector.product.Goals as goal

pub overflow_mul-result : goal.overflow_mul-result
overflow_mul-result c =
    fits_signed_mul w64 (to_z w64 (of_z w64 c.from.result)) (to_z w64 (of_z w64 c.from-2.result)) 20000000 20000000
    (omega (arith, ints)) (omega (arith, ints)) (omega arith)
