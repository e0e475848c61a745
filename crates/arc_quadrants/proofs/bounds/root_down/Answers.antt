-- The root of the number at its 64 bits.
use Rattle.std.proofs.Common.{◌≡◌, ℕ, subst, rules}
use Rattle.micro_units.proofs.SquareRoots.{floor_root_is}
use Rattle.micro_units.specs.Root.{floor_root}
use Rattle.arc_quadrants.proofs.bounds.root_down.Goals as goal

pub returns-in-Ok-clause-value : goal.returns-in-Ok-clause-value
returns-in-Ok-clause-value c =
    let same : c.in-Ok.short ≡ c.args.value = search rules in
    subst (λ (n : ℕ). c.isqrt.result ≡ floor_root n) same (floor_root_is c.isqrt.result c.in-Ok.short c.isqrt.ensures.square_le c.isqrt.ensures.next_square_gt)
