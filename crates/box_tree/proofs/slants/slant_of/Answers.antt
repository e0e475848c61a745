use Rattle.std.proofs.Common.{arith}
use Rattle.std.proofs.lemmas.Int.{ints}
use Rattle.box_tree.proofs.slants.slant_of.Goals as goal

pub returns : goal.returns
returns c =
    let low = c.bound_at-low.ensures.value in
    let high = c.bound_at-high.ensures.value in
    let other_low = c.bound_at-other_low.ensures.value in
    let other_high = c.bound_at-other_high.ensures.value in
    record { sum_low = omega (arith, ints); sum_high = omega (arith, ints); low = omega (arith, ints); high = omega (arith, ints) }
