use Rattle.micro_units.proofs.SquareRoots.{ceil_root_exact, ceil_root_above}
use Rattle.arc_quadrants.proofs.bounds.root_up_short.Goals as goal

pub returns-then-root-value-clause-value : goal.returns-then-root-value-clause-value
returns-then-root-value-clause-value c = ceil_root_exact c.isqrt-root.result c.args.value c.isqrt-root.ensures.square_le c.isqrt-root.ensures.next_square_gt c.if-root-value.true

pub returns-else-root-value-clause-value : goal.returns-else-root-value-clause-value
returns-else-root-value-clause-value c = ceil_root_above c.isqrt-root.result c.args.value c.isqrt-root.ensures.square_le c.isqrt-root.ensures.next_square_gt c.if-root-value.false
