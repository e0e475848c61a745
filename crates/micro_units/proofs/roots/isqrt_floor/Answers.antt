use Rattle.micro_units.proofs.SquareRoots.{floor_root_is}
use Rattle.micro_units.proofs.roots.isqrt_floor.Goals as goal

pub returns-clause-value : goal.returns-clause-value
returns-clause-value c = floor_root_is c.isqrt.result c.args.value c.isqrt.ensures.square_le c.isqrt.ensures.next_square_gt
