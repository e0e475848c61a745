-- The code's greater and lesser bound are those of the definition.
use Rattle.std.proofs.Common.{arith}
use Rattle.std.proofs.lemmas.Int.{to_z-of_z}
use Rattle.std.specs.Int.{int_max, int_min}
use Rattle.swept_boxes.specs.Boxes.{low_of, high_of}
use Rattle.swept_boxes.proofs.Meeting.{test_is}
use Rattle.swept_boxes.proofs.Box3.touches.Goals as goal

pub returns : goal.returns
returns c =
    test_is c.max-low.result c.min-high.result
    (int_max (low_of c.args.self.now c.args.direction) (low_of c.args.other.now c.args.direction))
    (int_min (high_of c.args.self.now c.args.direction) (high_of c.args.other.now c.args.direction))
    (grind (arith, to_z-of_z)) (grind (arith, to_z-of_z))
    (record { sfits = c.max-low.type_inv }) (record { sfits = c.min-high.type_inv })
