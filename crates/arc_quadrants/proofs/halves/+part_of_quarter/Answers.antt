-- What is short enough for a depth stays so for the next one, cut or not.
use Rattle.std.proofs.Common.{arith, rules}
use Rattle.arc_quadrants.proofs.HalfLaws.{short_from, short_middle, second_half}
use Rattle.arc_quadrants.proofs.halves.+part_of_quarter.Goals as goal

pub part_of_quarter-requires : goal.part_of_quarter-requires
part_of_quarter-requires t c =
    (search rules, (omega arith, (omega arith, (search (rules, short_from, short_middle), search (rules, short_from, short_middle)))))

pub part_of_quarter-requires-else-place-half : goal.part_of_quarter-requires-else-place-half
part_of_quarter-requires-else-place-half t c =
    (search rules, (omega arith, (search (rules, second_half), (search (rules, short_from, short_middle), search (rules, short_from, short_middle)))))
