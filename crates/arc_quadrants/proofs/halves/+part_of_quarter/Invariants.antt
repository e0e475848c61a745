use Rattle.arc_quadrants.proofs.halves.+part_of_quarter.Given as goal

abbrev pub decreases-part_of_quarter : goal.decreases-part_of_quarter
decreases-part_of_quarter l = l.depth
