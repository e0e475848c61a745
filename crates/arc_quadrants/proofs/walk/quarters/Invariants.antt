use Rattle.std.proofs.Common.{◌≡◌, length, map}
use Rattle.std.specs.List.{range_with_len}
use Rattle.arc_quadrants.specs.Quarters.{quarter_at}
use Rattle.arc_quadrants.proofs.walk.quarters.Given as goal

abbrev pub invariant-loop-place : goal.invariant-loop-place
invariant-loop-place l =
    (l.quarters.items ≡ map (quarter_at l.arc.outer l.start l.end) (range_with_len 0 l.place)) × (length l.quarters.items ≡ l.place)
