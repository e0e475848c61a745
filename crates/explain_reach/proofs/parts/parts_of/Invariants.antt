-- The parts so far have the boxes before the rest.
use Rattle.std.proofs.Common.{◌≡◌, ◌++◌, All, length}
use Rattle.std.specs.List.{flat_map}
use Rattle.explain_reach.specs.Parts.{IsCovered, boxes_in}
use Rattle.explain_reach.proofs.parts.parts_of.Given as goal

abbrev pub invariant-loop-rest : goal.invariant-loop-rest
invariant-loop-rest l = (flat_map boxes_in l.parts.items ++ l.rest ≡ l.boxes) × All IsCovered l.parts.items

abbrev pub decreases-loop-rest : goal.decreases-loop-rest
decreases-loop-rest l = length l.rest
