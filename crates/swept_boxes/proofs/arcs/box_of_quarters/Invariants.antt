use Rattle.std.proofs.Common.{◌≡◌, fold, map, take}
use Rattle.swept_boxes.specs.Cover.{box_of_quarter}
use Rattle.swept_boxes.specs.PlaneBoxes.{smallest_box}
use Rattle.swept_boxes.proofs.arcs.box_of_quarters.Given as goal

abbrev pub invariant-loop-quarter : goal.invariant-loop-quarter
invariant-loop-quarter l = l.area ≡ fold smallest_box l.initial.area (map (box_of_quarter l.arc) (take l.quarter-index l.rest))
