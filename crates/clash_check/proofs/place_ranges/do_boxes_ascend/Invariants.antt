use Rattle.std.proofs.Common.{◌≡◌, drop}
use Rattle.clash_check.specs.PlaceRanges as model
use Rattle.clash_check.proofs.place_ranges.do_boxes_ascend.Given as goal

abbrev pub invariant-loop-place : goal.invariant-loop-place
invariant-loop-place l = model.do_boxes_ascend (drop l.place l.boxes) ≡ model.do_boxes_ascend l.boxes
