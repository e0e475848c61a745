use Rattle.std.proofs.Common.{◌≡◌, ◌+◌, drop}
use Rattle.clash_check.specs.PlaceRanges.{passes_place}
use Rattle.zone_stretches.specs.Ascents.{leading}
use Rattle.clash_check.proofs.place_ranges.count_passing.Given as goal

abbrev pub invariant-loop-place : goal.invariant-loop-place
invariant-loop-place l = l.place + leading (passes_place l.ended l.own) (drop l.place l.others) ≡ leading (passes_place l.ended l.own) l.others
