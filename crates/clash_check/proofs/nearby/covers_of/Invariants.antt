use Rattle.std.proofs.Common.{◌≡◌, map, take}
use Rattle.zone_stretches.specs.declared.stretches.ZoneBox.{ZoneBox}
use Rattle.clash_check.proofs.nearby.covers_of.Given as goal

abbrev pub invariant-loop-own : goal.invariant-loop-own
invariant-loop-own l = l.covers.items ≡ map (λ (own : ZoneBox). own.cover) (take l.own-index l.boxes)
