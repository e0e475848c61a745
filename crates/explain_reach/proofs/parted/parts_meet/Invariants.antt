-- No part so far meets one.
use Rattle.std.proofs.Common.{◌≡◌, false, take}
use Rattle.std.specs.List.{flat_map, list_any}
use Rattle.explain_reach.specs.Lots.{lots_meet}
use Rattle.explain_reach.specs.Parts.{boxes_in}
use Rattle.explain_reach.proofs.parted.parts_meet.Given as goal

abbrev pub invariant-loop-own : goal.invariant-loop-own
invariant-loop-own l = list_any (λ own. lots_meet (boxes_in own) (flat_map boxes_in l.others)) (take l.own-index l.owns) ≡ false
