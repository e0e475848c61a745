-- No part so far is met.
use Rattle.std.proofs.Common.{◌≡◌, false, take}
use Rattle.std.specs.List.{list_any}
use Rattle.explain_reach.specs.Lots.{lots_meet}
use Rattle.explain_reach.specs.Parts.{boxes_in}
use Rattle.explain_reach.proofs.parted.meets_parts.Given as goal

abbrev pub invariant-loop-place : goal.invariant-loop-place
invariant-loop-place l = list_any (λ other. lots_meet (boxes_in l.own) (boxes_in other)) (take l.place l.others) ≡ false
