use Rattle.std.proofs.Common.{◌≡◌, length}
use Rattle.explain_meetings.proofs.SeenLaws.{IsSeen}
use Rattle.explain_meetings.specs.Groups.{capped}
use Rattle.order_clocks.specs.Tells.{is_before_in}
use Rattle.zone_stretches.specs.StretchPairs.{boxes_of_pair, pairs_with}
use Rattle.explain_meetings.proofs.counts.count_of_zones.Given as goal

abbrev pub invariant-loop-pair : goal.invariant-loop-pair
invariant-loop-pair l = IsSeen boxes_of_pair (λ pairs. l.count ≡ capped (length pairs)) l.pair-iterator (pairs_with (is_before_in l.clocks.rows) (l.fn.left, l.fn.right))
