use Rattle.std.proofs.Common.{◌≡◌, take}
use Rattle.std.specs.List.{count_by, sum_by}
use Rattle.explain_meetings.specs.Groups.{capped}
use Rattle.zone_stretches.specs.Overlaps.{share_place}
use Rattle.explain_meetings.proofs.counts.count_sharing.Given as goal

abbrev pub invariant-loop-own : goal.invariant-loop-own
invariant-loop-own l = l.count ≡ capped (sum_by (λ own. count_by (share_place own) l.laters) (take l.own-index l.owns))
