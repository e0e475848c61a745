use Rattle.std.proofs.Common.{◌≡◌, ◌+◌, drop}
use Rattle.std.specs.List.{count_by}
use Rattle.explain_meetings.specs.Groups.{capped}
use Rattle.zone_stretches.specs.Overlaps.{share_place}
use Rattle.explain_meetings.proofs.counts.count_near.Given as goal

abbrev pub invariant-loop-later : goal.invariant-loop-later
invariant-loop-later l = capped (l.count + count_by (share_place l.own) (drop l.later-index l.laters)) ≡ capped (count_by (share_place l.own) l.laters)
