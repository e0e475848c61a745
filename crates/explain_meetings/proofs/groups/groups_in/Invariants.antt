use Rattle.std.proofs.Common.{◌≡◌, map, take}
use Rattle.explain_meetings.proofs.groups.groups_in.Given as goal

abbrev pub invariant-loop-row : goal.invariant-loop-row
invariant-loop-row l = l.groups.items ≡ map (λ row. row.group) (take l.row-index l.rows)
