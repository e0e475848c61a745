use Rattle.std.proofs.Common.{◌≡◌, drop}
use Rattle.std.specs.List.{list_all}
use Rattle.sync_types.specs.BoardAlarms.{is_whole}
use Rattle.coord_core.proofs.alarms.are_whole.Given as goal

abbrev pub invariant-loop-zone : goal.invariant-loop-zone
invariant-loop-zone l = list_all (λ line. is_whole l.axes line.1) l.lines ≡ list_all (λ line. is_whole l.axes line.1) (drop l.zone-index l.lines)
