use Rattle.std.proofs.Common.{◌++◌, List, map, take}
use Rattle.job_types.specs.Job.{JobView}
use Rattle.protection_zones.specs.Logs.{IsLog}
use Rattle.protection_zones.specs.Notes.{read_going}
use Rattle.zone_stretches.specs.Occurrences.{OccurrenceView}
use Rattle.protection_zones.proofs.logs.add_goings.Given as goal

abbrev pub invariant-loop-go : goal.invariant-loop-go
invariant-loop-go l = (job : JobView) (os : List OccurrenceView) → IsLog job os l.initial.log → IsLog job (os ++ map (read_going l.place l.deed) (take l.go-index l.goes)) l.log
