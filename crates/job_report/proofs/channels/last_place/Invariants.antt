use Rattle.std.proofs.Common.{◌≡◌, take, None}
use Rattle.std.specs.List.{enumerate_from, filter_map, last_or}
use Rattle.job_report.specs.Channels.{own_place}
use Rattle.job_report.proofs.channels.last_place.Given as goal

abbrev pub invariant-loop-place : goal.invariant-loop-place
invariant-loop-place l = l.last ≡ last_or None (filter_map (own_place l.channel) (take l.place (enumerate_from 0 l.entries)))
