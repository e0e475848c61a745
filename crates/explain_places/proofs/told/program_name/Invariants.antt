-- The last name among the programs so far.
use Rattle.std.proofs.Common.{◌≡◌, take, [], None, unwrap_or}
use Rattle.std.specs.List.{filter_map, last_or}
use Rattle.explain_places.specs.Lines.{name_before}
use Rattle.explain_places.proofs.told.program_name.Given as goal

abbrev pub invariant-loop-place : goal.invariant-loop-place
invariant-loop-place l = l.name ≡ unwrap_or (last_or None (filter_map (name_before l.line) (take l.place l.job.programs))) []
