use Rattle.std.proofs.Common.{◌≡◌, ◌+◌, ◌*◌, ◌≤◌, ◌++◌, length, take}
use Rattle.std.specs.List.{flat_map}
use Rattle.job_report.specs.Positions.{end_text}
use Rattle.job_report.specs.declared.positions.TheConstants.{END_ROOM}
use Rattle.job_report.proofs.motions.push_ends.Given as goal

abbrev pub invariant-loop-end : goal.invariant-loop-end
invariant-loop-end l = record {
  text : l.page ≡ l.initial.page ++ flat_map (end_text l.job) (take l.end-index l.ends.axes);
  room : length l.page ≤ length l.initial.page + l.end-index * END_ROOM;
}
