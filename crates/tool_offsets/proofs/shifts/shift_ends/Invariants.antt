use Rattle.axis_sets.specs.declared.limits.TheConstants.{AXIS_LIMIT}
use Rattle.std.proofs.Common.{◌≡◌, ◌≤◌, length, map, take, true}
use Rattle.std.specs.List.{list_all}
use Rattle.tool_offsets.specs.Shifts as model
use Rattle.tool_offsets.proofs.shifts.shift_ends.Given as goal

abbrev pub invariant-loop-end : goal.invariant-loop-end
invariant-loop-end l = record {
  shifted : l.axes.items ≡ map (model.shifted_entry l.by) (take l.end-index l.ends.axes);
  near : list_all model.is_entry_in_range (map (model.shifted_entry l.by) (take l.end-index l.ends.axes)) ≡ true;
  same : l.end-items ≡ l.ends.axes;
  few : length l.end-items ≤ AXIS_LIMIT;
}
