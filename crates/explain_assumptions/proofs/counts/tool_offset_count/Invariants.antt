use Rattle.std.proofs.Common.{◌≡◌, ◌≤◌, take}
use Rattle.std.specs.List.{count_by}
use Rattle.explain_assumptions.specs.Firsts.{is_of_tool_offset}
use Rattle.explain_assumptions.proofs.counts.tool_offset_count.Given as goal

abbrev pub invariant-loop-remark : goal.invariant-loop-remark
invariant-loop-remark l = record { value : l.count ≡ count_by is_of_tool_offset (take l.remark-index l.remarks); few : l.count ≤ l.remark-index }
