use Rattle.std.proofs.Common.{◌≡◌, ◌≤◌, take}
use Rattle.std.specs.List.{count_by}
use Rattle.explain_assumptions.specs.Firsts.{is_of_tool}
use Rattle.explain_assumptions.proofs.counts.tool_count.Given as goal

abbrev pub invariant-loop-remark : goal.invariant-loop-remark
invariant-loop-remark l = record { value : l.count ≡ count_by is_of_tool (take l.remark-index l.remarks); few : l.count ≤ l.remark-index }
