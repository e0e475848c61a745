use Rattle.std.proofs.Common.{◌≡◌, take, map}
use Rattle.explain_refused.specs.Rows.{refused_line}
use Rattle.explain_refused.proofs.rows.refused_lines.Given as goal

abbrev pub invariant-loop-refusal : goal.invariant-loop-refusal
invariant-loop-refusal l = l.rows.items ≡ map (refused_line l.lines) (take l.refusal-index l.refusals)
