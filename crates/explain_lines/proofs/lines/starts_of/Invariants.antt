use Rattle.std.proofs.Common.{◌≡◌, ◌++◌, drop}
use Rattle.explain_lines.specs.Lines.{line_starts, starts_from}
use Rattle.explain_lines.proofs.lines.starts_of.Given as goal

abbrev pub invariant-loop-place : goal.invariant-loop-place
invariant-loop-place l = l.starts.items ++ starts_from l.place (drop l.place l.input) ≡ line_starts l.input
