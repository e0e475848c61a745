use Rattle.std.proofs.Common.{◌≡◌}
use Rattle.explain_lines.specs.Origins.{header_of}
use Rattle.explain_lines.proofs.origins.searched_header.Given as goal

abbrev pub invariant-loop-header : goal.invariant-loop-header
invariant-loop-header l = header_of l.lines l.header ≡ header_of l.lines l.line

abbrev pub decreases-loop-header : goal.decreases-loop-header
decreases-loop-header l = l.header
