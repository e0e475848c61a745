-- The headers of the lines so far are kept.
use Rattle.std.proofs.Common.{◌≡◌, ◌+◌, length}
use Rattle.explain_lines.specs.Headers.{AreHeaders}
use Rattle.explain_lines.specs.Origins.{header_of}
use Rattle.explain_lines.proofs.headers.headers_of.Given as goal

abbrev pub invariant-loop-line : goal.invariant-loop-line
invariant-loop-line l = record {
  kept : AreHeaders l.lines l.headers.items;
  long : length l.headers.items ≡ l.line + 1;
  last : l.header ≡ header_of l.lines l.line;
}
