-- The lines so far are written.
use Rattle.std.proofs.Common.{◌≡◌, ◌+◌, ◌++◌, true, drop, map}
use Rattle.explain_joins.specs.Joined.{lines_text}
use Rattle.explain_joins.proofs.joining.put_lines.Given as goal

abbrev pub invariant-loop-line : goal.invariant-loop-line
invariant-loop-line l = record {
  counted : l.number ≡ l.line-index;
  text : l.text ++ lines_text l.name (l.number + 1) l.is_taken (map (λ line. line.now) (drop l.line-index l.lines)) ≡ l.initial.text ++ lines_text l.name 1 true (map (λ line. line.now) l.lines);
}
