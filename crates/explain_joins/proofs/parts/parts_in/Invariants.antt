-- The parts so far are found.
use Rattle.std.proofs.Common.{◌≡◌, ◌+◌, ◌++◌, drop, map}
use Rattle.explain_joins.specs.Parts.{parts_from}
use Rattle.explain_joins.proofs.parts.parts_in.Given as goal

abbrev pub invariant-loop-line : goal.invariant-loop-line
invariant-loop-line l = record {
  counted : l.number ≡ l.line-index;
  parts : map (λ part. (part.header.now, part.line)) l.parts.items ++ parts_from (l.number + 1) (map (λ line. line.now) (drop l.line-index l.lines)) ≡ parts_from 1 (map (λ line. line.now) l.lines);
}
