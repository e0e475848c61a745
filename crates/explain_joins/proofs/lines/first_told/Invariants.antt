-- The lines so far are silent.
use Rattle.std.proofs.Common.{◌≡◌, drop, map}
use Rattle.explain_joins.specs.Lines.{first_told}
use Rattle.explain_joins.proofs.lines.first_told.Given as goal

abbrev pub invariant-loop-line : goal.invariant-loop-line
invariant-loop-line l = first_told (map (λ line. line.now) (drop l.line-index l.lines)) ≡ first_told (map (λ line. line.now) l.lines)
