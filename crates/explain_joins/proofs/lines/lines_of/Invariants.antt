-- The lines so far, and those of the rest.
use Rattle.std.proofs.Common.{◌≡◌, ◌++◌, length, map}
use Rattle.explain_joins.specs.Lines as model
use Rattle.explain_joins.proofs.lines.lines_of.Given as goal

abbrev pub invariant-loop-rest : goal.invariant-loop-rest
invariant-loop-rest l = map (λ line. line.now) l.lines.items ++ model.lines_of l.rest ≡ model.lines_of l.text

abbrev pub decreases-loop-rest : goal.decreases-loop-rest
decreases-loop-rest l = length l.rest
