-- No entry so far moves the axis.
use Rattle.std.proofs.Common.{◌≡◌, ℕ, ◌<◌, None}
use Rattle.explain_assumptions.specs.Rows.{mover_at}
use Rattle.explain_assumptions.proofs.movers.first_mover.Given as goal

abbrev pub invariant-loop-place : goal.invariant-loop-place
invariant-loop-place l = (k : ℕ) → k < l.place → mover_at l.fn.axis l.run k ≡ None
