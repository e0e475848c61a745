use Rattle.std.proofs.Common.{◌≡◌, drop, find}
use Rattle.explain_assumptions.specs.Rows.{moves_axis}
use Rattle.explain_assumptions.proofs.movers.line_moving.Given as goal

abbrev pub invariant-loop-item : goal.invariant-loop-item
invariant-loop-item l = find (moves_axis l.fn.axis) (drop l.item-index l.items) ≡ find (moves_axis l.fn.axis) l.items
