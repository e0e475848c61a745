use Rattle.std.proofs.Common.{◌≡◌, ◌==◌, drop}
use Rattle.std.specs.List.{find}
use Rattle.arc_quadrants.proofs.seen.ends_of.Given as goal

abbrev pub invariant-loop-of : goal.invariant-loop-of
invariant-loop-of l = find (λ e. e.0 == l.fn.axis) (drop l.of-index l.ends.axes) ≡ find (λ e. e.0 == l.fn.axis) l.ends.axes
