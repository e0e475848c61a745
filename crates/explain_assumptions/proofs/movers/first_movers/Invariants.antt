use Rattle.std.proofs.Common.{◌≡◌, map}
use Rattle.std.specs.List.{range_with_len}
use Rattle.explain_assumptions.specs.Rows.{first_mover}
use Rattle.explain_assumptions.proofs.movers.first_movers.Given as goal

abbrev pub invariant-loop-index : goal.invariant-loop-index
invariant-loop-index l = l.list.items ≡ map (λ axis. first_mover axis l.run) (range_with_len 0 l.index)
