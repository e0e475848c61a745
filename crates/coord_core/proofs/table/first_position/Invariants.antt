use Rattle.std.proofs.Common.{◌≡◌, ◌==◌, drop}
use Rattle.std.specs.Prelude.{find, pos}
use Rattle.std.specs.Option.{option_map_or}
use Rattle.coord_core.proofs.table.first_position.Given as goal

abbrev pub invariant-loop-line : goal.invariant-loop-line
invariant-loop-line l = option_map_or (λ line. line.2) (find (λ line. line.0 == l.axis) l.lines) (pos 0) ≡ option_map_or (λ line. line.2) (find (λ line. line.0 == l.axis) (drop l.line-index l.lines)) (pos 0)
