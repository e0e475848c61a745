use Rattle.std.proofs.Common.{◌≡◌, ◌==◌, false, drop}
use Rattle.std.specs.Prelude.{find}
use Rattle.std.specs.Option.{option_map_or}
use Rattle.coord_core.proofs.start.runs_at_first.Given as goal

abbrev pub invariant-loop-line : goal.invariant-loop-line
invariant-loop-line l = option_map_or (λ line. line.2) (find (λ line. line.0 == l.channel) l.lines) false ≡ option_map_or (λ line. line.2) (find (λ line. line.0 == l.channel) (drop l.line-index l.lines)) false
