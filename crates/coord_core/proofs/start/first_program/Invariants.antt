use Rattle.std.proofs.Common.{◌≡◌, ◌==◌, drop, None}
use Rattle.std.specs.Prelude.{find}
use Rattle.std.specs.Option.{option_map_or}
use Rattle.coord_core.proofs.start.first_program.Given as goal

abbrev pub invariant-loop-line : goal.invariant-loop-line
invariant-loop-line l = option_map_or (λ line. line.1) (find (λ line. line.0 == l.channel) l.lines) None ≡ option_map_or (λ line. line.1) (find (λ line. line.0 == l.channel) (drop l.line-index l.lines)) None
