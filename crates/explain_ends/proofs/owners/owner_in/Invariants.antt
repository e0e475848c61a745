-- The first line of those to come that has the axis is the first of all.
use Rattle.std.proofs.Common.{◌≡◌, ◌==◌, None, drop}
use Rattle.std.specs.Prelude.{find}
use Rattle.std.specs.Option.{option_map_or}
use Rattle.explain_ends.proofs.owners.owner_in.Given as goal

abbrev pub invariant-loop-line : goal.invariant-loop-line
invariant-loop-line l = option_map_or (λ line. line.1) (find (λ line. line.0 == l.axis) l.lines) None ≡ option_map_or (λ line. line.1) (find (λ line. line.0 == l.axis) (drop l.line-index l.lines)) None
