use Rattle.std.proofs.Common.{◌≡◌, drop}
use Rattle.explain_lines.specs.Origins.{number_from}
use Rattle.explain_lines.proofs.origins.number_of.Given as goal

abbrev pub invariant-loop-digit : goal.invariant-loop-digit
invariant-loop-digit l = number_from l.number (drop l.digit-index l.digits) ≡ number_from 0 l.digits
