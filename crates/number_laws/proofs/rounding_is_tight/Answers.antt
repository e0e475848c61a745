-- A whole number stands over 1.
use Rattle.std.proofs.Common.{arith}
use Rattle.std.proofs.lemmas.Int.{ints}
use Rattle.number_laws.proofs.FloorLaws.{ceil_div-ge}
use Rattle.number_laws.proofs.rounding_is_tight.Goals as goal

pub returns-clause-ceil_at_least : goal.returns-clause-ceil_at_least
returns-clause-ceil_at_least c = λ p above. omega (arith, ints, ceil_div-ge p.top p.under above)
