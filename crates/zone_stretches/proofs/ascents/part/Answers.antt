use Rattle.std.proofs.Common.{sym, arith}
use Rattle.std.proofs.lemmas.Slice.{between_is}
use Rattle.zone_stretches.proofs.ChainLaws.{past_part}
use Rattle.zone_stretches.proofs.ascents.part.Goals as goal

pub returns-then-range : goal.returns-then-range
returns-then-range g c = between_is c.args.others.now c.args.range.from c.args.range.upto

pub returns-else-range : goal.returns-else-range
returns-else-range g c = sym (past_part c.args.range.from c.args.range.upto c.args.others.now (omega arith))
