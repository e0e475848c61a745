use Rattle.turnmill.proofs.WordLemmas.{fails_not, reads_small}
use Rattle.turnmill.proofs.words.value_of.Goals as goal

pub unreachable-requires : goal.unreachable-requires
unreachable-requires c = fails_not _ c.args.text.now c.in_default.field-0 c.requires (rw c.in_default.is at c.parse.ensures.value.0)

pub returns-clause-small : goal.returns-clause-small
returns-clause-small c = reads_small c.args.text.now c.in-Ok.number c.requires c.in-Ok.ensures.value.0.1
