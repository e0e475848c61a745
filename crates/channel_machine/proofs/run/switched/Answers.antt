use Rattle.std.proofs.Common.{sym, ◌∙◌}
use Rattle.coordination_words.proofs.SetSteps.{with_is, without_is}
use Rattle.channel_machine.proofs.run.switched.Goals as goal

pub returns-then-new : goal.returns-then-new
returns-then-new c = rw c.if-new.true (with_is c.args.on c.with.result c.args.zone (c.contains-had.ensures.size ∙ sym c.with.ensures.size) c.with.ensures.members)

pub returns-else-new : goal.returns-else-new
returns-else-new c = rw c.if-new.false (without_is c.args.on c.without.result c.args.zone (c.contains-had.ensures.size ∙ sym c.without.ensures.size) c.without.ensures.members)
