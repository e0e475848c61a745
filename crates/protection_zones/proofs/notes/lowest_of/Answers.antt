use Rattle.std.proofs.Common.{sym, ◌∙◌, arith}
use Rattle.protection_zones.proofs.NoteLaws.{lowest_is, lowest_none}
use Rattle.protection_zones.proofs.notes.lowest_of.Goals as goal

pub returns-then-is_with : goal.returns-then-is_with
returns-then-is_with c =
    sym (lowest_is c.args.deed.now c.args.channel c.loop-number.number c.loop-number.invariant.from (omega arith) c.loop-number.invariant.none (sym c.is_with.ensures ∙ c.if-is_with.true))

pub returns : goal.returns
returns c = sym (lowest_none c.args.deed.now c.args.channel (λ d from below. c.loop-number.invariant.none d from (omega arith)))
