use Rattle.std.proofs.Common.{◌∙◌, sym}
use Rattle.explain_refused.proofs.CommaLaws.{short_none}
use Rattle.explain_refused.proofs.slips.comma_place.Goals as goal

pub returns : goal.returns
returns c = sym (short_none c.loop-rest.depth c.loop-rest.rest.now c.in_default.len_below) ∙ c.loop-rest.invariant.same
