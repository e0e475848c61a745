use Rattle.std.proofs.Common.{[], refl}
use Rattle.explain_reach.proofs.lots.most_near.Goals as goal

pub returns : goal.returns
returns c = c.most_among.ensures [] refl
