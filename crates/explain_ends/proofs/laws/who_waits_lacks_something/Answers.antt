use Rattle.explain_ends.proofs.MissingLaws.{who_waits_lacks}
use Rattle.explain_ends.proofs.laws.who_waits_lacks_something.Goals as goal

pub returns : goal.returns
returns c = who_waits_lacks
