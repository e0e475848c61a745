use Rattle.turnmill.proofs.WordLemmas.{stripped}
use Rattle.turnmill.proofs.words.text_after.Goals as goal

pub returns : goal.returns
returns c = stripped c.args.front.now c.args.text.now c.strip_prefix.result c.strip_prefix.ensures.cases
