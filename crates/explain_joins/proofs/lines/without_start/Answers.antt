use Rattle.explain_joins.proofs.TrimLaws.{start_trimmed}
use Rattle.explain_joins.proofs.lines.without_start.Goals as goal

pub returns : goal.returns
returns c = start_trimmed c.args.text.now c.trim_ascii_start.result.now c.trim_ascii_start.ensures.value
