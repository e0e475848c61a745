use Rattle.explain_joins.proofs.TrimLaws.{end_trimmed}
use Rattle.explain_joins.proofs.lines.without_end.Goals as goal

pub returns : goal.returns
returns c = end_trimmed c.args.text.now c.trim_ascii_end.result.now c.trim_ascii_end.ensures.value
