use Rattle.std.proofs.Common.{◌∙◌, sym}
use Rattle.explain_assumptions.proofs.TextLaws.{some_said}
use Rattle.explain_assumptions.proofs.said.say_assumptions.Goals as goal

pub returns-else-is_empty : goal.returns-else-is_empty
returns-else-is_empty c =
    some_said c.args.told.now.lines.now c.args.told.now.job.now c.args.rows.now c.args.text.now c.say-else-is_empty.new.self c.say_rows.new.text (sym c.is_empty.ensures ∙ c.if-is_empty.false)
    c.say-else-is_empty.ensures c.say_rows.ensures
