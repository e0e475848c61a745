use Rattle.std.proofs.Common.{◌∙◌, sym}
use Rattle.tool_offsets.proofs.ChoiceLaws.{its_tool, no_tool}
use Rattle.tool_offsets.proofs.in_use.tool_number.Goals as goal

pub returns-in-Some : goal.returns-in-Some
returns-in-Some c = its_tool c.args.tools.now c.args.tool c.in-Some.line (sym c.line_of_tool.ensures ∙ c.in-Some.is)

pub returns-in-None : goal.returns-in-None
returns-in-None c = no_tool c.args.tools.now c.args.tool c.if-tool-eq0.false (sym c.line_of_tool.ensures ∙ c.in-None.is)
