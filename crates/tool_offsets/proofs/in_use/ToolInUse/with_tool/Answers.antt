use Rattle.tool_offsets.proofs.ChoiceLaws.{tool_used, tool_refused}
use Rattle.std.proofs.Common.{◌∙◌}
use Rattle.tool_offsets.proofs.in_use.ToolInUse.with_tool.Goals as goal

pub returns-in_default : goal.returns-in_default
returns-in_default c choices was = tool_refused c.args.tools.now choices c.args.tool c.in_default.ensures

pub returns : goal.returns
returns c choices was = c.with_lengths.ensures ∙ tool_used c.args.tools.now choices c.args.tool c.in-Some.number c.select.result c.in-Some.ensures c.select.ensures.exact
