use Rattle.std.proofs.Common.{◌∙◌, sym}
use Rattle.tool_offsets.proofs.ChoiceLaws.{its_edge, no_edge}
use Rattle.tool_offsets.proofs.in_use.edge_number.Goals as goal

pub returns-in-Some : goal.returns-in-Some
returns-in-Some c = its_edge c.args.tools.now c.args.tool c.args.edge c.in-Some.line (sym c.line_of_edge.ensures ∙ c.in-Some.is)

pub returns-in-None : goal.returns-in-None
returns-in-None c = no_edge c.args.tools.now c.args.tool c.args.edge c.if-edge-eq0.false (sym c.line_of_edge.ensures ∙ c.in-None.is)
