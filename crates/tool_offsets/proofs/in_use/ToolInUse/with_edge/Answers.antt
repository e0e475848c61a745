use Rattle.std.proofs.Common.{◌∙◌, ap}
use Rattle.tool_offsets.proofs.ChoiceLaws.{edge_used, edge_refused}
use Rattle.tool_offsets.specs.declared.in_use.ToolInUse.{ToolInUse}
use Rattle.tool_offsets.proofs.in_use.ToolInUse.with_edge.Goals as goal

pub returns-in_default : goal.returns-in_default
returns-in_default c choices was =
    edge_refused c.args.tools.now choices c.args.self.active.tool c.args.edge (ap (λ (t : ToolInUse). t.active.tool) was) c.in_default.ensures

pub returns : goal.returns
returns c choices was =
    c.with_lengths.ensures
    ∙ edge_used c.args.tools.now choices c.args.self.active c.args.edge c.in-Some.number c.edge.result (ap (λ (t : ToolInUse). t.active) was) c.in-Some.ensures c.edge.ensures.exact
