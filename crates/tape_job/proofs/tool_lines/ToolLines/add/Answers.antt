use Rattle.std.proofs.Common.{◌∙◌, ℕ, List, sym, ap}
use Rattle.std.specs.List.{list_any}
use Rattle.indexmap.specs.IndexSet.{insert_key}
use Rattle.tool_offsets.specs.declared.tools.ToolEdge.{ToolEdge}
use Rattle.tape_job.specs.Rules.{has_edge}
use Rattle.tape_job.specs.ToolKeys.{is_key}
use Rattle.tape_job.specs.declared.tool_lines.EdgeKey.{EdgeKey}
use Rattle.tape_job.proofs.EdgeKeys.{keys_push}
use Rattle.tape_job.proofs.tool_lines.ToolLines.add.Goals as goal

pub invariant_of-self-2 : goal.invariant_of-self-2
invariant_of-self-2 c key =
    ap (list_any (is_key key)) (c.in_ok-insert.ensures.keys ∙ ap (λ (keys : List EdgeKey). insert_key is_key keys c.key_of-key.result) c.in_ok-reserve.ensures.keys)
    ∙ keys_push c.self.inside.keys.keys c.self.inside.tools.items c.args.channel c.args.edge c.key_of-key.result c.self.invariant c.key_of-key.ensures key
    ∙ ap (λ (tools : List (ℕ × List ToolEdge)). has_edge tools key.channel key.tool key.edge) (sym c.in_ok-add_edge.ensures.added)
