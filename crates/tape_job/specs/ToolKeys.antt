-- Steps. The numbers of the edges that TOOL lines gave, by which an edge is looked up.
use Rattle.std.specs.Prelude.{◌≡◌, ℕ, ◌&&◌, ◌==◌, Bool, List}
use Rattle.std.specs.List.{list_any}
use Rattle.tape_job.specs.Rules.{has_edge}
use Rattle.tape_job.specs.declared.tool_lines.EdgeKey.{EdgeKey}
use Rattle.tool_offsets.specs.declared.tools.ToolEdge.{ToolEdge}

abbrev pub is_key : EdgeKey → EdgeKey → Bool
is_key key other = key.channel == other.channel && (key.tool == other.tool && key.edge == other.edge)

-- they are those of the edges of channels
abbrev pub AreKeys : List EdgeKey → List (ℕ × List ToolEdge) → Type 0
AreKeys keys tools = (key : EdgeKey) → list_any (is_key key) keys ≡ has_edge tools key.channel key.tool key.edge
