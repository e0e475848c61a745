-- Meaning. Which edge the tools of a channel make active, and its lengths.
use Rattle.std.specs.Prelude.{◌≡◌, ◌≢◌, ℕ, ◌==◌, ◌&&◌, ◌||◌, ◌≤◌, pos, Bool, if◌then◌else◌, List, find, Result, Ok, Err, Option, option_map}
use Rattle.std.specs.List.{All, AllPairs, list_any}
use Rattle.std.specs.Option.{option_map_or}
use Rattle.fault_codes.specs.declared.alarms.TheConstants.{NO_SUCH_TOOL}
use Rattle.tool_offsets.specs.declared.tools.Active.{Active}
use Rattle.tool_offsets.specs.declared.tools.Lengths.{Lengths}
use Rattle.tool_offsets.specs.declared.tools.ToolEdge.{ToolEdge}

-- two lines give other tools or other edges
abbrev pub AreApart : ToolEdge → ToolEdge → Type 0
AreApart line other = line.tool ≡ other.tool → line.edge ≢ other.edge

-- each tool and edge is given once, and neither is numbered 0
pub record AreSound (edges : List ToolEdge) : Type 0 where
  pub apart : AllPairs AreApart edges
  pub tools : All (λ line. 1 ≤ line.tool) edges
  pub numbers : All (λ line. 1 ≤ line.edge) edges

-- the tool has an edge
unfoldable pub has_tool : List ToolEdge → ℕ → Bool
has_tool edges tool = list_any (λ line. line.tool == tool) edges

-- the tool has this edge
unfoldable pub has_edge : List ToolEdge → ℕ → ℕ → Bool
has_edge edges tool edge = list_any (λ line. line.tool == tool && line.edge == edge) edges

-- edge 0, or an edge that the tool has
abbrev pub is_known : List ToolEdge → Active → Bool
is_known edges active = active.edge == 0 || has_edge edges active.tool active.edge

-- the edge that a tool begins with: 1 where it has that, else 0; tool 0 has none
abbrev pub first_edge : List ToolEdge → ℕ → ℕ
first_edge edges tool = if tool == 0 then 0 else if has_edge edges tool 1 then 1 else 0

-- a tool is selected with the edge that it begins with; tool 0 with edge 0, and any other must have an edge
unfoldable pub selection : List ToolEdge → ℕ → Result Active ℕ
selection edges tool =
    if tool == 0 then Ok (record { tool = 0; edge = 0 })
    else if has_tool edges tool then Ok (record { tool = tool; edge = first_edge edges tool })
    else Err NO_SUCH_TOOL

-- an edge is selected of the tool that is active; it is 0, or one that the tool has
unfoldable pub edge_selection : List ToolEdge → Active → ℕ → Result Active ℕ
edge_selection edges active edge =
    if edge == 0 || has_edge edges active.tool edge then Ok (record { tool = active.tool; edge = edge })
    else Err NO_SUCH_TOOL

-- the line of the edge that is active
abbrev pub line_of : List ToolEdge → Active → Option ToolEdge
line_of edges active = find (λ line. line.tool == active.tool && line.edge == active.edge) edges

-- edge 0 has no lengths
abbrev pub no_lengths : Lengths
no_lengths = record { x = pos 0; z = pos 0 }

-- the lengths of the edge that is active
unfoldable pub lengths_of : List ToolEdge → Active → Lengths
lengths_of edges active =
    if active.edge == 0 then no_lengths
    else option_map_or (λ line. line.lengths) (line_of edges active) no_lengths
