-- Meaning. Which tool and edge the words T and D of a channel's blocks have made active, and the lengths of that edge.
use Rattle.std.specs.Prelude.{ℕ, ◌==◌, ◌||◌, Bool, if◌then◌else◌, List, [], ◌∷◌, ◌++◌, fold, filter_map, Option, None, Some, Result, Ok, Err}
use Rattle.fault_codes.specs.declared.alarms.TheConstants.{NO_SUCH_TOOL}
use Rattle.tool_offsets.specs.Tools.{first_edge, has_edge, has_tool, lengths_of}
use Rattle.tool_offsets.specs.declared.tools.Active.{Active}
use Rattle.tool_offsets.specs.declared.tools.Lengths.{Lengths}
use Rattle.tool_offsets.specs.declared.tools.ToolEdge.{ToolEdge}
use Rattle.tool_offsets.specs.declared.in_use.ToolInUse.{ToolInUse}

-- a word T with the number of a tool, or a word D with the number of an edge
pub data Choice : Type 0 where
  OfTool : ℕ → Choice
  OfEdge : ℕ → Choice

-- the tool of a word T
abbrev pub tool_of : Choice → Option ℕ
tool_of (OfTool tool) = Some tool
tool_of (OfEdge edge) = None

-- the edge that a choice makes active: that of a word D, and at a word T the one that the tool begins with
abbrev pub edge_by : List ToolEdge → Choice → ℕ
edge_by edges (OfTool tool) = first_edge edges tool
edge_by edges (OfEdge edge) = edge

-- the tool of the last word T among the choices; tool 0 where there is none
unfoldable pub tool_after : List Choice → ℕ
tool_after choices = fold (λ _ tool. tool) 0 (filter_map tool_of choices)

-- the edge of the last choice: that of a word D after the last word T, or else the one that its tool begins with; edge 0 where there is none
unfoldable pub edge_after : List ToolEdge → List Choice → ℕ
edge_after edges choices = fold (λ _ choice. edge_by edges choice) 0 choices

-- the tool and the edge that are active after these choices
abbrev pub active_after : List ToolEdge → List Choice → Active
active_after edges choices = record { tool = tool_after choices; edge = edge_after edges choices }

-- the lengths that are active after them
abbrev pub lengths_after : List ToolEdge → List Choice → Lengths
lengths_after edges choices = lengths_of edges (active_after edges choices)

-- both
abbrev pub in_use_after : List ToolEdge → List Choice → ToolInUse
in_use_after edges choices = record { active = active_after edges choices; lengths = lengths_after edges choices }

-- whether something may be chosen after these choices: a tool that has an edge, or 0; an edge that the active tool has, or 0
abbrev pub may_choose : List ToolEdge → List Choice → Choice → Bool
may_choose edges choices (OfTool tool) = tool == 0 || has_tool edges tool
may_choose edges choices (OfEdge edge) = edge == 0 || has_edge edges (tool_after choices) edge

-- with one choice more; alarm 34 where it may not be chosen
unfoldable pub choices_with : List ToolEdge → List Choice → Choice → Result (List Choice) ℕ
choices_with edges choices choice = if may_choose edges choices choice then Ok (choices ++ choice ∷ []) else Err NO_SUCH_TOOL

-- what is selected, with its lengths; or the alarm
abbrev pub with_lengths : List ToolEdge → Result Active ℕ → Result ToolInUse ℕ
with_lengths edges (Ok active) = Ok (record { active = active; lengths = lengths_of edges active })
with_lengths edges (Err alarm) = Err alarm

-- what is in use after choices, or their alarm
abbrev pub in_use_or_alarm : List ToolEdge → Result (List Choice) ℕ → Result ToolInUse ℕ
in_use_or_alarm edges (Ok choices) = Ok (in_use_after edges choices)
in_use_or_alarm edges (Err alarm) = Err alarm
