-- Meaning. What lines tell together.
use Rattle.std.specs.Prelude.{ℕ, ℤ, Bool, true, false, ◌||◌, ◌==◌, List, [], ◌∷◌, ◌++◌, filter, map, Result, Ok, Option, Some, None, is_some, unwrap_or}
use Rattle.std.specs.List.{list_any, cons_option, filter_map, range_with_len}
use Rattle.std.specs.Option.{option_map}
use Rattle.job_lines.specs.declared.declaration.Declaration.TheVariants.{Channel, Axis, Geo, Offset, Zone, Tool, Margin, Depth, Budget, Compensation, Skip}
use Rattle.job_lines.specs.declared.declaration.NamedZone.{NamedZone}
use Rattle.nc_blocks.specs.Statement.{BlockView}
use Rattle.job_types.specs.declared.job.ChannelLine.{ChannelLine}
use Rattle.job_types.specs.declared.job.AxisLine.{AxisLine}
use Rattle.job_types.specs.declared.job.GeoLine.{GeoLine}
use Rattle.job_types.specs.declared.job.OffsetLine.{OffsetLine}
use Rattle.job_types.specs.declared.job.ZoneLine.{ZoneLine}
use Rattle.job_types.specs.declared.job.Side.{Side}
use Rattle.axis_sets.specs.declared.limits.TheConstants.{CHANNEL_LIMIT}
use Rattle.job_lines.specs.declared.tool_lines.GivenEdge.{GivenEdge}
use Rattle.tool_offsets.specs.declared.tools.ToolEdge.{ToolEdge}
use Rattle.tape_job.specs.Draft.{nothing_told}
use Rattle.tape_job.specs.declared.draft.GivenOptions.{GivenOptions}
use Rattle.job_types.specs.Job.{JobView, ProgramView, program_of}
use Rattle.tape_job.specs.Lines.{Line, has_token, begins_with_percent}
use Rattle.tape_job.specs.Reading.{ReadingView, First, DeclarationLine, Header, BlockLine, reading_of}
use Rattle.tape_job.specs.Rules.{axis_of, side_of}

-- what lines have told: whether one has a token, whether one begins with '%', where the programs begin, which options lines gave, and the job so far
pub record Told : Type 0 where
  pub seen : Bool
  pub in_programs : Bool
  pub options : GivenOptions
  pub job : JobView

-- what a line says that follows the given lines, where the job accepts tool radius compensation or not
abbrev pub reading_under : Bool → List Line → List ℕ → Result ReadingView ℕ
reading_under compensation before raw =
    reading_of (list_any (λ line. has_token line.1) before) (list_any (λ line. begins_with_percent line.1) before) compensation raw

abbrev pub says_compensation : Result ReadingView ℕ → Bool
says_compensation (Ok (DeclarationLine Compensation)) = true
says_compensation reading = false

abbrev pub says_skip : Result ReadingView ℕ → Bool
says_skip (Ok (DeclarationLine Skip)) = true
says_skip reading = false

-- a line passes a test in the light of the lines before it
abbrev pub any_after : (List Line → Line → Bool) → List Line → List Line → Bool
any_after test before [] = false
any_after test before (line ∷ lines) = test before line || any_after test (before ++ line ∷ []) lines

-- a line accepts compensation; that it does so hangs on no other line that does
unfoldable pub accept_compensation : List Line → Bool
accept_compensation lines = any_after (λ before line. says_compensation (reading_under false before line.1)) [] lines

-- what a line says that follows the given lines
abbrev pub reading_after : List Line → List ℕ → Result ReadingView ℕ
reading_after before raw = reading_under (accept_compensation before) before raw

-- what each line gives in the light of the lines before it
abbrev pub entries : {A : Type 0} → (List Line → Line → Option A) → List Line → List Line → List A
entries give before [] = []
entries give before (line ∷ lines) = cons_option (give before line) (entries give (before ++ line ∷ []) lines)

-- the last entry of a list
abbrev pub last_of : {A : Type 0} → List A → Option A
last_of [] = None
last_of (x ∷ []) = Some x
last_of (x ∷ y ∷ xs) = last_of (y ∷ xs)

-- what a line of the input tells by what it says
abbrev pub job_line_from : ℕ → Result ReadingView ℕ → Option ℕ
job_line_from number (Ok First) = Some number
job_line_from number reading = None

abbrev pub channel_from : ℕ → Result ReadingView ℕ → Option ChannelLine
channel_from number (Ok (DeclarationLine (Channel channel program starts))) = Some (record { line = number; channel = channel; program = program; starts = starts })
channel_from number reading = None

abbrev pub axis_from : ℕ → Result ReadingView ℕ → Option AxisLine
axis_from number (Ok (DeclarationLine (Axis name owner at))) = Some (record { line = number; letter = name.letter; number = name.number; owner = owner; at = at })
axis_from number reading = None

abbrev pub offset_from : ℕ → Result ReadingView ℕ → Option OffsetLine
offset_from number (Ok (DeclarationLine (Offset channel g slot by))) = Some (record { line = number; channel = channel; g = g; slot = slot; by = by })
offset_from number reading = None

-- the edge of a tool that a line gives
abbrev pub tool_edge : GivenEdge → ToolEdge
tool_edge given = record { tool = given.tool; edge = given.edge; lengths = record { x = given.x; z = given.z } }

abbrev pub tool_from : Result ReadingView ℕ → Option (ℕ × ToolEdge)
tool_from (Ok (DeclarationLine (Tool channel edge))) = Some (channel, tool_edge edge)
tool_from reading = None

abbrev pub margin_from : Result ReadingView ℕ → Option ℤ
margin_from (Ok (DeclarationLine (Margin margin))) = Some margin
margin_from reading = None

abbrev pub depth_from : Result ReadingView ℕ → Option ℕ
depth_from (Ok (DeclarationLine (Depth depth))) = Some depth
depth_from reading = None

abbrev pub budget_from : Result ReadingView ℕ → Option ℕ
budget_from (Ok (DeclarationLine (Budget budget))) = Some budget
budget_from reading = None

abbrev pub geo_line : ℕ → ℕ → ℕ → Option ℕ → Option GeoLine
geo_line number channel slot axis = option_map (λ axis. record { line = number; channel = channel; slot = slot; axis = axis }) axis

abbrev pub geo_from : List AxisLine → ℕ → Result ReadingView ℕ → Option GeoLine
geo_from axes number (Ok (DeclarationLine (Geo channel slot axis))) = geo_line number channel slot (axis_of axes axis)
geo_from axes number reading = None

abbrev pub zone_line : ℕ → NamedZone → Option Side → Option Side → Option Side → Option ZoneLine
zone_line number zone (Some x) (Some y) (Some z) =
    Some (record { line = number; zone = zone.zone; group = zone.group; holder = zone.holder; on = zone.on; sides = x ∷ y ∷ z ∷ [] })
zone_line number zone x y z = None

abbrev pub zone_from : List AxisLine → ℕ → Result ReadingView ℕ → Option ZoneLine
zone_from axes number (Ok (DeclarationLine (Zone zone))) = zone_line number zone (side_of axes zone.x) (side_of axes zone.y) (side_of axes zone.z)
zone_from axes number reading = None

abbrev pub block_from : ℕ → Result ReadingView ℕ → Option (ℕ × BlockView)
block_from number (Ok (BlockLine block)) = Some (number, block)
block_from number reading = None

abbrev pub name_from : Result ReadingView ℕ → Option (List ℕ)
name_from (Ok (Header name)) = Some name
name_from reading = None

-- the blocks of the lines up to the next header
abbrev pub until_header : {A : Type 0} → Option (List ℕ) → Option A → List A → List A
until_header None one more = cons_option one more
until_header (Some name) one more = []

abbrev pub blocks_in : List Line → List Line → List (ℕ × BlockView)
blocks_in before [] = []
blocks_in before (line ∷ lines) =
    until_header (name_from (reading_after before line.1)) (block_from line.0 (reading_after before line.1)) (blocks_in (before ++ line ∷ []) lines)

-- a program for each header
abbrev pub with_program : Option (List ℕ) → ProgramView → List (List ℕ × ProgramView) → List (List ℕ × ProgramView)
with_program None program more = more
with_program (Some name) program more = (name, program) ∷ more

abbrev pub programs_in : List Line → List Line → List (List ℕ × ProgramView)
programs_in before [] = []
programs_in before (line ∷ lines) =
    with_program (name_from (reading_after before line.1)) (program_of line.0 (blocks_in (before ++ line ∷ []) lines))
    (programs_in (before ++ line ∷ []) lines)

abbrev pub axes_in : List Line → List AxisLine
axes_in lines = entries (λ before line. axis_from line.0 (reading_after before line.1)) [] lines

-- the edges that lines give to a channel, in their order
abbrev pub edges_of : ℕ → List (ℕ × ToolEdge) → List ToolEdge
edges_of channel lines = map (λ line. line.1) (filter (λ line. line.0 == channel) lines)

-- a channel with its edges, where it has any
abbrev pub with_tools : ℕ → List ToolEdge → Option (ℕ × List ToolEdge)
with_tools channel [] = None
with_tools channel (edge ∷ edges) = Some (channel, edge ∷ edges)

-- each channel that has an edge with its edges, in ascending order of the channels
unfoldable pub by_channel : List (ℕ × ToolEdge) → List (ℕ × List ToolEdge)
by_channel lines = filter_map (λ channel. with_tools channel (edges_of channel lines)) (range_with_len 1 CHANNEL_LIMIT)

abbrev pub tools_in : List Line → List (ℕ × List ToolEdge)
tools_in lines = by_channel (entries (λ before line. tool_from (reading_after before line.1)) [] lines)

-- the option that a line gives; where no line is refused, there is one such line at most
abbrev pub option_in : {A : Type 0} → (Result ReadingView ℕ → Option A) → List Line → Option A
option_in give lines = last_of (entries (λ before line. give (reading_after before line.1)) [] lines)

-- the line of the job line
abbrev pub job_line_in : List Line → Option ℕ
job_line_in lines = last_of (entries (λ before line. job_line_from line.0 (reading_after before line.1)) [] lines)

-- what the lines tell together; the job keeps what no line tells as it is at the start
unfoldable pub facts_of : List Line → Told
facts_of lines = record {
  seen = list_any (λ line. has_token line.1) lines;
  in_programs = list_any (λ line. begins_with_percent line.1) lines;
  options = record {
    margin = is_some (option_in margin_from lines);
    depth = is_some (option_in depth_from lines);
    budget = is_some (option_in budget_from lines);
  };
  job = record nothing_told {
    line = unwrap_or (job_line_in lines) nothing_told.line;
    channels = entries (λ before line. channel_from line.0 (reading_after before line.1)) [] lines;
    axes = axes_in lines;
    geo = entries (λ before line. geo_from (axes_in before) line.0 (reading_after before line.1)) [] lines;
    offsets = entries (λ before line. offset_from line.0 (reading_after before line.1)) [] lines;
    zones = entries (λ before line. zone_from (axes_in before) line.0 (reading_after before line.1)) [] lines;
    margin = unwrap_or (option_in margin_from lines) nothing_told.margin;
    depth = unwrap_or (option_in depth_from lines) nothing_told.depth;
    budget = unwrap_or (option_in budget_from lines) nothing_told.budget;
    compensation = accept_compensation lines;
    tools = tools_in lines;
    skip = any_after (λ before line. says_skip (reading_after before line.1)) [] lines;
    programs = programs_in [] lines;
  };
}
