-- Meaning. What a line breaks against what the lines before it told.
use Rattle.std.specs.Prelude.{ℕ, Bool, true, false, not, ◌&&◌, ◌||◌, if◌then◌else◌, ◌==◌, nat_le, List, [], ◌∷◌, ◌++◌, length, slice_get, position, find, Option, Some, None, Result, Ok, Err}
use Rattle.std.specs.List.{list_any}
use Rattle.std.specs.Option.{option_and_then, option_map}
use Rattle.std.specs.Map.{keys_of}
use Rattle.std.specs.Str.{bytes_eq}
use Rattle.job_lines.specs.Code.{refusal_code}
use Rattle.job_lines.specs.declared.code.Code.{Code}
use Rattle.job_lines.specs.declared.code.Code.TheVariants.{NotDeclared, DeclaredTwice, OwnerDiffers, TooMany, NameRepeated, NotInLibrary}
use Rattle.job_lines.specs.declared.declaration.AxisName.{AxisName}
use Rattle.job_lines.specs.declared.declaration.NamedSide.{NamedSide}
use Rattle.job_lines.specs.declared.declaration.Declaration.{Declaration}
use Rattle.job_lines.specs.declared.declaration.Declaration.TheVariants.{Channel, Axis, Geo, Offset, Zone, Tool, Margin, Depth, Budget, Compensation, Skip}
use Rattle.nc_blocks.specs.Statement.{BlockView}
use Rattle.nc_control_flow.specs.declared.nest.Opened.{Opened}
use Rattle.nc_control_flow.specs.Nested.{nest_of}
use Rattle.fault_codes.specs.declared.Refusal.{Refusal}
use Rattle.job_types.specs.declared.job.AxisLine.{AxisLine}
use Rattle.job_types.specs.declared.job.Side.{Side}
use Rattle.tape_job.specs.declared.draft.GivenOptions.{GivenOptions}
use Rattle.job_types.specs.Job.{JobView, ProgramView}
use Rattle.tool_offsets.specs.Tools as edges
use Rattle.tape_job.specs.Reading.{ReadingView, Blank, First, DeclarationLine, Header, BlockLine}
use Rattle.job_types.specs.Zones.{is_carrier}
use Rattle.job_types.specs.Axes.{axis_at}
use Rattle.job_lines.specs.Extent.{extent_of}
use Rattle.job_lines.specs.declared.limits.TheConstants.{PROGRAM_LIMIT}
use Rattle.job_lines.specs.declared.tool_lines.GivenEdge.{GivenEdge}
use Rattle.tool_offsets.specs.declared.tools.ToolEdge.{ToolEdge}

-- the refusal of a line by a rule
unfoldable pub refusal : Code → ℕ → Refusal
refusal code line = record { code = refusal_code code; line = line }

unfoldable pub has_channel : JobView → ℕ → Bool
has_channel job channel = list_any (λ line. line.channel == channel) job.channels

abbrev pub is_named : AxisName → AxisLine → Bool
is_named name line = (line.letter == name.letter) && (line.number == name.number)

-- the axis with this name
unfoldable pub axis_of : List AxisLine → AxisName → Option ℕ
axis_of axes name = option_and_then axis_at (position (is_named name) axes)

unfoldable pub has_axis : JobView → AxisName → Bool
has_axis job name = list_any (is_named name) job.axes

unfoldable pub has_slot : JobView → ℕ → ℕ → Bool
has_slot job channel slot = list_any (λ line. (line.channel == channel) && (line.slot == slot)) job.geo

unfoldable pub has_slot_axis : JobView → ℕ → ℕ → Bool
has_slot_axis job channel axis = list_any (λ line. (line.channel == channel) && (line.axis == axis)) job.geo

-- an owner or a holder that is a channel is declared
unfoldable pub has_owner : JobView → Option ℕ → Bool
has_owner job None = true
has_owner job (Some channel) = has_channel job channel

unfoldable pub has_offset : JobView → ℕ → ℕ → ℕ → Bool
has_offset job channel g slot = list_any (λ line. (line.channel == channel) && (line.g == g) && (line.slot == slot)) job.offsets

-- both the same channel, or both free
abbrev pub is_same_owner : Option ℕ → Option ℕ → Bool
is_same_owner None None = true
is_same_owner (Some channel) (Some other) = channel == other
is_same_owner owner other = false

abbrev pub is_owned_line : Option ℕ → Option AxisLine → Bool
is_owned_line owner None = false
is_owned_line owner (Some line) = is_same_owner line.owner owner

-- the axis is there, and this is its owner
unfoldable pub owns : JobView → Option ℕ → ℕ → Bool
owns job owner axis = is_owned_line owner (slice_get job.axes axis)

unfoldable pub has_zone : JobView → ℕ → Bool
has_zone job zone = list_any (λ line. line.zone == zone) job.zones

-- a line gives this edge of this tool of the channel
unfoldable pub has_edge : List (ℕ × List ToolEdge) → ℕ → ℕ → ℕ → Bool
has_edge tools channel tool edge = list_any (λ one. (one.0 == channel) && edges.has_edge one.1 tool edge) tools

unfoldable pub channel_rule : JobView → ℕ → Option Code
channel_rule job channel = if has_channel job channel then Some DeclaredTwice else None

unfoldable pub axis_rule : JobView → AxisName → Option ℕ → Option Code
axis_rule job name owner =
    if not (has_owner job owner) then Some NotDeclared
    else if has_axis job name then Some DeclaredTwice
    else if nat_le (extent_of job.version).axes (length job.axes) then Some TooMany
    else None

-- an axis may stand in slots of channels that do not own it
unfoldable pub slot_rule : JobView → ℕ → ℕ → Option ℕ → Option Code
slot_rule job channel slot None = Some NotDeclared
slot_rule job channel slot (Some axis) =
    if not (has_channel job channel) then Some NotDeclared
    else if has_slot job channel slot || has_slot_axis job channel axis then Some DeclaredTwice
    else None

unfoldable pub offset_rule : JobView → ℕ → ℕ → ℕ → Option Code
offset_rule job channel g slot =
    if not (has_channel job channel) then Some NotDeclared
    else if has_offset job channel g slot then Some DeclaredTwice
    else None

unfoldable pub tool_rule : JobView → ℕ → GivenEdge → Option Code
tool_rule job channel edge =
    if not (has_channel job channel) then Some NotDeclared
    else if has_edge job.tools channel edge.tool edge.edge then Some DeclaredTwice
    else None

-- a direction with its axis for the axis' name
abbrev pub side_with : NamedSide → Option (ℕ × Bool) → Side
side_with side carrier = record { carrier = carrier; lo = side.lo; hi = side.hi }

abbrev pub carried_side : List AxisLine → NamedSide → Option (AxisName × Bool) → Option Side
carried_side axes side None = Some (side_with side None)
carried_side axes side (Some (name, minus)) = option_map (λ axis. side_with side (Some (axis, minus))) (axis_of axes name)

unfoldable pub side_of : List AxisLine → NamedSide → Option Side
side_of axes side = carried_side axes side side.carrier

abbrev pub same_carrier : Option (ℕ × Bool) → Option (ℕ × Bool) → Bool
same_carrier None other = false
same_carrier (Some (axis, minus)) other = is_carrier axis other

-- one axis carries both
unfoldable pub same_axis : Side → Side → Bool
same_axis a b = same_carrier a.carrier b.carrier

abbrev pub is_owned_carrier : JobView → Option ℕ → Option (ℕ × Bool) → Bool
is_owned_carrier job holder None = true
is_owned_carrier job holder (Some (axis, minus)) = owns job holder axis

-- the owner of the carrier is the holder of the zone
unfoldable pub owns_carrier : JobView → Option ℕ → Side → Bool
owns_carrier job holder side = is_owned_carrier job holder side.carrier

-- a zone's directions
unfoldable pub sides_rule : JobView → Option ℕ → Side → Side → Side → Option Code
sides_rule job holder x y z =
    if same_axis x y || same_axis x z || same_axis y z then Some DeclaredTwice
    else if not (owns_carrier job holder x && owns_carrier job holder y && owns_carrier job holder z) then Some OwnerDiffers
    else None

unfoldable pub zone_rule : JobView → ℕ → Option ℕ → Option Side → Option Side → Option Side → Option Code
zone_rule job zone holder (Some x) (Some y) (Some z) =
    if not (has_owner job holder) then Some NotDeclared
    else if has_zone job zone then Some DeclaredTwice
    else sides_rule job holder x y z
zone_rule job zone holder x y z = Some NotDeclared

-- an option stands once
abbrev pub option_rule : Bool → Option Code
option_rule given = if given then Some DeclaredTwice else None

-- what a job line breaks: what must be declared before it, and what is declared already
unfoldable pub declaration_rule : GivenOptions → JobView → Declaration → Option Code
declaration_rule options job (Channel channel program starts) = channel_rule job channel
declaration_rule options job (Axis name owner at) = axis_rule job name owner
declaration_rule options job (Geo channel slot axis) = slot_rule job channel slot (axis_of job.axes axis)
declaration_rule options job (Offset channel g slot by) = offset_rule job channel g slot
declaration_rule options job (Zone zone) = zone_rule job zone.zone zone.holder (side_of job.axes zone.x) (side_of job.axes zone.y) (side_of job.axes zone.z)
declaration_rule options job (Tool channel edge) = tool_rule job channel edge
declaration_rule options job (Margin margin) = option_rule options.margin
declaration_rule options job (Depth depth) = option_rule options.depth
declaration_rule options job (Budget budget) = option_rule options.budget
declaration_rule options job Compensation = option_rule job.compensation
declaration_rule options job Skip = option_rule job.skip

-- a program in the library has this name
unfoldable pub has_program : List (List ℕ × ProgramView) → List ℕ → Bool
has_program programs name = list_any (bytes_eq name) (keys_of programs)

-- the program of the last header
abbrev pub last_program : List (List ℕ × ProgramView) → Option ProgramView
last_program [] = None
last_program (program ∷ []) = Some program.1
last_program (program ∷ next ∷ programs) = last_program (next ∷ programs)

abbrev pub count_in : Option ProgramView → ℕ
count_in None = 0
count_in (Some program) = length program.blocks

-- how many blocks it has
abbrev pub last_count : List (List ℕ × ProgramView) → ℕ
last_count programs = count_in (last_program programs)

abbrev pub innermost : Result (List Opened) ℕ → Option ℕ
innermost (Ok all) = option_map (λ one. one.line) (slice_get all 0)
innermost (Err code) = None

-- the line of the structure that is open after some lines of a program and was opened last
unfoldable pub open_line : List (ℕ × BlockView) → Option ℕ
open_line blocks = innermost (nest_of blocks)

abbrev pub fault_of : Result (List Opened) ℕ → Option ℕ
fault_of (Ok all) = None
fault_of (Err code) = Some code

-- the code by which one more line breaks the structures of some lines of a program
unfoldable pub structure_fault : List (ℕ × BlockView) → ℕ × BlockView → Option ℕ
structure_fault blocks block = fault_of (nest_of (blocks ++ block ∷ []))

unfoldable pub left_open : List (List ℕ × ProgramView) → Option ℕ
left_open programs = option_and_then (λ program. open_line program.blocks) (last_program programs)

-- where the last program ends, a structure that is open is refused at the line of the one opened last
unfoldable pub open_structure_refusal : JobView → Option Refusal
open_structure_refusal job = option_map (λ line. record { code = 25; line = line }) (left_open job.programs)

-- the code by which a block breaks the structures of the last program
unfoldable pub structure_rule : List (List ℕ × ProgramView) → ℕ × BlockView → Option ℕ
structure_rule programs block = option_and_then (λ program. structure_fault program.blocks block) (last_program programs)

-- what a header breaks
unfoldable pub header_rule : JobView → List ℕ → Option Code
header_rule job name =
    if has_program job.programs name then Some NameRepeated
    else if nat_le PROGRAM_LIMIT (length job.programs) then Some TooMany
    else None

-- what a line breaks
unfoldable pub rule_of : GivenOptions → JobView → ReadingView → Option Code
rule_of options job Blank = None
rule_of options job First = None
rule_of options job (DeclarationLine declaration) = declaration_rule options job declaration
rule_of options job (Header name) = header_rule job name
rule_of options job (BlockLine block) = None

abbrev pub is_known : List (List ℕ × ProgramView) → Option (List ℕ) → Bool
is_known programs None = true
is_known programs (Some name) = has_program programs name

-- the first channel whose program is not in the library
unfoldable pub missing_program_refusal : JobView → Option Refusal
missing_program_refusal job = option_map (λ line. refusal NotInLibrary line.line) (find (λ line. not (is_known job.programs line.program)) job.channels)
