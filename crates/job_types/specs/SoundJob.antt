-- Law. What holds of every accepted job.
use Rattle.std.specs.Prelude.{◌≡◌, ◌≢◌, ◌⊎◌, ℕ, ◌<◌, ◌≤◌, ℤ, pos, ◌≤ℤ◌, true, List, length, Option, IfSome, IsSome}
use Rattle.std.specs.List.{All, Any, AllPairs}
use Rattle.nc_blocks.specs.Indices.{StatementFits}
use Rattle.nc_control_flow.specs.Nested.{IsNested}
use Rattle.job_types.specs.declared.job.AxisLine.{AxisLine}
use Rattle.job_types.specs.declared.job.GeoLine.{GeoLine}
use Rattle.job_types.specs.declared.job.OffsetLine.{OffsetLine}
use Rattle.job_types.specs.declared.job.Side.{Side}
use Rattle.job_types.specs.declared.job.ZoneLine.{ZoneLine}
use Rattle.job_types.specs.Axes.{first_owner}
use Rattle.job_types.specs.Job.{JobView, names_of}
use Rattle.axis_sets.specs.declared.limits.TheConstants.{AXIS_LIMIT, CHANNEL_LIMIT, ZONE_LIMIT}
use Rattle.job_lines.specs.declared.limits.TheConstants.{BUDGET_LIMIT, DEPTH_LIMIT, EDGE_LIMIT, MARGIN_LIMIT, PROGRAM_LIMIT, TOOL_LIMIT}
use Rattle.micro_units.specs.Position.{IsPosition}
use Rattle.tool_offsets.specs.Tools.{AreSound}
use Rattle.tool_offsets.specs.declared.tools.ToolEdge.{ToolEdge}

-- the channel has a CHANNEL line
abbrev pub IsDeclared : JobView → ℕ → Type 0
IsDeclared job channel = Any (λ line. line.channel ≡ channel) job.channels

abbrev pub HaveOtherNames : AxisLine → AxisLine → Type 0
HaveOtherNames line other = line.letter ≡ other.letter → line.number ≢ other.number

-- two lines of one channel have other slots and other axes
abbrev pub HaveOtherSlots : GeoLine → GeoLine → Type 0
HaveOtherSlots line other = line.channel ≡ other.channel → (line.slot ≢ other.slot) × (line.axis ≢ other.axis)

-- two lines give the offsets of other channels, words or slots
abbrev pub HaveOtherPlaces : OffsetLine → OffsetLine → Type 0
HaveOtherPlaces line other = line.channel ≡ other.channel → line.g ≡ other.g → line.slot ≢ other.slot

-- the words of settable offsets but G500, which has none: G54 to G57 and G505 to G599
abbrev pub IsSettable : ℕ → Type 0
IsSettable g = ((54 ≤ g) × (g ≤ 57)) ⊎ ((505 ≤ g) × (g ≤ 599))

-- an offset of a declared channel
pub record IsSoundOffset (job : JobView) (line : OffsetLine) : Type 0 where
  pub declared : IsDeclared job line.channel
  pub word : IsSettable line.g
  pub slot : line.slot < 3
  pub by : IsPosition line.by

-- a side stands still, or an axis of the job carries it that has this owner, or is free where this is none
abbrev pub IsCarriedBy : JobView → Option ℕ → Side → Type 0
IsCarriedBy job owner side = IfSome side.carrier (λ carrier. (carrier.0 < length job.axes) × (first_owner job carrier.0 ≡ owner))

-- no axis carries both sides
abbrev pub HaveOtherCarriers : Side → Side → Type 0
HaveOtherCarriers side other = IfSome side.carrier (λ carrier. IfSome other.carrier (λ second. carrier.0 ≢ second.0))

-- the range of a side
pub record IsSoundRange (lo hi : ℤ) : Type 0 where
  pub ordered : lo ≤ℤ hi
  pub low : IsPosition lo
  pub high : IsPosition hi

-- a zone with a number and a group from 1 to 32, and three directions, carried by different axes of its holder, or by free ones where it is held free
pub record IsSoundZone (job : JobView) (zone : ZoneLine) : Type 0 where
  pub low_number : 1 ≤ zone.zone
  pub high_number : zone.zone ≤ ZONE_LIMIT
  pub low_group : 1 ≤ zone.group
  pub high_group : zone.group ≤ ZONE_LIMIT
  pub held : IfSome zone.holder (IsDeclared job)
  pub directions : length zone.sides ≡ 3
  pub carried : All (IsCarriedBy job zone.holder) zone.sides
  pub carriers : AllPairs HaveOtherCarriers zone.sides
  pub ranges : All (λ side. IsSoundRange side.lo side.hi) zone.sides

-- an edge of a tool whose numbers are in their ranges, and whose lengths are positions
pub record IsSoundEdge (line : ToolEdge) : Type 0 where
  pub tool : line.tool ≤ TOOL_LIMIT
  pub edge : line.edge ≤ EDGE_LIMIT
  pub x : IsPosition line.lengths.x
  pub z : IsPosition line.lengths.z

-- the tools of a declared channel: they have an edge, each tool and edge is given once, and neither is numbered 0
pub record AreSoundTools (job : JobView) (tools : ℕ × List ToolEdge) : Type 0 where
  pub declared : IsDeclared job tools.0
  pub some : 0 < length tools.1
  pub once : AreSound tools.1
  pub edges : All IsSoundEdge tools.1

-- 0 to 1,000 millimetres
abbrev pub IsSoundMargin : ℤ → Type 0
IsSoundMargin margin = (pos 0 ≤ℤ margin) × (margin ≤ℤ MARGIN_LIMIT)

-- each CHANNEL line that starts its channel selects a program, each that is selected is in the library, and the structures of each program match
pub record IsSoundJob (job : JobView) : Type 0 where
  pub channel_numbers : AllPairs (λ line other. line.channel ≢ other.channel) job.channels
  pub low_channels : All (λ line. 1 ≤ line.channel) job.channels
  pub high_channels : All (λ line. line.channel ≤ CHANNEL_LIMIT) job.channels
  pub selecting : All (λ line. line.starts ≡ true → IsSome line.program) job.channels
  pub selected : All (λ line. IfSome line.program (λ name. Any (λ program. program.0 ≡ name) job.programs)) job.channels
  pub few_axes : length job.axes ≤ AXIS_LIMIT
  pub axis_names : AllPairs HaveOtherNames job.axes
  pub owners : All (λ line. IfSome line.owner (IsDeclared job)) job.axes
  pub positions : All (λ line. IsPosition line.at) job.axes
  pub slot_numbers : AllPairs HaveOtherSlots job.geo
  pub slot_axes : All (λ g. g.axis < length job.axes) job.geo
  pub offset_places : AllPairs HaveOtherPlaces job.offsets
  pub offsets : All (IsSoundOffset job) job.offsets
  pub zone_numbers : AllPairs (λ zone other. zone.zone ≢ other.zone) job.zones
  pub zones : All (IsSoundZone job) job.zones
  pub margin : IsSoundMargin job.margin
  pub depth : job.depth ≤ DEPTH_LIMIT
  pub budget : (1 ≤ job.budget) × (job.budget ≤ BUDGET_LIMIT)
  pub tool_channels : AllPairs (λ tools other. tools.0 < other.0) job.tools
  pub tools : All (AreSoundTools job) job.tools
  pub few_programs : length job.programs ≤ PROGRAM_LIMIT
  pub program_names : AllPairs (λ program other. program.0 ≢ other.0) job.programs
  pub programs : All (λ program. IsNested program.1.blocks) job.programs

-- each block of a program fits the names of the variables of the program
abbrev pub BlocksFit : JobView → Type 0
BlocksFit job = All (λ program. All (λ block. StatementFits (names_of program.1.blocks) block.1.statement) program.1.blocks) job.programs
