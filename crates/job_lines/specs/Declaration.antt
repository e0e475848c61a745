-- Meaning. What a job line says by itself, from its words in upper case, where channels have numbers up to the greatest. The number of words and the options come before the forms.
use Rattle.std.specs.Prelude.{ℕ, Bool, true, false, ◌||◌, if◌then◌else◌, ◌==◌, nat_le, int_le, codes, List, [], ◌∷◌, Result, Ok, Err, Option, Some, None}
use Rattle.std.specs.List.{list_any}
use Rattle.std.specs.Option.{option_and_then}
use Rattle.std.specs.Str.{bytes_eq}
use Rattle.job_lines.specs.declared.code.Code.{Code}
use Rattle.job_lines.specs.declared.code.Code.TheVariants.{UnknownJobLine, OutOfRange, DeclaredTwice}
use Rattle.job_lines.specs.declared.declaration.AxisName.{AxisName}
use Rattle.job_lines.specs.declared.declaration.NamedSide.{NamedSide}
use Rattle.job_lines.specs.declared.declaration.ZoneHead.{ZoneHead}
use Rattle.job_lines.specs.declared.declaration.Declaration.{Declaration}
use Rattle.job_lines.specs.declared.declaration.Declaration.TheVariants.{Channel, Axis, Geo, Offset, Zone, Tool}
use Rattle.nc_expressions.specs.NameTexts.{name_of}
use Rattle.job_lines.specs.Code.{◌>>=◌, or_code}
use Rattle.job_lines.specs.Numbers.{number_within}
use Rattle.job_lines.specs.Length.{length_of}
use Rattle.job_lines.specs.OptionLines.{option_declaration_of}
use Rattle.job_lines.specs.ToolLines.{given_edge_of}
use Rattle.job_lines.specs.declared.tool_lines.GivenEdge.{GivenEdge}
use Rattle.axis_sets.specs.declared.limits.TheConstants.{ZONE_LIMIT}

-- a channel, up to the greatest
unfoldable pub channel_of : ℕ → List ℕ → Result ℕ Code
channel_of greatest word = or_code OutOfRange (number_within 1 greatest word)

-- a zone, or a group
unfoldable pub zone_of : List ℕ → Result ℕ Code
zone_of word = or_code OutOfRange (number_within 1 ZONE_LIMIT word)

-- one of the letters of axes, and a number from 1 to 99
unfoldable pub axis_name_of : List ℕ → Result AxisName Code
axis_name_of [] = Err OutOfRange
axis_name_of (letter ∷ digits) =
    if list_any (λ byte. byte == letter) (codes "ABCUVWXYZ")
    then or_code OutOfRange (number_within 1 99 digits) >>= (λ number. Ok (record { letter = letter; number = number }))
    else Err OutOfRange

-- the owner of an axis and the holder of a zone: a channel, or none where it is free
unfoldable pub owner_of : ℕ → List ℕ → Result (Option ℕ) Code
owner_of greatest word = if bytes_eq word (codes "FREE") then Ok None else channel_of greatest word >>= (λ channel. Ok (Some channel))

unfoldable pub slot_of : List ℕ → Result ℕ Code
slot_of word =
    if bytes_eq word (codes "X") then Ok 0
    else if bytes_eq word (codes "Y") then Ok 1
    else if bytes_eq word (codes "Z") then Ok 2
    else Err OutOfRange

-- the G words of settable offsets that a line can give: G54 to G57 and G505 to G599
abbrev pub settable_code : ℕ → Option ℕ
settable_code number = if nat_le number 57 || nat_le 505 number then Some number else None

unfoldable pub g_of : List ℕ → Result ℕ Code
g_of [] = Err OutOfRange
g_of (letter ∷ digits) = if letter == 71 then or_code OutOfRange (option_and_then settable_code (number_within 54 599 digits)) else Err OutOfRange

-- the name after a carrier's sign
abbrev pub signed_name_of : Bool → List ℕ → Result (Option (AxisName × Bool)) Code
signed_name_of minus name = axis_name_of name >>= (λ axis. Ok (Some (axis, minus)))

abbrev pub minus_carrier_of : List ℕ → Result (Option (AxisName × Bool)) Code
minus_carrier_of [] = Ok None
minus_carrier_of (byte ∷ name) = signed_name_of true (byte ∷ name)

-- a carrier: '-' alone, or an axis after '+' or '-'
unfoldable pub carrier_of : List ℕ → Result (Option (AxisName × Bool)) Code
carrier_of [] = Err OutOfRange
carrier_of (sign ∷ name) =
    if sign == 45 then minus_carrier_of name
    else if sign == 43 then signed_name_of false name
    else Err OutOfRange

unfoldable pub named_side_of : List ℕ → List ℕ → List ℕ → Result NamedSide Code
named_side_of carrier lo hi = do
  carrier ← carrier_of carrier
  lo ← length_of lo
  hi ← length_of hi
  if int_le lo hi then Ok (record { carrier = carrier; lo = lo; hi = hi }) else Err OutOfRange

-- a channel, with a program or none, that starts running or not
unfoldable pub channel_declaration_of : ℕ → List ℕ → Option (List ℕ) → Bool → Result Declaration Code
channel_declaration_of greatest channel program starts = channel_of greatest channel >>= (λ number. Ok (Channel number program starts))

unfoldable pub starting_declaration_of : ℕ → List ℕ → List ℕ → List ℕ → Result Declaration Code
starting_declaration_of greatest channel program start =
    if bytes_eq start (codes "START") then channel_declaration_of greatest channel (Some (name_of program)) true else Err UnknownJobLine

unfoldable pub channel_line : ℕ → List (List ℕ) → Result Declaration Code
channel_line greatest (channel ∷ []) = channel_declaration_of greatest channel None false
channel_line greatest (channel ∷ program ∷ []) = channel_declaration_of greatest channel (Some (name_of program)) false
channel_line greatest (channel ∷ program ∷ start ∷ []) = starting_declaration_of greatest channel program start
channel_line greatest args = Err UnknownJobLine

unfoldable pub axis_declaration_of : ℕ → List ℕ → List ℕ → List ℕ → Result Declaration Code
axis_declaration_of greatest name owner at = do
  name ← axis_name_of name
  owner ← owner_of greatest owner
  at ← length_of at
  Ok (Axis name owner at)

unfoldable pub axis_line : ℕ → List (List ℕ) → Result Declaration Code
axis_line greatest (name ∷ owner ∷ at ∷ []) = axis_declaration_of greatest name owner at
axis_line greatest args = Err UnknownJobLine

unfoldable pub geo_declaration_of : ℕ → List ℕ → List ℕ → List ℕ → Result Declaration Code
geo_declaration_of greatest channel slot axis = do
  channel ← channel_of greatest channel
  slot ← slot_of slot
  axis ← axis_name_of axis
  Ok (Geo channel slot axis)

unfoldable pub geo_line : ℕ → List (List ℕ) → Result Declaration Code
geo_line greatest (channel ∷ slot ∷ axis ∷ []) = geo_declaration_of greatest channel slot axis
geo_line greatest args = Err UnknownJobLine

unfoldable pub offset_declaration_of : ℕ → List ℕ → List ℕ → List ℕ → List ℕ → Result Declaration Code
offset_declaration_of greatest channel g slot length = do
  channel ← channel_of greatest channel
  g ← g_of g
  slot ← slot_of slot
  by ← length_of length
  Ok (Offset channel g slot by)

unfoldable pub offset_line : ℕ → List (List ℕ) → Result Declaration Code
offset_line greatest (channel ∷ g ∷ slot ∷ length ∷ []) = offset_declaration_of greatest channel g slot length
offset_line greatest args = Err UnknownJobLine

-- whether a zone is on
unfoldable pub state_of : List ℕ → Result Bool Code
state_of word =
    if bytes_eq word (codes "ON") then Ok true
    else if bytes_eq word (codes "OFF") then Ok false
    else Err UnknownJobLine

-- a zone by its number, its group, its holder and its state, without its directions
unfoldable pub zone_head_of : ℕ → List ℕ → List ℕ → List ℕ → List ℕ → Result ZoneHead Code
zone_head_of greatest zone group holder state = do
  on ← state_of state
  zone ← zone_of zone
  group ← zone_of group
  holder ← owner_of greatest holder
  Ok (record { zone = zone; group = group; holder = holder; on = on })

-- a zone with its directions along X, Y and Z, or the first code of these
unfoldable pub zone_declaration_of : Result ZoneHead Code → Result NamedSide Code → Result NamedSide Code → Result NamedSide Code → Result Declaration Code
zone_declaration_of head x y z = do
  head ← head
  x ← x
  y ← y
  z ← z
  Ok (Zone (record { zone = head.zone; group = head.group; holder = head.holder; on = head.on; x = x; y = y; z = z }))

unfoldable pub zone_line : ℕ → List (List ℕ) → Result Declaration Code
zone_line greatest (zone ∷ group ∷ holder ∷ state ∷ cx ∷ lx ∷ hx ∷ cy ∷ ly ∷ hy ∷ cz ∷ lz ∷ hz ∷ []) =
    zone_declaration_of (zone_head_of greatest zone group holder state) (named_side_of cx lx hx) (named_side_of cy ly hy) (named_side_of cz lz hz)
zone_line greatest args = Err UnknownJobLine

-- an edge of a tool of a channel
unfoldable pub tool_declaration_of : Result ℕ Code → Result GivenEdge Code → Result Declaration Code
tool_declaration_of channel edge = do
  channel ← channel
  edge ← edge
  Ok (Tool channel edge)

unfoldable pub tool_line : ℕ → List (List ℕ) → Result Declaration Code
tool_line greatest (channel ∷ tool ∷ edge ∷ x ∷ z ∷ []) = tool_declaration_of (channel_of greatest channel) (given_edge_of tool edge x z)
tool_line greatest args = Err UnknownJobLine

-- a second job line
unfoldable pub job_line : List (List ℕ) → Result Declaration Code
job_line (version ∷ []) = Err DeclaredTwice
job_line args = Err UnknownJobLine

-- what a job line says, where channels have numbers up to the greatest: its first word, and the others
unfoldable pub declaration_of : ℕ → List ℕ → List (List ℕ) → Result Declaration Code
declaration_of greatest kind args =
    if bytes_eq kind (codes "CHANNEL") then channel_line greatest args
    else if bytes_eq kind (codes "AXIS") then axis_line greatest args
    else if bytes_eq kind (codes "GEO") then geo_line greatest args
    else if bytes_eq kind (codes "OFFSET") then offset_line greatest args
    else if bytes_eq kind (codes "ZONE") then zone_line greatest args
    else if bytes_eq kind (codes "TOOL") then tool_line greatest args
    else if bytes_eq kind (codes "JOB") then job_line args
    else option_declaration_of kind args
