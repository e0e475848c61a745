-- Meaning. Arcs by their centre and by their radius: the motion that each gives, or its alarm.
use Rattle.std.specs.Prelude.{ℕ, ℤ, pos, negsuc, neg_ℤ, ◌+◌, ◌-◌, ◌*◌, ◌/◌, ◌==◌, nat_lt, min, max, ◌+ℤ◌, ◌-ℤ◌, Bool, true, false, not, ◌&&◌, ◌||◌, if◌then◌else◌, unsigned_abs, Option, Some, None, Result, Ok, Err}
use Rattle.micro_units.specs.Root.{floor_root, ceil_root}
use Rattle.number_laws.specs.Floors.{floor_div}
use Rattle.path_geometry.specs.Ends.{EndsView, start_of, end_of}
use Rattle.path_geometry.specs.Vectors.{Vector, square, is_one_way}
use Rattle.path_geometry.specs.declared.motion.Arc.{Arc}
use Rattle.path_geometry.specs.declared.motion.Motion.{Motion}
use Rattle.path_geometry.specs.declared.motion.Motion.TheVariants as Kind
use Rattle.micro_units.specs.Position.{is_position}
use Rattle.fault_codes.specs.declared.alarms.TheConstants.{OUT_OF_RANGE, RADIUS_DIFFERS, ARC_DEGENERATE, RADIUS_TOO_SMALL}

-- the start and the end in the plane of two axes, seen from a centre
abbrev pub start_about : EndsView → ℕ → ℕ → ℤ × ℤ → Vector
start_about ends first second centre = record { u = start_of ends first -ℤ centre.0; v = start_of ends second -ℤ centre.1 }

abbrev pub end_about : EndsView → ℕ → ℕ → ℤ × ℤ → Vector
end_about ends first second centre = record { u = end_of ends first -ℤ centre.0; v = end_of ends second -ℤ centre.1 }

-- the same of an arc
abbrev pub start_seen : Arc → Vector
start_seen arc = start_about arc.ends arc.first arc.second arc.centre

abbrev pub end_seen : Arc → Vector
end_seen arc = end_about arc.ends arc.first arc.second arc.centre

-- the way in the plane from the start to the end
abbrev pub way_of : EndsView → ℕ → ℕ → Vector
way_of ends first second = record { u = end_of ends first -ℤ start_of ends first; v = end_of ends second -ℤ start_of ends second }

-- the arc about a centre: its radii hold its start and its end, and this room on either side; with no way to go it is a whole turn
unfoldable pub arc_with : EndsView → ℕ → ℕ → ℤ × ℤ → ℕ → Arc
arc_with ends first second centre room = record {
  ends = ends;
  first = first;
  second = second;
  centre = centre;
  inner = floor_root (min (square (start_about ends first second centre)) (square (end_about ends first second centre))) - room;
  outer = ceil_root (max (square (start_about ends first second centre)) (square (end_about ends first second centre))) + room;
  full = square (way_of ends first second) == 0;
}

-- an answer, unless there is an alarm before it
abbrev pub unless_alarm : Option ℕ → Result Motion ℕ → Result Motion ℕ
unless_alarm None answer = answer
unless_alarm (Some alarm) answer = Err alarm

-- the start or the end is the centre
abbrev pub has_no_radius : Vector → Vector → Bool
has_no_radius s e = (square s == 0) || (square e == 0)

-- two radii differ by more than 10, said of their squares
abbrev pub differ : ℕ → ℕ → Bool
differ greater lesser = nat_lt 100 (greater - lesser) && nat_lt (400 * lesser) ((greater - lesser - 100) * (greater - lesser - 100))

-- the alarm of an arc by its centre, which is a whole turn or not, from s to e
unfoldable pub centre_alarm : Bool → Vector → Vector → Option ℕ
centre_alarm full s e =
    if has_no_radius s e then Some RADIUS_TOO_SMALL
    else if differ (max (square s) (square e)) (min (square s) (square e)) then Some RADIUS_DIFFERS
    else if not full && is_one_way s e then Some ARC_DEGENERATE
    else None

-- an arc by its centre
unfoldable pub arc_about : EndsView → ℕ → ℕ → ℤ × ℤ → Result Motion ℕ
arc_about ends first second centre =
    unless_alarm
    (centre_alarm (square (way_of ends first second) == 0) (start_about ends first second centre) (end_about ends first second centre))
    (Ok (Kind.Arc (arc_with ends first second centre 0)))

-- the alarm of an arc of this radius along a way
unfoldable pub radius_alarm : Vector → ℕ → Option ℕ
radius_alarm way radius =
    if square way == 0 then Some ARC_DEGENERATE
    else if (radius == 0) || nat_lt ((2 * radius + 10) * (2 * radius + 10)) (square way) then Some RADIUS_TOO_SMALL
    else None

-- a size with the sign of a number
abbrev pub with_sign : ℤ → ℕ → ℤ
with_sign (pos n) size = pos size
with_sign (negsuc n) size = neg_ℤ (pos size)

-- on the longer of the two arcs of a radius the centre lies on the other side
abbrev pub on_side : Bool → ℤ → ℤ
on_side false offset = offset
on_side true offset = neg_ℤ offset

-- how far the centre lies beside the middle of the way, twice and squared
abbrev pub height : Vector → ℕ → ℕ
height way radius = 4 * (radius * radius) - square way

-- what this gives along an axis, by the part of the way along the other axis
unfoldable pub offset : Vector → ℕ → ℤ → ℤ
offset way radius part = with_sign part (floor_root (((unsigned_abs part * unsigned_abs part) * height way radius) / square way))

-- the centre of an arc of this radius
unfoldable pub centre_of : EndsView → ℕ → ℕ → ℕ → Bool → ℤ × ℤ
centre_of ends first second radius long =
    let way = way_of ends first second in (
      floor_div ((start_of ends first +ℤ end_of ends first) -ℤ on_side long (offset way radius way.v)) 2,
      floor_div ((start_of ends second +ℤ end_of ends second) +ℤ on_side long (offset way radius way.u)) 2,
    )

-- the alarm of an arc whose centre came by its radius
unfoldable pub place_alarm : ℤ × ℤ → Vector → Vector → Option ℕ
place_alarm centre s e =
    if not (is_position centre.0 && is_position centre.1) then Some OUT_OF_RANGE
    else if has_no_radius s e then Some RADIUS_TOO_SMALL
    else None

-- the arc about such a centre
unfoldable pub arc_placed : EndsView → ℕ → ℕ → ℤ × ℤ → Result Motion ℕ
arc_placed ends first second centre =
    unless_alarm
    (place_alarm centre (start_about ends first second centre) (end_about ends first second centre))
    (Ok (Kind.Arc (arc_with ends first second centre 2)))

-- an arc by its radius, the longer one or not
unfoldable pub arc_of_radius : EndsView → ℕ → ℕ → ℕ → Bool → Result Motion ℕ
arc_of_radius ends first second radius long =
    unless_alarm (radius_alarm (way_of ends first second) radius) (arc_placed ends first second (centre_of ends first second radius long))
