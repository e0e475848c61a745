-- Steps. What a board keeps beside its entries, and for which board that stands.
use Rattle.std.specs.Prelude.{◌≡◌, ℕ, ℤ, pos, ◌<◌, ◌≤◌, ◌==◌, Bool, true, false, List, [], find, map, length, slice_index_or, Option, Some, None, is_some, if◌then◌else◌}
use Rattle.std.specs.List.{list_any}
use Rattle.std.specs.Option.{option_map_or}
use Rattle.axis_exchange.specs.Owners.{axis_state}
use Rattle.axis_exchange.specs.declared.AxisState.{AxisState}
use Rattle.axis_exchange.specs.declared.AxisState.TheVariants.{Owned, Free}
use Rattle.axis_sets.specs.Sets.{has, members_of}
use Rattle.axis_sets.specs.declared.limits.TheConstants.{AXIS_LIMIT, CHANNEL_PLACES}
use Rattle.coord_core.specs.declared.activities.Activity.{Activity}
use Rattle.coord_core.specs.declared.activities.Activity.TheVariants.{Idle, Running, AtMark, AtEnds, AtAxes, Ended, Alarmed}
use Rattle.coord_core.specs.declared.table.Table.{Table}
use Rattle.coord_core.specs.declared.zones.ZoneState.{ZoneState}
use Rattle.mark_board.specs.Marks.{has_mark}
use Rattle.axis_sets.specs.Positions.{position_of}
use Rattle.sync_types.specs.BoardActions.{others_than, position_or_zero}
use Rattle.sync_types.specs.GoingOn.{resting_position}
use Rattle.sync_types.specs.Boards.{State, IsIdle, IsRunning, IsHolding, HasEnded, HasAlarmed, AtMarks, AtEnds as awaits_ends, AtAxes as awaits_axes, Ownership, OwnedBy, FreeAt, Board, is_this}
use Rattle.sync_types.specs.Starts.{axes_of_zone, first_position, stand_once}
use Rattle.sync_types.specs.Views.{StartView}

-- what a channel does, by what is kept of it
abbrev pub state_in : ℕ → Activity → State
state_in c Idle = IsIdle
state_in c (Running grant) = IsRunning grant
state_in c (AtMark m named line) = IsHolding (AtMarks m (others_than c (members_of named))) line
state_in c (AtEnds named line) = IsHolding (awaits_ends (members_of named)) line
state_in c (AtAxes from_standing axes line) = IsHolding (awaits_axes from_standing (members_of axes)) line
state_in c (Ended line) = HasEnded line
state_in c (Alarmed alarm) = HasAlarmed alarm.code alarm.line

abbrev pub activity_at : List Activity → ℕ → Activity
activity_at channels c = slice_index_or channels c Idle

-- an axis that is not kept is free at 0
abbrev pub ownership_in : Option AxisState → Ownership
ownership_in (Some (Owned c)) = OwnedBy c
ownership_in (Some (Free position)) = FreeAt position
ownership_in None = FreeAt (pos 0)

abbrev pub zone_in : List ZoneState → ℕ → Option ZoneState
zone_in zones z = find (λ zone. zone.zone == z) zones

abbrev pub holder_in : List ZoneState → ℕ → Option ℕ
holder_in zones z = option_map_or (λ zone. zone.holder) (zone_in zones z) None

abbrev pub is_on_in : List ZoneState → ℕ → Bool
is_on_in zones z = option_map_or (λ zone. zone.on) (zone_in zones z) false

abbrev pub axes_in : List ZoneState → ℕ → List Bool
axes_in zones z = option_map_or (λ zone. zone.axes) (zone_in zones z) []

-- where an axis of a channel stood after the channel's last step, by what is kept of that step; before the first step it
-- stands where it stood at the start
abbrev pub last_position_in : StartView → Option (List (Option ℤ)) → ℕ → ℤ
last_position_in start None x = first_position start x
last_position_in start (Some at) x = position_or_zero (position_of at x)

-- the board for which this stands
abbrev pub board_in : Table → List Activity → Board
board_in table channels = record {
  start = table.start;
  marks = has_mark table.marks;
  state = λ c. state_in c (activity_at channels c);
  program = λ c. slice_index_or table.programs c None;
  last_position = λ c. last_position_in table.start (slice_index_or table.last_positions c None);
  axis = λ x. ownership_in (axis_state table.owners x);
  holder = holder_in table.zones.items;
  is_on = is_on_in table.zones.items;
}

-- where an axis stands that is free or whose owner stands
abbrev pub resting_in : Table → ℕ → ℤ
resting_in table x = resting_position (board_in table []) x (ownership_in (axis_state table.owners x))

-- each axis is kept, its owner by a number that a channel may have, each zone once, and with the axes that carry it
pub record IsTable (table : Table) : Type 0 where
  pub owners : (x : ℕ) → x < AXIS_LIMIT → is_some (axis_state table.owners x) ≡ true
  pub owner_numbers : (x c : ℕ) → axis_state table.owners x ≡ Some (Owned c) → (1 ≤ c) × (c < CHANNEL_PLACES)
  pub zones_once : stand_once (map (λ zone. zone.zone) table.zones.items) ≡ true
  pub zone_axes : (z : ℕ) → axes_in table.zones.items z ≡ axes_of_zone table.start z

-- a zone after a step of a channel that says which of its zones are on
abbrev pub zone_after_step : ℕ → List Bool → ZoneState → ZoneState
zone_after_step c on zone = record { zone = zone.zone; axes = zone.axes; holder = zone.holder; on = if is_this zone.holder c then has on zone.zone else zone.on }

-- one of these axes carries a zone
abbrev pub shares : List Bool → List Bool → Bool
shares carrying axes = list_any (has carrying) (members_of axes)

-- a zone after these axes have got this owner, or none
abbrev pub zone_handed : List Bool → Option ℕ → ZoneState → ZoneState
zone_handed axes holder zone = record { zone = zone.zone; axes = zone.axes; holder = if shares zone.axes axes then holder else zone.holder; on = zone.on }

-- as a start state has it
abbrev pub zone_at_start : (ℕ × List Bool × Option ℕ × Bool) → ZoneState
zone_at_start line = record { zone = line.0; axes = line.1; holder = line.2; on = line.3 }

-- the set has of the channels exactly those that pass
pub record HasPassing (set : List Bool) (passes : ℕ → Bool) : Type 0 where
  pub channels : (c : ℕ) → 1 ≤ c → c < CHANNEL_PLACES → has set c ≡ passes c
  pub none : has set 0 ≡ false
  pub size : length set ≡ CHANNEL_PLACES
