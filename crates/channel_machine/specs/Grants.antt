-- Meaning. With which grants a channel of a job can go on.
use Rattle.std.specs.Prelude.{ℕ, ◌==◌, ◌&&◌, ◌||◌, not, nat_lt, Bool, true, false, List, length, is_some, Option, Some, None}
use Rattle.std.specs.List.{list_all, list_any, range_with_len}
use Rattle.std.specs.Option.{option_map_or}
use Rattle.axis_sets.specs.Positions.{position_of}
use Rattle.axis_sets.specs.Sets.{has}
use Rattle.axis_sets.specs.declared.limits.TheConstants.{AXIS_LIMIT, ZONE_LIMIT}
use Rattle.channel_machine.specs.Coordination.{has_all_of}
use Rattle.channel_machine.specs.Kept.{StateView}
use Rattle.job_types.specs.Job.{JobView}
use Rattle.job_types.specs.declared.job.ZoneLine.{ZoneLine}
use Rattle.micro_units.specs.Position.{is_position}
use Rattle.sync_types.specs.declared.Grant.{Grant}

-- the grant gives the channel the axis, or says where it stands
abbrev pub names_axis : Grant → ℕ → Bool
names_axis grant axis = has grant.axes axis || is_some (position_of grant.at axis)

-- an axis that the channel owns; it owns none before its start
abbrev pub is_owned_in : Option StateView → ℕ → Bool
is_owned_in None axis = false
is_owned_in (Some local) axis = has local.axes axis

-- it is known where an axis of the grant stands: the grant says it, or the channel owns the axis already
abbrev pub is_placed : Option StateView → Grant → ℕ → Bool
is_placed local grant axis = not (has grant.axes axis) || (is_some (position_of grant.at axis) || is_owned_in local axis)

-- an axis that is named is one of the job, its position is in range, and it is known where it stands
abbrev pub is_axis_fit : JobView → Option StateView → Grant → ℕ → Bool
is_axis_fit job local grant axis =
    (not (names_axis grant axis) || nat_lt axis (length job.axes)) && (option_map_or is_position (position_of grant.at axis) true && is_placed local grant axis)

-- no axis of these carries the direction
abbrev pub is_side_apart : List Bool → Option (ℕ × Bool) → Bool
is_side_apart axes None = true
is_side_apart axes (Some carrier) = not (has axes carrier.0)

-- no axis of a zone is among these
unfoldable pub has_none_of : List Bool → ZoneLine → Bool
has_none_of axes zone = list_all (λ side. is_side_apart axes side.carrier) zone.sides

-- a zone that is on is one of the job, and all its axes are the grant's
unfoldable pub is_zone_of : JobView → List Bool → ℕ → Bool
is_zone_of job axes number = list_any (λ zone. (zone.zone == number) && has_all_of axes zone) job.zones

abbrev pub is_zone_fit : JobView → Grant → ℕ → Bool
is_zone_fit job grant number = not (has grant.on number) || is_zone_of job grant.axes number

-- a channel starts with a program of the job's library
abbrev pub has_program : JobView → Option StateView → Option ℕ → Bool
has_program job (Some local) program = true
has_program job None None = false
has_program job None (Some place) = nat_lt place (length job.programs)

-- A grant fits a channel of the job, or where there is none yet one that starts: each axis fits that it names; it splits no zone
-- of the job; each zone fits that is on; and a channel that starts has a program.
unfoldable pub grant_fits : JobView → Option StateView → Grant → Bool
grant_fits job local grant =
    list_all (is_axis_fit job local grant) (range_with_len 0 AXIS_LIMIT)
    && (list_all (λ zone. has_all_of grant.axes zone || has_none_of grant.axes zone) job.zones
    && (list_all (is_zone_fit job grant) (range_with_len 1 ZONE_LIMIT)
    && has_program job local grant.program))
