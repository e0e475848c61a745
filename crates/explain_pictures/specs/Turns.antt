-- Meaning. How zones turn with arcs.
use Rattle.std.specs.Prelude.{ℕ, ℤ, pos, ◌-ℤ◌, ◌==◌, Bool, if◌then◌else◌, [], ◌∷◌, Option, None, Some, slice_get}
use Rattle.std.specs.Int.{w64, saturate_signed}
use Rattle.std.specs.Option.{option_and_then, option_map, option_or}
use Rattle.job_types.specs.declared.job.ZoneLine.{ZoneLine}
use Rattle.path_geometry.specs.declared.motion.Arc.{Arc}
use Rattle.explain_views.specs.declared.shapes.Turn.{Turn}

-- the axis carries the side: whether the side goes against it
abbrev pub carried_by : ℕ → ℕ × Bool → Option Bool
carried_by axis carrier = if carrier.0 == axis then Some carrier.1 else None

-- this direction, where the axis carries it
unfoldable pub direction_at : ZoneLine → ℕ → ℕ → Option (ℕ × Bool)
direction_at zone axis direction =
    option_map (λ minus. (direction, minus)) (option_and_then (carried_by axis) (option_and_then (λ side. side.carrier) (slice_get zone.sides direction)))

-- the first direction that it carries
unfoldable pub direction_of : ZoneLine → ℕ → Option (ℕ × Bool)
direction_of zone axis = option_or (direction_at zone axis 0) (option_or (direction_at zone axis 1) (direction_at zone axis 2))

-- a position as a zone has it that goes with its axis or against it
abbrev pub signed : ℤ → Bool → ℤ
signed at minus = if minus then saturate_signed w64 (pos 0 -ℤ at) else at

-- the centre of a turn along a direction; 0 where the turn does not go along it
abbrev pub centre_along : Arc → ℕ × Bool → ℕ × Bool → ℕ → ℤ
centre_along arc first second direction =
    if second.0 == direction then signed arc.centre.1 second.1 else if first.0 == direction then signed arc.centre.0 first.1 else pos 0

-- how a zone turns with an arc whose axes carry these directions
unfoldable pub turn_along : Arc → ℕ × Bool → ℕ × Bool → Turn
turn_along arc first second = record {
  centre = centre_along arc first second 0 ∷ centre_along arc first second 1 ∷ centre_along arc first second 2 ∷ [];
  radius = arc.outer;
  first = first;
  second = second;
  full = arc.full;
}

-- it turns where it goes with both axes of the plane
unfoldable pub turn_of : ZoneLine → Arc → Option Turn
turn_of zone arc = option_and_then (λ first. option_map (turn_along arc first) (direction_of zone arc.second)) (direction_of zone arc.first)
