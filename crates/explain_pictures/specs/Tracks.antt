-- Meaning. The ways of the points that zones travel with.
use Rattle.std.specs.Prelude.{ℕ, ℤ, pos, ◌+ℤ◌, ◌-ℤ◌, ◌==◌, Bool, true, false, List, [], ◌∷◌, find, flat_map, length, slice_get, slice_index_or, int_div, Option, None}
use Rattle.std.specs.Int.{w64, saturate_signed}
use Rattle.std.specs.List.{range_with_len}
use Rattle.std.specs.Option.{option_and_then, option_map, option_map_or, unwrap_or}
use Rattle.job_types.specs.Job.{JobView}
use Rattle.job_types.specs.Zones.{zones_in_order}
use Rattle.job_types.specs.declared.job.Side.{Side}
use Rattle.job_types.specs.declared.job.ZoneLine.{ZoneLine}
use Rattle.path_geometry.specs.Motions.{axes_of}
use Rattle.path_geometry.specs.declared.motion.Motion.{Motion}
use Rattle.path_geometry.specs.declared.motion.Motion.TheVariants.{Line, Rapid}
use Rattle.path_geometry.specs.declared.motion.Motion.TheVariants as Kind
use Rattle.zone_stretches.specs.Pieces.{motion_at}
use Rattle.zone_stretches.specs.Stretches.{StretchView}
use Rattle.explain_pictures.specs.Focus.{SceneView, is_apart}
use Rattle.zone_stretches.specs.declared.stretches.ZoneBox.{ZoneBox}
use Rattle.explain_views.specs.declared.shapes.Track.{Track}
use Rattle.explain_views.specs.declared.shapes.Turn.{Turn}
use Rattle.explain_pictures.specs.Turns.{signed, turn_of}
use Rattle.swept_boxes.specs.Boxes.{low_of, high_of}
use Rattle.sync_types.specs.Views.{RunView}

-- where the point of a side stands in a box that does not move it: at the position of its carrier, or in the middle of the box
unfoldable pub standing : Side → ℤ → ℤ → ℤ → ℤ
standing side low high margin =
    option_map_or (λ carrier. saturate_signed w64 (saturate_signed w64 (low -ℤ side.lo) +ℤ margin)) side.carrier (int_div (saturate_signed w64 (low +ℤ high)) (pos 2))

-- the start and the end of an axis in a motion, as a side has them that goes with it or against it
abbrev pub both_signed : Bool → ℕ × ℤ × ℤ → ℤ × ℤ
both_signed minus ends = (signed ends.1 minus, signed ends.2 minus)

-- where the point of a side is at the start and at the end of a motion that moves it
abbrev pub moved_by : Motion → ℕ × Bool → Option (ℤ × ℤ)
moved_by motion carrier = option_map (both_signed carrier.1) (find (λ ends. ends.0 == carrier.0) (axes_of motion))

unfoldable pub moving : Side → Motion → Option (ℤ × ℤ)
moving side motion = option_and_then (moved_by motion) side.carrier

-- where it is at the start and at the end of a box
unfoldable pub side_ends : JobView → Side → ℤ → ℤ → Motion → ℤ × ℤ
side_ends job side low high motion = unwrap_or (moving side motion) (standing side low high job.margin, standing side low high job.margin)

unfoldable pub ends_along : JobView → ZoneLine → ZoneBox → Motion → ℕ → ℤ × ℤ
ends_along job zone own motion direction =
    option_map_or (λ side. side_ends job side (low_of own.cover direction) (high_of own.cover direction) motion) (slice_get zone.sides direction) (pos 0, pos 0)

-- how the zone turns
abbrev pub turn_with : ZoneLine → Motion → Option Turn
turn_with zone (Line ends) = None
turn_with zone (Rapid ends) = None
turn_with zone (Kind.Arc arc) = turn_of zone arc

-- each axis goes by itself
abbrev pub is_rapid : Motion → Bool
is_rapid (Line ends) = false
is_rapid (Rapid ends) = true
is_rapid (Kind.Arc arc) = false

-- the way of a zone during a box
unfoldable pub track_of : JobView → ZoneLine → ℕ → ZoneBox → Motion → Track
track_of job zone channel own motion = record {
  channel = channel;
  zone = zone.zone;
  line = own.line;
  is_rapid = is_rapid motion;
  is_pale = false;
  from = (ends_along job zone own motion 0).0 ∷ (ends_along job zone own motion 1).0 ∷ (ends_along job zone own motion 2).0 ∷ [];
  to = (ends_along job zone own motion 0).1 ∷ (ends_along job zone own motion 1).1 ∷ (ends_along job zone own motion 2).1 ∷ [];
  turn = turn_with zone motion;
}

-- a way, pale or not
abbrev pub in_tint : Bool → Track → Track
in_tint pale track = record track { is_pale = pale }

-- of a box of a stretch; none where it stands or nobody holds the zone
unfoldable pub track_at : JobView → RunView → Bool → ZoneLine → StretchView → ZoneBox → Option Track
track_at job run pale zone stretch own =
    option_and_then (λ channel. option_map (in_tint pale) (option_map (track_of job zone channel own) (motion_at run stretch.entry own.motion))) stretch.name.channel

abbrev pub tracks_of_box : JobView → RunView → Bool → ZoneLine → StretchView → ZoneBox → List Track
tracks_of_box job run pale zone stretch own = option_map_or (λ track. track ∷ []) (track_at job run pale zone stretch own) []

-- all ways of a stretch, pale where it is apart in time from what is looked at
abbrev pub tracks_of_stretch : SceneView → ZoneLine → StretchView → List Track
tracks_of_stretch scene zone stretch =
    flat_map (tracks_of_box scene.job scene.run (is_apart scene.before scene.focus stretch) zone stretch) stretch.boxes

-- all ways of the zone of a place
unfoldable pub tracks_of_zone : SceneView → ℕ → List Track
tracks_of_zone scene place =
    option_map_or (λ zone. flat_map (tracks_of_stretch scene zone) (slice_index_or scene.stretches.zones place [])) (slice_get (zones_in_order scene.job) place) []

-- all ways of all zones, in the order of their numbers
unfoldable pub all_tracks : SceneView → List Track
all_tracks scene = flat_map (tracks_of_zone scene) (range_with_len 0 (length scene.stretches.zones))
