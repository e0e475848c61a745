-- Steps. The compared pairs of two stretches, and the nearest so far.
use Rattle.std.specs.Prelude.{ℕ, ℤ, ◌==◌, ◌&&◌, not, Bool, if◌then◌else◌, List, [], ◌∷◌}
use Rattle.std.specs.Int.RustNames.{int_le, int_lt}
use Rattle.std.specs.List.{flat_map, list_any}
use Rattle.explain_reach.specs.Reaches.{reach_of}
use Rattle.job_types.specs.Job.{JobView}
use Rattle.job_types.specs.declared.job.ZoneLine.{ZoneLine}
use Rattle.explain_meetings.specs.Nearest.{AreNearest, groups_of}
use Rattle.explain_meetings.specs.Puts.{put_in}
use Rattle.explain_meetings.specs.declared.nearest.Near.{Near}
use Rattle.sync_types.specs.Views.{RunView}
use Rattle.zone_stretches.specs.Cases.{place_of}
use Rattle.zone_stretches.specs.InCovers.{ArePairsInCover}
use Rattle.zone_stretches.specs.Overlaps.{BoxPlace, Pair, are_compared}
use Rattle.zone_stretches.specs.Stretches.{StretchView}
use Rattle.zone_stretches.specs.declared.stretches.ZoneBox.{ZoneBox}

-- a pair, where it is compared
unfoldable pub pair_where : BoxPlace → ZoneLine → StretchView → ZoneBox → List Pair
pair_where left other right later = if are_compared left.stretch right left.box later then (left, place_of other right later) ∷ [] else []

-- a box with those of a stretch
abbrev pub pairs_by : ZoneLine → StretchView → BoxPlace → List Pair
pairs_by other right left = flat_map (pair_where left other right) right.boxes

-- the boxes of two stretches
abbrev pub pairs_in_boxes : ZoneLine → StretchView → ZoneLine → StretchView → List Pair
pairs_in_boxes zone left other right = flat_map (λ own. pairs_by other right (place_of zone left own)) left.boxes

-- of the same groups
abbrev pub same_groups : Near → Near → Bool
same_groups one other = one.groups.0 == other.groups.0 && one.groups.1 == other.groups.1

-- the one that reaches further, or the first
abbrev pub nearer : Near → Near → Near
nearer row near = if int_lt row.reach near.reach then near else row

-- two boxes take the place of those of their groups, if they reach further, or are added
abbrev pub put_near : List Near → Near → List Near
put_near rows near = put_in same_groups nearer rows near

-- ---- covers

-- the nearest of some pairs, as long as the boxes by which they are compared lie in their covers
abbrev pub AreNearestSoFar : JobView → RunView → List Pair → List Near → Type 0
AreNearestSoFar job run pairs rows = ArePairsInCover job run pairs → AreNearest job run pairs rows

-- a row of these groups that reaches as far as this
abbrev pub is_as_near : ℕ × ℕ → ℤ → Near → Bool
is_as_near groups reach row = row.groups.0 == groups.0 && row.groups.1 == groups.1 && int_le reach row.reach

-- the covers of two boxes reach further into each other than any row of their groups
abbrev pub may_be_nearer : List Near → Pair → Bool
may_be_nearer rows pair = not (list_any (is_as_near (groups_of pair) (reach_of pair.0.box.cover pair.1.box.cover)) rows)

-- and they are compared
abbrev pub may_count : List Near → BoxPlace → ZoneLine → StretchView → ZoneBox → Bool
may_count rows left other right later = are_compared left.stretch right left.box later && may_be_nearer rows (left, place_of other right later)
