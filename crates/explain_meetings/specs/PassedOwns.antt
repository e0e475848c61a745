-- Steps. Boxes of a zone that were looked at with all boxes of a stretch of another, and an equal one of an equal motion.
use Rattle.std.specs.Prelude.{◌≡◌, Bool, true, min, max, All, List, Option}
use Rattle.std.specs.List.{list_all, list_any}
use Rattle.explain_reach.specs.Lots.{reaches}
use Rattle.job_types.specs.Job.{JobView}
use Rattle.job_types.specs.declared.job.ZoneLine.{ZoneLine}
use Rattle.zone_stretches.specs.Cases.{place_of}
use Rattle.explain_meetings.specs.Nearest.{AreNearest}
use Rattle.explain_meetings.specs.NearSteps.{is_as_near}
use Rattle.explain_meetings.specs.declared.nearest.Near.{Near}
use Rattle.passed_boxes.specs.declared.passed.PassedBox.{PassedBox}
use Rattle.path_geometry.specs.declared.motion.Motion.{Motion}
use Rattle.zone_stretches.specs.InCovers.{ArePairsInCover}
use Rattle.zone_stretches.specs.Overlaps.{Pair}
use Rattle.zone_stretches.specs.Pieces.{boxes_in_pieces, piece_boxes}
use Rattle.zone_stretches.specs.Stretches.{StretchView}
use Rattle.swept_boxes.specs.declared.Box3.{Box3}
use Rattle.sync_types.specs.Views.{RunView}

-- a box of a zone, in a motion or standing, reaches no further into any box of a stretch of another zone than a row of their groups
unfoldable pub reaches_no_further : JobView → RunView → List Near → ZoneLine → ZoneLine → StretchView → Box3 → Option Motion → Bool
reaches_no_further job run rows zone other right cover motion =
    list_all (λ later. list_all (λ reach. list_any (is_as_near (min zone.group other.group, max zone.group other.group) reach) rows)
    (reaches (boxes_in_pieces job.margin job.depth zone.sides cover motion) (piece_boxes job run (place_of other right later)))) right.boxes

-- so do all of these
abbrev pub ArePassed : JobView → RunView → List Near → ZoneLine → ZoneLine → StretchView → List PassedBox → Type 0
ArePassed job run rows zone other right passed = All (λ box. reaches_no_further job run rows zone other right box.cover box.motion ≡ true) passed

-- the nearest of some pairs, and boxes that may be passed over, as long as the boxes by which the pairs are compared lie in their covers
abbrev pub AreLookedAt : JobView → RunView → ZoneLine → ZoneLine → StretchView → List Pair → List Near → List PassedBox → Type 0
AreLookedAt job run zone other right pairs rows passed = ArePairsInCover job run pairs → AreNearest job run pairs rows × ArePassed job run rows zone other right passed
