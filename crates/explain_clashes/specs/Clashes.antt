-- Meaning. What two boxes that meet have in common, and by what they would be apart.
use Rattle.std.specs.Prelude.{◌≡◌, ℕ, ℤ, pos, ◌==◌, ◌-ℤ◌, ◌≤ℤ◌, ◌<ℤ◌, All, List, [], ◌∷◌, map, Option, None, Some, find}
use Rattle.std.specs.Option.{option_map_or}
use Rattle.explain_reach.specs.Depths.{IsPartingDepth}
use Rattle.explain_reach.specs.Lots.{DoLotsMeet}
use Rattle.explain_reach.specs.Shapes.{HasPoint, common_box, grown_box}
use Rattle.job_types.specs.Job.{JobView}
use Rattle.explain_clashes.specs.Ways.{IsLeastWay, gives_room}
use Rattle.explain_clashes.specs.declared.clashes.Clash.{Clash}
use Rattle.zone_stretches.specs.Pieces.{boxes_in_pieces, motion_at}
use Rattle.swept_boxes.specs.declared.Box3.{Box3}
use Rattle.sync_types.specs.Views.{RunView}
use Rattle.explain_places.specs.declared.place.Meeting.{Meeting}
use Rattle.explain_places.specs.declared.place.Place.{Place}

-- the boxes by which a box of a zone would be compared, were motions halved so often
unfoldable pub boxes_at : JobView → RunView → Place → ℕ → List Box3
boxes_at job run place depth =
    option_map_or (λ zone. boxes_in_pieces job.margin depth zone.sides place.cover (motion_at run place.entry place.motion))
    (find (λ zone. zone.zone == place.name.zone) job.zones) (place.cover ∷ [])

-- at each depth that a job may have
abbrev pub boxes_by_depth : JobView → RunView → Place → List (List Box3)
boxes_by_depth job run place = map (boxes_at job run place) (0 ∷ 1 ∷ 2 ∷ 3 ∷ 4 ∷ [])

-- boxes that were made with one margin meet, were it another
abbrev pub DoMeetWith : ℤ → List Box3 → List Box3 → ℤ → Type 0
DoMeetWith margin lefts rights other = DoLotsMeet (map (grown_box (other -ℤ margin)) lefts) (map (grown_box (other -ℤ margin)) rights)

-- they have points then
abbrev pub HavePointsWith : ℤ → List Box3 → List Box3 → ℤ → Type 0
HavePointsWith margin lefts rights other = All HasPoint (map (grown_box (other -ℤ margin)) lefts) × All HasPoint (map (grown_box (other -ℤ margin)) rights)

-- the greatest margin with which they do not meet; none where they meet with each
abbrev pub IsPartingMargin : ℤ → List Box3 → List Box3 → Option ℤ → Type 0
IsPartingMargin margin lefts rights None = (other : ℤ) → pos 0 ≤ℤ other → HavePointsWith margin lefts rights other → DoMeetWith margin lefts rights other
IsPartingMargin margin lefts rights (Some greatest) =
    (pos 0 ≤ℤ greatest) × (DoMeetWith margin lefts rights greatest → ⊥)
    × ((other : ℤ) → greatest <ℤ other → HavePointsWith margin lefts rights other → DoMeetWith margin lefts rights other)

-- what both whole boxes have in common, the room that axes would have to give them, and the margin and the depth that would part their pieces
pub record IsClash (job : JobView) (run : RunView) (met : Meeting) (clash : Clash) : Type 0 where
  pub common : clash.common ≡ common_box met.left.cover met.right.cover
  pub way : IsLeastWay (gives_room job met) met.left.cover met.right.cover 3 clash.way
  pub margin : IsPartingMargin job.margin (boxes_at job run met.left job.depth) (boxes_at job run met.right job.depth) clash.margin
  pub depth : IsPartingDepth (boxes_by_depth job run met.left) (boxes_by_depth job run met.right) job.depth clash.depth
