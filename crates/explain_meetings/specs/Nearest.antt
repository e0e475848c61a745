-- Meaning. The compared boxes of two groups that come nearest to each other.
use Rattle.std.specs.Prelude.{◌≡◌, ℕ, ℤ, ◌≤ℤ◌, min, max, All, Contains, List, Some}
use Rattle.std.specs.List.{Any}
use Rattle.explain_reach.specs.Lots.{IsGreatest, reaches}
use Rattle.job_types.specs.Job.{JobView}
use Rattle.explain_meetings.specs.Meetings.{told_place}
use Rattle.explain_meetings.specs.Puts.{AreApart}
use Rattle.explain_meetings.specs.declared.nearest.Near.{Near}
use Rattle.sync_types.specs.Views.{RunView}
use Rattle.zone_stretches.specs.Overlaps.{Pair}
use Rattle.zone_stretches.specs.Pieces.{piece_boxes}

-- the groups of two boxes, the lower first
abbrev pub groups_of : Pair → ℕ × ℕ
groups_of pair = (min pair.0.zone.group pair.1.zone.group, max pair.0.zone.group pair.1.zone.group)

-- how far the boxes by which they are compared reach into each other
abbrev pub pair_reaches : JobView → RunView → Pair → List ℤ
pair_reaches job run pair = reaches (piece_boxes job run pair.0) (piece_boxes job run pair.1)

-- one of some pairs, with how far it reaches, and none of them that is of the same groups reaches further
pub record IsNearest (job : JobView) (run : RunView) (pairs : List Pair) (near : Near) : Type 0 where
  pub pair : Pair
  pub among : Contains pairs pair
  pub groups : near.groups ≡ groups_of pair
  pub left : near.left ≡ told_place pair.0
  pub right : near.right ≡ told_place pair.1
  pub own : IsGreatest (Some near.reach) (pair_reaches job run pair)
  pub least : All (λ other. groups_of other ≡ near.groups → All (λ reach. reach ≤ℤ near.reach) (pair_reaches job run other)) pairs

-- for each two groups of which there is a pair one such
pub record AreNearest (job : JobView) (run : RunView) (pairs : List Pair) (rows : List Near) : Type 0 where
  pub each : All (IsNearest job run pairs) rows
  pub all : All (λ pair. Any (λ near. near.groups ≡ groups_of pair) rows) pairs
  pub once : AreApart (λ near. near.groups) rows
