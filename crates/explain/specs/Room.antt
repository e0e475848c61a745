-- Meaning. How the verdict YES is said: of each two groups how near their compared boxes come, and of each two zones whether they were compared.
use Rattle.std.specs.Prelude.{◌≡◌, ℕ, List, ◌++◌}
use Rattle.std.specs.List.{flat_map}
use Rattle.job_types.specs.Job.{JobView}
use Rattle.explain_meetings.specs.Nearest.{AreNearest}
use Rattle.explain_meetings.specs.declared.nearest.Near.{Near}
use Rattle.zone_stretches.specs.Overlaps.{Pair}
use Rattle.sync_types.specs.Views.{RunView}
use Rattle.explain_places.specs.Places.{place_text}
use Rattle.explain_texts.specs.Room.{apart_of, groups_text, margin_left, room_text}
use Rattle.explain_pairs.specs.PairTexts.{pairs_text}
use Rattle.explain_pairs.specs.declared.pairs.ZonePair.{ZonePair}

-- how near two groups come to each other, and with which blocks
unfoldable pub near_text : List ℕ → JobView → RunView → Near → List ℕ
near_text input job run near =
    groups_text near.groups
    ++ (room_text (apart_of near.reach) (margin_left (apart_of near.reach)) ++ (place_text input job run near.left ++ place_text input job run near.right))

-- of each two groups, and of each two zones
unfoldable pub nears_text : List ℕ → JobView → RunView → List Near → List ZonePair → List ℕ
nears_text input job run rows zones = flat_map (near_text input job run) rows ++ pairs_text zones

-- of each two groups the two boxes of these pairs that come the nearest, and what is told of each two zones
pub record IsYesText (input : List ℕ) (job : JobView) (run : RunView) (zones : List ZonePair) (pairs : List Pair) (text : List ℕ) : Type 0 where
  pub rows : List Near
  pub nearest : AreNearest job run pairs rows
  pub told : text ≡ nears_text input job run rows zones
