-- Meaning. At which depth two motions no longer meet.
use Rattle.std.specs.Prelude.{ℕ, ◌<◌, List, [], length, slice_index_or, Option, None, Some}
use Rattle.explain_reach.specs.Lots.{DoLotsMeet}
use Rattle.swept_boxes.specs.declared.Box3.{Box3}

-- the boxes of the two motions meet at this depth
abbrev pub DoMeetAt : List (List Box3) → List (List Box3) → ℕ → Type 0
DoMeetAt lefts rights depth = DoLotsMeet (slice_index_or lefts depth []) (slice_index_or rights depth [])

-- the least depth above this one at which they do not
pub record IsParting (lefts rights : List (List Box3)) (depth deeper : ℕ) : Type 0 where
  pub above : depth < deeper
  pub within : deeper < length lefts
  pub parted : DoMeetAt lefts rights deeper → ⊥
  pub least : (between : ℕ) → depth < between → between < deeper → DoMeetAt lefts rights between

-- that depth; none where they meet at each
abbrev pub IsPartingDepth : List (List Box3) → List (List Box3) → ℕ → Option ℕ → Type 0
IsPartingDepth lefts rights depth None = (deeper : ℕ) → depth < deeper → deeper < length lefts → DoMeetAt lefts rights deeper
IsPartingDepth lefts rights depth (Some deeper) = IsParting lefts rights depth deeper
