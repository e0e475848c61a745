-- Meaning. What the channels of a job do, as laws see it: for each channel, after the grants that it has got, the items that it
-- makes, one after another, and the step that ends them.
use Rattle.std.specs.Prelude.{ℕ, ℤ, List, [], ◌∷◌, ◌++◌, unwrap_or}
use Rattle.axis_sets.specs.Positions.{position_of}
use Rattle.job_types.specs.Axes.{start_position}
use Rattle.job_types.specs.Job.{JobView}
pub use Rattle.zone_stretches.specs.ZoneBoxes.{on_after, turned}
use Rattle.sync_types.specs.Items.{left_at}
use Rattle.sync_types.specs.Runs.{Script}
use Rattle.sync_types.specs.declared.Grant.{Grant}
use Rattle.sync_types.specs.declared.Item.{Item}

pub record Doings : Type 0 where
  pub items : ℕ → List Grant → List Item
  pub script : Script

-- ---- where axes stand

-- A channel that has got these grants, with its axes so, gets more: an axis stands where the next grant has it, or where the
-- items that came before left it.
abbrev pub stands_with : (List Grant → List Item) → List Grant → (ℕ → ℤ) → List Grant → ℕ → ℤ
stands_with items made at [] = at
stands_with items made at (grant ∷ more) =
    stands_with items (made ++ grant ∷ []) (λ axis. unwrap_or (position_of grant.at axis) (left_at (items made) at axis)) more

-- where an axis stands for a channel that has got these grants, before the items that come next: at first where the job puts it
unfoldable pub stands_before : JobView → Doings → ℕ → List Grant → ℕ → ℤ
stands_before job doings channel grants = stands_with (doings.items channel) [] (start_position job) grants

-- and after them
unfoldable pub stands_after : JobView → Doings → ℕ → List Grant → ℕ → ℤ
stands_after job doings channel grants = left_at (doings.items channel grants) (stands_before job doings channel grants)
