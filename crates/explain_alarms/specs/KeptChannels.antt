-- Steps. What is kept of a channel after its segments.
use Rattle.std.specs.Prelude.{◌≡◌, ℕ, List}
use Rattle.channel_machine.specs.CallLevels.{alarmed_levels}
use Rattle.channel_machine.specs.Locals.{IsKeptOf}
use Rattle.job_types.specs.Job.{JobView}
use Rattle.sync_types.specs.declared.Grant.{Grant}
use Rattle.explain_alarms.specs.declared.kept.Kept.{Kept}

-- this is kept of the channel after its segments with these grants, and on these levels the last of them alarmed
pub record IsKept (job : JobView) (channel : ℕ) (grants : List Grant) (kept : Kept) : Type 0 where
  pub local : IsKeptOf job channel grants kept.local
  pub levels : kept.levels ≡ alarmed_levels job channel grants
