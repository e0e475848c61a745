use Rattle.std.proofs.Common.{◌≡◌, ℕ, ◌<◌, ◌≤◌}
use Rattle.coord_core.specs.Tables.{activity_at, state_in}
use Rattle.coord_core.specs.declared.activities.Activity.TheVariants.{Idle}
use Rattle.sync_types.specs.Boards.{first_state}
use Rattle.coord_core.proofs.start.first_activities.Given as goal

abbrev pub invariant-loop-number : goal.invariant-loop-number
invariant-loop-number l =
    ((c : ℕ) → 1 ≤ c → c < l.number → state_in c (activity_at l.channels c) ≡ first_state l.table.start c)
    × ((c : ℕ) → l.number ≤ c → activity_at l.channels c ≡ Idle)
    × (activity_at l.channels 0 ≡ Idle)
