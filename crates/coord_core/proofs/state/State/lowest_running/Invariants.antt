use Rattle.std.proofs.Common.{◌≡◌, ℕ, ◌<◌, ◌≤◌, false}
use Rattle.coord_core.specs.Tables.{activity_at, state_in}
use Rattle.sync_types.specs.Boards.{is_running}
use Rattle.coord_core.proofs.state.State.lowest_running.Given as goal

abbrev pub invariant-loop-number : goal.invariant-loop-number
invariant-loop-number l = (c : ℕ) → 1 ≤ c → c < l.number → is_running (state_in c (activity_at l.self.channels c)) ≡ false
