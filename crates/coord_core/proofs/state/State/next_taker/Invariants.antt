use Rattle.std.proofs.Common.{◌≡◌, ℕ, ◌<◌, ◌≤◌, false}
use Rattle.coord_core.specs.Tables.{board_in}
use Rattle.sync_types.specs.GoingOn.{can_take}
use Rattle.coord_core.proofs.state.State.next_taker.Given as goal

abbrev pub invariant-loop-number : goal.invariant-loop-number
invariant-loop-number l = (c : ℕ) → 1 ≤ c → c < l.number → can_take (board_in l.self.table l.self.channels) c ≡ false
