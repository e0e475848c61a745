-- A channel that runs has a grant.
use Rattle.std.proofs.Common.{◌≡◌, ℕ, true, false, Some, None, refl}
use Rattle.sync_types.proofs.BoardTests.{first_passes, no_truth}
use Rattle.sync_types.specs.Boards.{State, IsIdle, IsRunning, IsHolding, HasEnded, HasAlarmed, Board, channel_numbers, grant_in, is_running}
use Rattle.sync_types.specs.Runs.{lowest_running}
use Rattle.sync_types.specs.declared.Grant.{Grant}

pub granted_runs : (s : State) (grant : Grant) → grant_in s ≡ Some grant → is_running s ≡ true
granted_runs (IsRunning g) grant is = refl
granted_runs IsIdle grant is = absurd cc
granted_runs (IsHolding hold line) grant is = absurd cc
granted_runs (HasEnded line) grant is = absurd cc
granted_runs (HasAlarmed code line) grant is = absurd cc

-- what the board answers at the lowest running channel
pub lowest_runs : (b : Board) (c : ℕ) → lowest_running b ≡ Some c → is_running (b.state c) ≡ true
lowest_runs b c lowest = first_passes (λ d. is_running (b.state d)) channel_numbers c lowest

pub is_granted : (s : State) → is_running s ≡ true → grant_in s ≡ None → ⊥
is_granted (IsRunning grant) on none = cc
is_granted other on none = no_truth false on refl
