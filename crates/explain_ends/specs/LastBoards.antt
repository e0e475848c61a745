-- Meaning. What is told of a board.
use Rattle.std.specs.Prelude.{◌≡◌, ℕ, zero, suc, ◌<◌, ◌≤◌, Bool, false, List, [], Option, Some, None, if◌then◌else◌, slice_index_or}
use Rattle.axis_sets.specs.Sets.{has}
use Rattle.axis_sets.specs.declared.limits.TheConstants.{AXIS_LIMIT, CHANNEL_PLACES}
use Rattle.order_clocks.specs.Watching.{wait_in, wait_shown}
use Rattle.explain_ends.specs.declared.boards.LastBoard.{LastBoard}
use Rattle.step_deeds.specs.declared.deed.Wakeup.{Wakeup}
use Rattle.sync_types.specs.Boards.{Board, owner_of}

-- of each channel its marks and for what it waits, and who owns each axis
pub record IsTold (told : LastBoard) (b : Board) : Type 0 where
  pub marks : (c m : ℕ) → 1 ≤ c → c < CHANNEL_PLACES → has (slice_index_or told.marks c []) m ≡ b.marks c m
  pub holds : (c : ℕ) → 1 ≤ c → c < CHANNEL_PLACES → wait_shown (slice_index_or told.holds c None) ≡ wait_in (b.state c)
  pub owners : (x : ℕ) → x < AXIS_LIMIT → slice_index_or told.owners x None ≡ owner_of (b.axis x)

-- ---- steps: who has an axis after channels have gone on

-- one that goes on takes the axis
abbrev pub took_by : Option Wakeup → ℕ → Bool
took_by (Some gone) x = has gone.took x
took_by None x = false

-- the last of the channels from 1 to this one that takes it, or who had it
abbrev pub taker_upto : List (Option Wakeup) → ℕ → ℕ → Option ℕ → Option ℕ
taker_upto goes zero x before = before
taker_upto goes (suc n) x before = if took_by (slice_index_or goes (suc n) None) x then Some (suc n) else taker_upto goes n x before
