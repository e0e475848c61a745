-- Meaning. The last entry of a channel.
use Rattle.std.specs.Prelude.{◌≡◌, ℕ, ◌<◌, ◌≤◌, List, Option, Some, None, length, slice_index_or}
use Rattle.sync_types.specs.Views.{EntryView}

-- of the entries up to and with one the entry of this place is of the channel, and no later one is
pub record IsLastAt (entries : List EntryView) (channel upto place : ℕ) : Type 0 where
  pub within : place < length entries
  pub before : place ≤ upto
  pub own : (e : EntryView) → (slice_index_or entries place e).channel ≡ channel
  pub later : (k : ℕ) (e : EntryView) → place < k → k < length entries → k ≤ upto → (slice_index_or entries k e).channel ≡ channel → ⊥

-- that place; none where none of them is of the channel
abbrev pub IsLast : List EntryView → ℕ → ℕ → Option ℕ → Type 0
IsLast entries channel upto (Some place) = IsLastAt entries channel upto place
IsLast entries channel upto None = (k : ℕ) (e : EntryView) → k < length entries → k ≤ upto → (slice_index_or entries k e).channel ≡ channel → ⊥
