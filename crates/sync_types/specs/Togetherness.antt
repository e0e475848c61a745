-- Meaning. Each axis has one owner or is free, and the axes of a zone have its holder or are free with it.
use Rattle.std.specs.Prelude.{◌≡◌, ℕ, true, List, Some, All}
use Rattle.axis_sets.specs.Sets.{has}
use Rattle.sync_types.specs.Boards.{Board, owner_of, first_board}
use Rattle.sync_types.specs.Starts.{has_channel, axes_of_zone, IsSound}
use Rattle.sync_types.specs.Turns.{Move, after_moves}
use Rattle.sync_types.specs.Views.{StartView}

-- By its type an axis of the board is owned by one channel or free at one position. An owner is a channel of
-- the machine, and each axis of a zone has the zone's holder as its owner, or none where the zone has none.
pub record AreTogether (b : Board) : Type 0 where
  pub owners : (x c : ℕ) → owner_of (b.axis x) ≡ Some c → has_channel b.start c ≡ true
  pub zones : (z x : ℕ) → has (axes_of_zone b.start z) x ≡ true → owner_of (b.axis x) ≡ b.holder z

-- all steps are of channels of the machine
abbrev pub AreOfChannels : StartView → List Move → Type 0
AreOfChannels start moves = All (λ m. has_channel start m.channel ≡ true) moves

-- it is so at a sound start, and after any steps
abbrev pub StaysTogether : StartView → List Move → Type 0
StaysTogether start moves = IsSound start → AreOfChannels start moves → AreTogether (after_moves (first_board start) moves)
