-- Law. Who still waits when a run is over waits for something that is missing.
use Rattle.std.specs.Prelude.{◌≡◌, ℕ, ◌<◌, ◌≤◌, ◌==◌, true, false, List}
use Rattle.axis_sets.specs.declared.limits.TheConstants.{CHANNEL_PLACES}
use Rattle.sync_types.specs.Boards.{Hold, AtMarks, AtEnds, AtAxes, IsHolding, OwnedBy, Board, among, first_board, has_ended}
use Rattle.sync_types.specs.Runs.{ComesFrom}
use Rattle.sync_types.specs.Turns.{after_entries}
use Rattle.sync_types.specs.Views.{RunView, StartView}

-- another channel of those named has not raised its mark
pub record LacksMark (b : Board) (c number : ℕ) (named : List ℕ) : Type 0 where
  pub other : ℕ
  pub is_named : among named other ≡ true
  pub is_other : (other == c) ≡ false
  pub is_low : b.marks other number ≡ false

-- the program of one of those named has not ended
pub record LacksEnd (b : Board) (named : List ℕ) : Type 0 where
  pub other : ℕ
  pub is_named : among named other ≡ true
  pub runs_on : has_ended (b.state other) ≡ false

-- another channel owns one of these axes
pub record LacksAxis (b : Board) (c : ℕ) (axes : List ℕ) : Type 0 where
  pub axis : ℕ
  pub owner : ℕ
  pub is_asked : among axes axis ≡ true
  pub is_owned : b.axis axis ≡ OwnedBy owner
  pub is_other : (owner == c) ≡ false

-- what is missing of that for which a channel waits
abbrev pub Lacks : Board → ℕ → Hold → Type 0
Lacks b c (AtMarks number named) = LacksMark b c number named
Lacks b c (AtEnds named) = LacksEnd b named
Lacks b c (AtAxes from_standing axes) = LacksAxis b c axes

-- a channel that waits when a run is over lacks something
abbrev pub WhoWaitsLacks : StartView → RunView → ℕ → Hold → ℕ → Type 0
WhoWaitsLacks start run c hold line = ComesFrom start run → 1 ≤ c → c < CHANNEL_PLACES
    → (after_entries (first_board start) run.entries).state c ≡ IsHolding hold line → Lacks (after_entries (first_board start) run.entries) c hold
