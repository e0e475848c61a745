-- Meaning. What a pass tells of a board, and what the calls of a desk add to that.
use Rattle.std.specs.Prelude.{◌≡◌, ℕ, ◌==◌, true, List, [], ◌++◌, filter, Option, Some, None}
use Rattle.coord_core.specs.BoardTurns.{Brings, closed_after}
use Rattle.coord_core.specs.Histories.{History, runs, answer_of}
use Rattle.coord_core.specs.declared.outcome.Outcome.{Outcome}
use Rattle.sync_types.specs.Boards.{first_board}
use Rattle.sync_types.specs.Turns.{AreEntries}
use Rattle.sync_types.specs.Views.{StartView, EntryView}
use Rattle.sync_types.specs.declared.Step.{Step}

-- the channel of the pass, where the board started, and how the history of the board begins, as far as the pass has seen it
pub record Told : Type 0 where
  pub channel : ℕ
  pub start : StartView
  pub seen : History

abbrev pub own_entries : ℕ → List EntryView → List EntryView
own_entries c entries = filter (λ e. e.channel == c) entries

-- a later history begins with what was seen, and what it has more is of other channels; a closed one has nothing more
pub record SeesOn (c : ℕ) (seen later : History) : Type 0 where
  pub more : List EntryView
  pub begins : later.entries ≡ seen.entries ++ more
  pub others : own_entries c more ≡ []
  pub closed : seen.closed ≡ true → later ≡ seen

-- the same pass later: its channel and its start stay, and what it has seen is lawful
pub record IsSamePass (before after : Told) : Type 0 where
  pub channel : after.channel ≡ before.channel
  pub start : after.start ≡ before.start
  pub lawful : AreEntries (first_board after.start) after.seen.entries

-- a look: the answer is that of what the pass has seen then
pub record Looks (before : Told) (answer : Option Outcome) (after : Told) : Type 0 where
  pub pass : IsSamePass before after
  pub seen : SeesOn before.channel before.seen after.seen
  pub told : answer ≡ answer_of after.start after.seen after.channel

-- a step is brought to a later history, and the pass has seen that and what became of it
pub record Acts (before : Told) (step : Step) (answer : Option Outcome) (after : Told) : Type 0 where
  pub pass : IsSamePass before after
  pub found : History
  pub seen : SeesOn before.channel before.seen found
  pub brought : Brings before.start before.channel step found answer after.seen

-- The step is brought to a history that begins with all that the pass has seen, and the answer is that of what the pass has seen
-- when the call returns: at once, or where there is none yet, of a look that follows.
pub data ActsAndWaits (before : Told) (step : Step) (outcome : Outcome) (after : Told) : Type 0 where
  AtOnce : Acts before step (Some outcome) after → ActsAndWaits before step outcome after
  Later : (between : Told) → Acts before step None between → Looks between (Some outcome) after → ActsAndWaits before step outcome after

-- a later history is closed
pub record Closes (before after : Told) : Type 0 where
  pub pass : IsSamePass before after
  pub found : History
  pub seen : SeesOn before.channel before.seen found
  pub closed : after.seen ≡ closed_after found

-- A pass may tell of the board what it has seen of it, and then a call leads from the one to the other. A pass that tells nothing tells
-- nothing later.
abbrev pub TellsOn : (Told → Told → Type 0) → Option Told → Option Told → Type 0
TellsOn R None None = Unit {0}
TellsOn R None (Some after) = ⊥
TellsOn R (Some before) None = ⊥
TellsOn R (Some before) (Some after) = R before after

-- where a pass tells, its channel runs after what it has seen
abbrev pub TellsOfRunning : Option Told → Type 0
TellsOfRunning None = Unit {0}
TellsOfRunning (Some told) = runs told.start told.seen told.channel ≡ true
