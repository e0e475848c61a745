-- Meaning. One step of a channel on the board, and the replay of many.
use Rattle.std.specs.Prelude.{◌≡◌, ℕ, ◌∷◌, [], true, List, map}
use Rattle.sync_types.specs.BoardActions.{after_own_part, channels_started}
use Rattle.sync_types.specs.BoardAlarms.{alarm_of}
use Rattle.sync_types.specs.Boards.{Board, is_running}
use Rattle.sync_types.specs.GoingOn.{Going, go_of, goings_on, after_goings}
use Rattle.sync_types.specs.Views.{EntryView}
use Rattle.sync_types.specs.declared.Step.{Step}

-- who goes on in the step, and the board after it
abbrev pub goings_in_step : Board → ℕ → Step → List Going
goings_in_step b c step = goings_on (after_own_part b c step) (channels_started (alarm_of b c step.action) step.action)

abbrev pub after_step : Board → ℕ → Step → Board
after_step b c step = after_goings (after_own_part b c step)

-- the entry of the step
abbrev pub entry_of : Board → ℕ → Step → EntryView
entry_of b c step = record { channel = c; step = step; goes = map go_of (goings_in_step b c step) }

-- a step of a channel
pub record Move : Type 0 where
  pub channel : ℕ
  pub step : Step

-- the board after these steps, and their entries
abbrev pub after_moves : Board → List Move → Board
after_moves b [] = b
after_moves b (m ∷ ms) = after_moves (after_step b m.channel m.step) ms

abbrev pub entries_of : Board → List Move → List EntryView
entries_of b [] = []
entries_of b (m ∷ ms) = entry_of b m.channel m.step ∷ entries_of (after_step b m.channel m.step) ms

-- each step is one of a channel that runs then
abbrev pub AreOfRunning : Board → List Move → Type 0
AreOfRunning b [] = Unit {0}
AreOfRunning b (m ∷ ms) = (is_running (b.state m.channel) ≡ true) × AreOfRunning (after_step b m.channel m.step) ms

-- the board after these entries
abbrev pub after_entries : Board → List EntryView → Board
after_entries b [] = b
after_entries b (e ∷ es) = after_entries (after_step b e.channel e.step) es

-- each entry is of a channel that runs then, and says who goes on and with what
abbrev pub AreEntries : Board → List EntryView → Type 0
AreEntries b [] = Unit {0}
AreEntries b (e ∷ es) = (is_running (b.state e.channel) ≡ true) × (e ≡ entry_of b e.channel e.step) × AreEntries (after_step b e.channel e.step) es
