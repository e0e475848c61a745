-- Law. What others leave of a channel that runs, and what a look tells.
use Rattle.std.specs.Prelude.{◌≡◌, ◌≢◌, ℕ, true, List, [], Some}
use Rattle.coord_core.specs.Desks.{SeesOn, own_entries}
use Rattle.coord_core.specs.Histories.{History, board_of, runs, answer_of}
use Rattle.coord_core.specs.declared.outcome.Outcome.TheVariants.{Granted, Closed, NoMemory}
use Rattle.sync_types.specs.Boards.{Board, is_running, grant_in}
use Rattle.sync_types.specs.Turns.{after_entries}
use Rattle.sync_types.specs.Views.{StartView, EntryView}
use Rattle.sync_types.specs.declared.Grant.{Grant}

-- a channel that runs stays as it is, with its grant, while others make steps
abbrev pub RunsOn : Board → ℕ → List EntryView → Type 0
RunsOn b c entries = is_running (b.state c) ≡ true → own_entries c entries ≡ [] → (after_entries b entries).state c ≡ b.state c

-- so where a pass has seen its channel run, it runs in every later history
abbrev pub IsSeenRunning : StartView → ℕ → History → History → Type 0
IsSeenRunning start c seen later = runs start seen c ≡ true → SeesOn c seen later → runs start later c ≡ true

-- a look tells Closed only of a closed board, Granted only of a channel that runs, with its grant, and never NoMemory
pub record TellsWhatIs (start : StartView) (history : History) (c : ℕ) : Type 0 where
  pub closed : answer_of start history c ≡ Some Closed → history.closed ≡ true
  pub granted : (grant : Grant) → answer_of start history c ≡ Some (Granted grant) → grant_in ((board_of start history).state c) ≡ Some grant
  pub memory : answer_of start history c ≢ Some NoMemory
