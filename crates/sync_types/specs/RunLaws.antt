-- Law. What is so of all runs and events.
use Rattle.axis_sets.specs.declared.limits.TheConstants.{CHANNEL_LIMIT, CHANNEL_PLACES}
use Rattle.std.specs.Prelude.{◌≡◌, ℕ, ◌≤◌, true, false, List, [], length, map, filter, Some, None, is_some}
use Rattle.sync_types.specs.BoardEnds.{end_of, ends_of}
use Rattle.axis_sets.specs.Sets.{has}
use Rattle.sync_types.specs.declared.Action.{Action}
use Rattle.sync_types.specs.declared.Action.TheVariants.{Start}
use Rattle.sync_types.specs.BoardAlarms.{alarm_of}
use Rattle.sync_types.specs.GoingOn.{goers_at_once, next_taker}
use Rattle.sync_types.specs.declared.Step.{Step}
use Rattle.sync_types.specs.Boards.{Board, channel_numbers, first_board}
use Rattle.sync_types.specs.Events.{IsEvent, AreOne, IsLowestName}
use Rattle.sync_types.specs.Runs.{Script, Stage, IsMaximal, IsSequential, ComesFrom, first_stage, stage_after, moves_of, is_over}
use Rattle.sync_types.specs.Starts.{IsSound, has_channel}
use Rattle.sync_types.specs.Turns.{goings_in_step, Move, after_moves, after_entries, entries_of, AreOfRunning, AreEntries}
use Rattle.sync_types.specs.Views.{StartView}
use Rattle.sync_types.specs.declared.Item.{Item}
use Rattle.sync_types.specs.declared.runs.EventId.{EventId}

-- nobody whose wait has its end still waits
pub record NobodyCanGo (b : Board) : Type 0 where
  pub no_goer : goers_at_once b ≡ []
  pub no_taker : next_taker b ≡ None

-- an alarm lets nobody go
abbrev pub AlarmLetsNobodyGo : Board → ℕ → Step → Type 0
AlarmLetsNobodyGo b c step = NobodyCanGo b → is_some (alarm_of b c step.action) ≡ true → goings_in_step b c step ≡ []

-- START names channels, by their numbers, of which 0 is none
abbrev pub StartsChannels : Action → Type 0
StartsChannels (Start named) = (length named ≡ CHANNEL_PLACES) × (has named 0 ≡ false)
StartsChannels other = Unit {0}

-- no more channels go on in a step than there can be
abbrev pub FewGoOn : Board → ℕ → Step → Type 0
FewGoOn b c step = StartsChannels step.action → length (goings_in_step b c step) ≤ CHANNEL_LIMIT

-- the steps of a run are of running channels, and leave the run's board
pub record RunIsReplay (script : Script) (stage : Stage) (cs : List ℕ) : Type 0 where
  pub running : AreOfRunning stage.board (moves_of script stage cs)
  pub board : after_moves stage.board (moves_of script stage cs) ≡ (stage_after script stage cs).board

-- the entries of steps of running channels are lawful, and their replay leaves the board of the steps
pub record EntriesAreReplay (b : Board) (moves : List Move) : Type 0 where
  pub lawful : AreEntries b (entries_of b moves)
  pub board : after_entries b (entries_of b moves) ≡ after_moves b moves

-- a sequential run is a maximal run, and the only sequential one
pub record SequentialIsOne (script : Script) (stage : Stage) (cs ds : List ℕ) : Type 0 where
  pub maximal : IsMaximal script stage cs
  pub only : IsSequential script stage ds → cs ≡ ds

-- where no channel runs each channel of the machine has its end
abbrev pub AllHaveEnds : Board → Type 0
AllHaveEnds b = is_over b ≡ true → map Some (ends_of b) ≡ map (λ c. end_of (b.state c)) (filter (has_channel b.start) channel_numbers)

-- a maximal run from a sound start gives entries and ends that come from it
abbrev pub MaximalRunsComeFrom : Script → StartView → List ℕ → List (List Item) → Type 0
MaximalRunsComeFrom script start cs items = IsSound start → IsMaximal script (first_stage start) cs
    → ComesFrom start (record {
      entries = entries_of (first_board start) (moves_of script (first_stage start) cs);
      items = items;
      ends = ends_of (stage_after script (first_stage start) cs).board;
    })

-- to be one event is an equivalence
pub record AreOneAlike (b : Board) (moves : List Move) (e f g : EventId) : Type 0 where
  pub itself : IsEvent b moves e → AreOne b moves e e
  pub either_way : AreOne b moves e f → AreOne b moves f e
  pub onwards : AreOne b moves e f → AreOne b moves f g → AreOne b moves e g

-- an event has one lowest name
abbrev pub HasOneLowestName : Board → List Move → EventId → EventId → Type 0
HasOneLowestName b moves e f = IsLowestName b moves e → IsLowestName b moves f → AreOne b moves e f → e ≡ f
