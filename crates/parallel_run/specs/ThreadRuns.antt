-- Meaning. The run that the threads of a job begin.
use Rattle.std.specs.Prelude.{◌≡◌, ℕ, List, [], ◌∷◌, ◌++◌, Some}
use Rattle.channel_machine.specs.StartStates.{start_of}
use Rattle.job_types.specs.Job.{JobView}
use Rattle.parallel_run.specs.Workers.{HasStepsOfScript}
use Rattle.sync_types.specs.Boards.{Board, first_board}
use Rattle.sync_types.specs.Runs.{lowest_running}
use Rattle.sync_types.specs.Turns.{AreEntries, after_entries, after_step}
use Rattle.sync_types.specs.Views.{EntryView, RunView, StartView}

-- each of these entries is of the lowest channel that runs then
abbrev pub AreOfLowest : Board → List EntryView → Type 0
AreOfLowest b [] = Unit {0}
AreOfLowest b (e ∷ es) = (lowest_running b ≡ Some e.channel) × AreOfLowest (after_step b e.channel e.step) es

-- entries that go on with others, the lowest channel first
pub record GoOnWith (start : StartView) (first all : List EntryView) : Type 0 where
  pub more : List EntryView
  pub begins : all ≡ first ++ more
  pub lowest : AreOfLowest (after_entries (first_board start) first) more

-- A run begins with the history of the board at which the workers met, and goes on with the lowest channels. The history is lawful from where the
-- job starts, and each channel has in it, in order, the steps that the script of the job makes of the grants that the channel gets there: those
-- that its worker made.
pub record IsBegunBy (job : JobView) (start : StartView) (history : List EntryView) (run : RunView) : Type 0 where
  pub lawful : AreEntries (first_board start) history
  pub steps : (c : ℕ) → HasStepsOfScript job c start history
  pub goes_on : GoOnWith start history run.entries

abbrev pub IsBegunByWorkers : JobView → RunView → Type 0
IsBegunByWorkers job run = (history : List EntryView) × IsBegunBy job (start_of job) history run
