-- Meaning. One result of a job, however its channels take turns.
use Rattle.std.specs.Prelude.{◌≡◌, ℕ, ◌==◌, List, [], ◌∷◌, ◌++◌, if◌then◌else◌}
use Rattle.channel_machine.specs.StartStates.{start_of}
use Rattle.job_types.specs.Job.{JobView}
use Rattle.channel_machine.specs.Scripts.{run_of, script_of}
use Rattle.schedule_laws.specs.Schedules.{HasNoRace, HaveSameResult, IsMaximalOf, IsRunOf}
use Rattle.sync_types.specs.Views.{EntryView, RunView}
use Rattle.sync_types.specs.declared.Item.{Item}

-- the channels of the job take these turns, one after another: at each turn one of those that run makes its segment and
-- its step
abbrev pub TakeTurns : JobView → List ℕ → Type 0
TakeTurns job turns = IsRunOf (script_of job) (start_of job) turns

-- and after them none runs
abbrev pub TakeAllTurns : JobView → List ℕ → Type 0
TakeAllTurns job turns = IsMaximalOf (script_of job) (start_of job) turns

-- the motions of a channel before each of its steps
abbrev pub motions_by : ℕ → List EntryView → List (List Item) → List (List Item)
motions_by channel (entry ∷ entries) (items ∷ rest) = if channel == entry.channel then items ∷ motions_by channel entries rest else motions_by channel entries rest
motions_by channel entries rest = []

abbrev pub motions_in : RunView → ℕ → List (List Item)
motions_in run channel = motions_by channel run.entries run.items

-- The same events come in the same order, acts and goings on alike, and are one event where they are one; each channel
-- gets the same grants and makes the same motions, and all channels stop alike, on the same board.
pub record LeadToTheSame (job : JobView) (turns others : List ℕ) : Type 0 where
  pub result : HaveSameResult (script_of job) (start_of job) turns others
  pub motions : (channel : ℕ) → motions_in (run_of job (start_of job) turns) channel ≡ motions_in (run_of job (start_of job) others) channel

-- However the channels of the job take turns, there is no race, they can go on until none runs, and where none runs
-- they have come to the same.
pub record HasOneResult (job : JobView) : Type 0 where
  pub no_race : (turns : List ℕ) → TakeTurns job turns → HasNoRace (script_of job) (start_of job) turns
  pub goes_on : (turns : List ℕ) → TakeTurns job turns → (rest : List ℕ) × TakeAllTurns job (turns ++ rest)
  pub same : (turns others : List ℕ) → TakeAllTurns job turns → TakeAllTurns job others → LeadToTheSame job turns others

-- Where in one of the orders in which the channels may take turns there is no race until none runs, the job has one
-- result: one such run speaks for all.
abbrev pub OneQuietRunSpeaksForAll : JobView → Type 0
OneQuietRunSpeaksForAll job = (turns : List ℕ) → TakeAllTurns job turns → HasNoRace (script_of job) (start_of job) turns
    → HasOneResult job
