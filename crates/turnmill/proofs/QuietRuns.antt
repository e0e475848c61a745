-- A run without a race after which no channel runs is one that speaks for every run of its job.
use Rattle.std.proofs.Common.{◌≡◌, ℕ, suc, ◌<◌, List, [], ◌∷◌, length, sym, refl, ap, subst}
use Rattle.channel_machine.proofs.StartLaws.{start_sound}
use Rattle.channel_machine.specs.StartStates.{start_of}
use Rattle.job_types.specs.Job.{JobView}
use Rattle.job_types.specs.SoundJob.{IsSoundJob}
use Rattle.order_clocks.specs.Clocked.{moves_in}
use Rattle.order_clocks.specs.Races.{IsRace}
use Rattle.channel_machine.proofs.StartNumbers.{start_numbers}
use Rattle.channel_machine.specs.Scripts.{IsMaximalRunOf, IsRunInOrder, run_of, script_of}
use Rattle.schedule_laws.specs.Schedules.{HasNoRace, IsQuietRun, moves_by}
use Rattle.sync_types.proofs.Replays.{sequential_is_one}
use Rattle.sync_types.specs.Boards.{Board, first_board}
use Rattle.sync_types.specs.Runs.{first_stage}
use Rattle.sync_types.specs.Turns.{Move, after_step, entries_of}
use Rattle.sync_types.specs.Views.{RunView}
use Rattle.sync_types.specs.declared.runs.Race.{Race}
use Rattle.turnmill.specs.OneResult.{TakeAllTurns}

-- the entries of steps are those of these steps, and as many
pub moves_told : (b : Board) (moves : List Move) → moves_in (entries_of b moves) ≡ moves
moves_told b [] = refl
moves_told b (m ∷ ms) = ap (λ (rest : List Move). m ∷ rest) (moves_told (after_step b m.channel m.step) ms)

as_many : (b : Board) (moves : List Move) → length (entries_of b moves) ≡ length moves
as_many b [] = refl
as_many b (m ∷ ms) = ap (λ n. suc n) (as_many (after_step b m.channel m.step) ms)

module _ (job : JobView) (sound : IsSoundJob job) where
  -- a run of all turns without a race
  pub quiet_run : (turns : List ℕ) → TakeAllTurns job turns → HasNoRace (script_of job) (start_of job) turns → IsQuietRun (script_of job) (start_of job) turns
  quiet_run turns whole quiet = record { sound = start_sound job sound; numbers = start_numbers job; maximal = whole; quiet = quiet }

  -- no step of the run has a race
  abbrev pub HasNone : RunView → Type 0
  HasNone run = (i : ℕ) (race : Race) → i < length run.entries → IsRace (first_board (start_of job)) (moves_in run.entries) i race → ⊥

  -- the entries of a run are those of its turns
  told_none : (turns : List ℕ) → HasNone (run_of job (start_of job) turns) → HasNoRace (script_of job) (start_of job) turns
  told_none turns none i within race is =
      none i race (subst (λ n. i < n) (sym (as_many (first_board (start_of job)) (moves_by (script_of job) (start_of job) turns))) within)
      (subst (λ (ms : List Move). IsRace (first_board (start_of job)) ms i race) (sym (moves_told (first_board (start_of job)) (moves_by (script_of job) (start_of job) turns))) is)

  pub none_told : (turns : List ℕ) → HasNoRace (script_of job) (start_of job) turns → HasNone (run_of job (start_of job) turns)
  none_told turns quiet i race within is =
      quiet i (subst (λ n. i < n) (as_many (first_board (start_of job)) (moves_by (script_of job) (start_of job) turns)) within) race
      (subst (λ (ms : List Move). IsRace (first_board (start_of job)) ms i race) (moves_told (first_board (start_of job)) (moves_by (script_of job) (start_of job) turns)) is)

  pub quiet_maximal : (run : RunView) (one : IsMaximalRunOf job (start_of job) run) → HasNone run → IsQuietRun (script_of job) (start_of job) one.channels
  quiet_maximal run one none = quiet_run one.channels one.maximal (told_none one.channels (subst HasNone one.all none))

  pub quiet_in_order : (run : RunView) (in_order : IsRunInOrder job (start_of job) run) → HasNone run → IsQuietRun (script_of job) (start_of job) in_order.channels
  quiet_in_order run in_order none =
      let cs : List ℕ = in_order.channels in
      quiet_maximal run
      (record { channels = cs; maximal = (sequential_is_one (script_of job) (first_stage (start_of job)) cs cs in_order.sequential).maximal; all = in_order.all }) none
