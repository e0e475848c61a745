-- A run of a job as the laws of all speeds see it: its items and its steps.
use Rattle.std.proofs.Common.{◌≡◌, ◌∙◌, ℕ, List, [], ◌∷◌, refl, ap}
use Rattle.channel_machine.specs.StartStates.{start_of}
use Rattle.job_types.specs.Job.{JobView}
use Rattle.order_clocks.specs.Clocked.{moves_in}
use Rattle.channel_machine.specs.Scripts.{items_of, run_of, script_of, segment_after}
use Rattle.schedule_laws.specs.Schedules.{moves_by}
use Rattle.speed_laws.specs.Histories.{IsRunBy, items_by}
use Rattle.sync_types.specs.Boards.{first_board}
use Rattle.sync_types.specs.Runs.{Stage, after_turn, first_stage}
use Rattle.sync_types.specs.Views.{RunView}
use Rattle.sync_types.specs.declared.Item.{Item}
use Rattle.turnmill.proofs.QuietRuns.{moves_told}
use Rattle.turnmill.specs.JobDoings.{doings_of}

-- what the channels do before their steps
pub items_are : (job : JobView) (stage : Stage) (cs : List ℕ) → items_of job stage cs ≡ items_by (doings_of job) stage cs
items_are job stage [] = refl
items_are job stage (c ∷ cs) = ap (λ (rest : List (List Item)). (segment_after job c (stage.grants c)).items ∷ rest) (items_are job (after_turn (script_of job) stage c) cs)

-- so it is in the run of these channels
pub made_by : (job : JobView) (run : RunView) (cs : List ℕ) → run ≡ run_of job (start_of job) cs → IsRunBy job (doings_of job) cs run
made_by job run cs all = record {
  moves = ap (λ (r : RunView). moves_in r.entries) all ∙ moves_told (first_board (start_of job)) (moves_by (script_of job) (start_of job) cs);
  items = ap (λ (r : RunView). r.items) all ∙ items_are job (first_stage (start_of job)) cs;
}
