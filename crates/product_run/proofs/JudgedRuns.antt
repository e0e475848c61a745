-- What judging needs of a run of an accepted job after which no channel runs.
use Rattle.std.proofs.Common.{◌<◌, ◌≤◌, All, List, length, arith}
use Rattle.std.proofs.lemmas.List.Elements.{All-weaker}
use Rattle.std.specs.Prelude.{sum_by}
use Rattle.channel_machine.proofs.StartLaws.{start_sound}
use Rattle.channel_machine.specs.Scripts.{IsMaximalRunOf}
use Rattle.channel_machine.specs.StartStates.{start_of}
use Rattle.job_types.specs.Job.{JobView}
use Rattle.job_types.specs.SoundJob.{IsSoundJob}
use Rattle.product_run.proofs.GoodRuns.{runs_are_sound}
use Rattle.product_run.proofs.Motions.{runs_are_whole}
use Rattle.product_run.proofs.Short.{few_entries}
use Rattle.product_run.specs.RunLaws.{IsSoundRun, step_limit}
use Rattle.sync_types.specs.Runs.{ComesFrom}
use Rattle.sync_types.specs.Views.{RunView, StartView}
use Rattle.sync_types.specs.declared.Item.{Item}

module _ (job : JobView) (run : RunView) (sound : IsSoundJob job) (maximal : IsMaximalRunOf job (start_of job) run) where
  -- it comes from the start of the job
  pub comes : ComesFrom (start_of job) run
  comes = (runs_are_whole job (start_of job) run (start_sound job sound) maximal).comes

  pub comes_from_one : (start : StartView) × ComesFrom start run
  comes_from_one = (start_of job, comes)

  pub good : IsSoundRun run
  good = runs_are_sound job run sound maximal

  -- its items are few
  pub few_in_each : All (λ items. length items < 4294967296) run.items
  few_in_each =
      All-weaker (λ (items : List Item). length items ≤ 100000) (λ items. length items < 4294967296) (λ items few. omega arith) run.items good.few

  pub few_in_all : sum_by (λ (items : List Item). length items) run.items < 1048576
  few_in_all = let few = good.total in omega (arith, few)

  -- it is short
  pub few : length run.entries ≤ step_limit
  few = few_entries job run maximal

  pub few_steps : length run.entries < 1048576
  few_steps = let short = few in omega (arith, short)
