-- The items of the run in order of an accepted job fit.
use Rattle.std.proofs.Common.{All}
use Rattle.std.proofs.lemmas.List.Elements.{All-weaker}
use Rattle.channel_machine.specs.Scripts.{IsRunInOrder}
use Rattle.channel_machine.specs.StartStates.{start_of}
use Rattle.job_types.specs.Job.{JobView}
use Rattle.job_types.specs.SoundJob.{IsSoundJob}
use Rattle.product_run.proofs.JudgedRuns.{good}
use Rattle.product_run.proofs.Motions.{runs_in_order_are_maximal}
use Rattle.product_run.specs.RunLaws.{MovesSoundly}
use Rattle.sync_types.specs.Views.{RunView}
use Rattle.sync_types.specs.declared.Item.{Item}
use Rattle.zone_stretches.specs.ZoneBoxes.{IsFit}

fits : (item : Item) → MovesSoundly item → IsFit item
fits item moves = record { sound = moves.sound; within = moves.within }

pub all_fit : (job : JobView) (run : RunView) → IsSoundJob job → IsRunInOrder job (start_of job) run → All (All IsFit) run.items
all_fit job run sound in_order =
    All-weaker (All MovesSoundly) (All IsFit) (All-weaker MovesSoundly IsFit fits) run.items (good job run sound (runs_in_order_are_maximal job (start_of job) run in_order)).items
