-- Law. How the time of each zone falls into stretches.
use Rattle.std.specs.Prelude.{All, None}
use Rattle.channel_machine.specs.StartStates.{start_of}
use Rattle.job_types.specs.Job.{JobView}
use Rattle.job_types.specs.SoundJob.{IsSoundJob}
use Rattle.order_clocks.specs.Clocked.{moves_in}
use Rattle.sync_types.specs.Boards.{Board, first_board}
use Rattle.sync_types.specs.Runs.{ComesFrom}
use Rattle.sync_types.specs.Views.{RunView}
use Rattle.zone_stretches.specs.Overlaps.{zone_times}
use Rattle.zone_stretches.specs.SoundStretches.{AreInOrder}
use Rattle.zone_stretches.specs.Stretches.{all_stretches}

-- the stretches of each zone come one after another, from the beginning of the job on
abbrev pub ComeInOrder : JobView → Board → RunView → Type 0
ComeInOrder job b run = All (λ time. AreInOrder b (moves_in run.entries) None time.stretches) (zone_times job (all_stretches job b run))

-- so they do in each whole run of an accepted job
abbrev pub ZoneTimesInOrder : JobView → RunView → Type 0
ZoneTimesInOrder job run = IsSoundJob job → ComesFrom (start_of job) run → ComeInOrder job (first_board (start_of job)) run
