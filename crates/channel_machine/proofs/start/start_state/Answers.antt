-- What is made is the start of the job, which is sound.
use Rattle.std.proofs.Common.{◌≡◌, refl, sym, subst}
use Rattle.job_types.specs.Job.{JobView}
use Rattle.job_types.specs.SoundJob.{IsSoundJob}
use Rattle.sync_types.specs.Starts.{IsSound}
use Rattle.sync_types.specs.Views.{StartView}
use Rattle.channel_machine.specs.StartStates.{start_of}
use Rattle.channel_machine.proofs.StartLaws.{start_sound}
use Rattle.channel_machine.proofs.start.start_state.Goals as goal

sound_as : (job : JobView) (start : StartView) → start ≡ start_of job → IsSoundJob job → IsSound start
sound_as job start same sound = subst IsSound (sym same) (start_sound job sound)

pub returns-clause-sound : goal.returns-clause-sound
unfolding start_of
returns-clause-sound c = sound_as c.args.job.now _ (rw (c.first_channels.ensures, c.first_axes.ensures, c.first_zones.ensures) refl)
