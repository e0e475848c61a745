-- Meaning. What the channels of a job do, as the laws of all speeds see it.
use Rattle.job_types.specs.Job.{JobView}
use Rattle.channel_machine.specs.Scripts.{script_of, segment_after}
use Rattle.speed_laws.specs.Doings.{Doings}

-- each channel makes the items of its segment, and then the step at its end
abbrev pub doings_of : JobView → Doings
doings_of job = record { items = λ c grants. (segment_after job c grants).items; script = script_of job }
