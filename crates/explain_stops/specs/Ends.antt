-- Meaning. How each channel of a job has stopped.
use Rattle.std.specs.Prelude.{ℕ, ◌==◌, nat_lt, List, ◌++◌, if◌then◌else◌, Option, None, Some, count_by, slice_get, codes}
use Rattle.std.specs.List.{list_any}
use Rattle.job_types.specs.Job.{JobView}
use Rattle.sync_types.specs.Views.{RunView}
use Rattle.sync_types.specs.declared.ChannelEnd.{ChannelEnd}
use Rattle.sync_types.specs.declared.ChannelEnd.TheVariants.{Idle, Ended, Holding, Alarmed}
use Rattle.explain_places.specs.Lines.{block_text}

-- the ends of a run go by ascending channels, so before a channel's stand those of the lower ones; none where the job has it not
unfoldable pub end_of : JobView → RunView → ℕ → Option ChannelEnd
end_of job run channel = if list_any (λ line. line.channel == channel) job.channels
    then slice_get run.ends (count_by (λ line. nat_lt line.channel channel) job.channels) else None

-- a line after a verb
unfoldable pub at_text : List ℕ → JobView → List ℕ → ℕ → List ℕ
at_text input job verb line = verb ++ (block_text input job line ++ codes "\n")

-- how a channel has stopped, after its name
unfoldable pub stop_text : List ℕ → JobView → Option ChannelEnd → List ℕ
stop_text input job None = codes "is no channel of the job\n"
stop_text input job (Some Idle) = codes "has not started\n"
stop_text input job (Some (Ended line)) = at_text input job (codes "has ended in ") line
stop_text input job (Some (Holding line)) = at_text input job (codes "waits in ") line
stop_text input job (Some (Alarmed alarm)) = at_text input job (codes "is stopped by an alarm in ") alarm.line
