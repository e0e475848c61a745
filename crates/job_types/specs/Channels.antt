-- Meaning. The channels of a job by their numbers.
use Rattle.std.specs.Prelude.{ℕ, ◌==◌, Bool}
use Rattle.std.specs.List.{list_any}
use Rattle.job_types.specs.Job.{JobView}

-- a CHANNEL line declares the channel
abbrev pub has_channel : JobView → ℕ → Bool
has_channel job channel = list_any (λ line. line.channel == channel) job.channels
