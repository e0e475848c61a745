-- Meaning. What a run takes for granted.
use Rattle.std.specs.Prelude.{ℕ, ◌==◌, Bool, List}
use Rattle.std.specs.List.{flat_map, list_any, range_with_len}
use Rattle.axis_sets.specs.declared.limits.TheConstants.{CHANNEL_LIMIT}
use Rattle.job_types.specs.Job.{JobView}
use Rattle.sync_types.specs.Views.{EntryView, RunView}
use Rattle.explain_assumptions.specs.Remarks.{remarks_in_run}
use Rattle.explain_assumptions.specs.Rows.{rows_of}
use Rattle.explain_assumptions.specs.declared.rows.Assumed.{Assumed}

-- the channel makes a step in these entries
abbrev pub does_act : ℕ → List EntryView → Bool
does_act c entries = list_any (λ entry. entry.channel == c) entries

-- of a channel
abbrev pub channel_assumptions : JobView → RunView → ℕ → List Assumed
channel_assumptions job run c = rows_of job run c (remarks_in_run job run c)

-- of all channels, in the order of their numbers
unfoldable pub assumptions_of : JobView → RunView → List Assumed
assumptions_of job run = flat_map (channel_assumptions job run) (range_with_len 1 CHANNEL_LIMIT)
