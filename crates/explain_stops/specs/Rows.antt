-- Meaning. What STUCK is told by, as rows: what each waiting channel lacks, and the marks that channels wait for.
use Rattle.std.specs.Prelude.{ℕ, List, [], if◌then◌else◌, Option, None, Some, map}
use Rattle.std.specs.List.{flat_map}
use Rattle.std.specs.Option.{option_to_list}
use Rattle.job_types.specs.Job.{JobView}
use Rattle.order_clocks.specs.Watching.{wait_in}
use Rattle.explain_stops.specs.Lacks.{lacks_of}
use Rattle.explain_stops.specs.MarkTables.{is_awaited, mark_numbers, row_in}
use Rattle.explain_stops.specs.Remedies.{remedy_of}
use Rattle.explain_stops.specs.declared.lacks.Lack.{Lack}
use Rattle.explain_stops.specs.declared.passes.MarkRow.{MarkRow}
use Rattle.explain_stops.specs.declared.rows.WaitRow.{WaitRow}
use Rattle.sync_types.specs.Boards.{Board, Hold, channel_numbers}
use Rattle.sync_types.specs.Views.{RunView}

-- something that a channel lacks which waits in a line, and what would end the wait
abbrev pub wait_row : JobView → RunView → (channel line : ℕ) → Lack → WaitRow
wait_row job run channel line lack = record { channel = channel; line = line; lack = lack; remedy = remedy_of job run lack }

-- all that a channel lacks; nothing where it does not wait
unfoldable pub rows_of_wait : JobView → RunView → Board → ℕ → Option (Hold × ℕ) → List WaitRow
rows_of_wait job run b channel None = []
rows_of_wait job run b channel (Some wait) = map (wait_row job run channel wait.1) (lacks_of job run b channel wait.0)

-- of all channels, the lowest first
unfoldable pub wait_rows : JobView → RunView → Board → List WaitRow
wait_rows job run b = flat_map (λ channel. rows_of_wait job run b channel (wait_in (b.state channel))) channel_numbers

-- a mark number in each channel of the job; nothing where nobody waits for marks of this number
unfoldable pub rows_of_mark : JobView → RunView → Board → ℕ → List MarkRow
rows_of_mark job run b mark = if is_awaited b mark then flat_map (λ channel. option_to_list (row_in job run mark channel)) channel_numbers else []

-- all mark numbers for which channels wait
unfoldable pub mark_rows : JobView → RunView → Board → List MarkRow
mark_rows job run b = flat_map (rows_of_mark job run b) mark_numbers
