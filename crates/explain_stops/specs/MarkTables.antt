-- Meaning. How the marks are told that channels wait for: in each channel how often it has gone past one, and its first block with it.
use Rattle.std.specs.Prelude.{ℕ, ◌==◌, Bool, true, false, List, [], ◌++◌, if◌then◌else◌, Option, None, Some, codes}
use Rattle.std.specs.Fmt.{decimal}
use Rattle.std.specs.List.{flat_map, list_any, range_with_len}
use Rattle.axis_sets.specs.declared.limits.TheConstants.{MARK_LIMIT}
use Rattle.job_types.specs.Job.{JobView}
use Rattle.order_clocks.specs.Watching.{wait_in}
use Rattle.explain_stops.specs.Passes.{mark_row}
use Rattle.explain_stops.specs.declared.passes.MarkRow.{MarkRow}
use Rattle.sync_types.specs.Boards.{Board, Hold, AtMarks, AtEnds, AtAxes, channel_numbers}
use Rattle.sync_types.specs.Views.{RunView}
use Rattle.explain_places.specs.Lines.{channel_text, line_place_text}

-- ---- which marks and channels

-- the numbers of marks
abbrev pub mark_numbers : List ℕ
mark_numbers = range_with_len 0 MARK_LIMIT

-- a wait is for marks of this number
abbrev pub is_of_marks : ℕ → Hold → Bool
is_of_marks mark (AtMarks number named) = number == mark
is_of_marks mark (AtEnds named) = false
is_of_marks mark (AtAxes from_standing axes) = false

abbrev pub is_for : ℕ → Option (Hold × ℕ) → Bool
is_for mark (Some wait) = is_of_marks mark wait.0
is_for mark None = false

-- a channel waits for marks of this number
unfoldable pub is_awaited : Board → ℕ → Bool
is_awaited b mark = list_any (λ channel. is_for mark (wait_in (b.state channel))) channel_numbers

-- the number in a channel of the job; none where the job has not the channel
unfoldable pub row_in : JobView → RunView → ℕ → ℕ → Option MarkRow
row_in job run mark channel = if list_any (λ line. line.channel == channel) job.channels then Some (mark_row job run mark channel) else None

-- ---- as text

-- how often
unfoldable pub times_text : ℕ → List ℕ
times_text count = if count == 1 then codes "once" else decimal count ++ codes " times"

-- whether the channel stands at such a block
unfoldable pub stands_text : Bool → List ℕ
stands_text true = codes ", and stands at it"
stands_text false = []

-- the first block that can raise the mark
unfoldable pub first_block_text : List ℕ → JobView → Option ℕ → List ℕ
first_block_text input job None = codes "; no block of its programs can raise it"
first_block_text input job (Some line) = codes "; the first of its blocks that can raise it is in " ++ line_place_text input job line

-- how often the channel has gone past the mark number
unfoldable pub pass_text : MarkRow → List ℕ
pass_text row = codes "  " ++ (channel_text row.channel ++ (codes " passed it " ++ (times_text row.passed ++ stands_text row.stands)))

unfoldable pub row_text : List ℕ → JobView → MarkRow → List ℕ
row_text input job row = pass_text row ++ (first_block_text input job row.block ++ codes "\n")

unfoldable pub some_row_text : List ℕ → JobView → Option MarkRow → List ℕ
some_row_text input job None = []
some_row_text input job (Some row) = row_text input job row

-- a mark number in all channels of the job
unfoldable pub table_text : List ℕ → JobView → RunView → ℕ → List ℕ
table_text input job run mark = codes "Mark " ++ (decimal mark ++ (codes " in each channel\n"
    ++ flat_map (λ channel. some_row_text input job (row_in job run mark channel)) channel_numbers))

-- nothing where nobody waits for marks of this number
unfoldable pub mark_table : List ℕ → JobView → RunView → Board → ℕ → List ℕ
mark_table input job run b mark = if is_awaited b mark then table_text input job run mark else []

-- all mark numbers for which channels wait
unfoldable pub marks_text : List ℕ → JobView → RunView → Board → List ℕ
marks_text input job run b = flat_map (mark_table input job run b) mark_numbers
