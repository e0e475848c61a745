-- Meaning. What a channel that waits for good lacks, who could give it, and what to do.
use Rattle.std.specs.Prelude.{ℕ, List, [], ◌++◌, Option, None, Some, codes}
use Rattle.std.specs.Fmt.{decimal}
use Rattle.std.specs.List.{flat_map}
use Rattle.job_types.specs.Job.{JobView}
use Rattle.explain_stops.specs.Ends.{end_of, stop_text}
use Rattle.explain_stops.specs.Lacks.{lacked_axis, lacked_end, lacked_mark}
use Rattle.explain_stops.specs.Remedies.{advice_of, advice_text, remedy_of}
use Rattle.explain_stops.specs.declared.lacks.Lack.{Lack}
use Rattle.explain_stops.specs.declared.lacks.Lack.TheVariants.{Axis, End, Mark, OwnEnd}
use Rattle.sync_types.specs.Boards.{Board, Hold, AtMarks, AtEnds, AtAxes, axis_numbers, channel_numbers}
use Rattle.sync_types.specs.Views.{RunView}
use Rattle.sync_types.specs.declared.ChannelEnd.{ChannelEnd}
use Rattle.explain_places.specs.Lines.{block_text, channel_first_text, channel_text}
use Rattle.explain_places.specs.Motions.{axis_text}

-- ---- marks

-- a mark of a channel
unfoldable pub mark_name : ℕ → ℕ → List ℕ
mark_name mark channel = codes "  for mark " ++ (decimal mark ++ (codes " of " ++ channel_text channel))

-- which blocks would raise a mark
unfoldable pub raising_text : ℕ → List ℕ
raising_text mark = codes " can raise it, by WAITM(" ++ (decimal mark ++ (codes ", ..) or SETM(" ++ (decimal mark ++ codes "), and it ")))

-- one channel alone can give it
unfoldable pub only_text : ℕ → List ℕ
only_text channel = codes ". Only " ++ channel_text channel

-- who would raise a mark that is missing, and what that channel does
unfoldable pub missing_mark : List ℕ → JobView → ℕ → ℕ → Option ChannelEnd → List ℕ
missing_mark input job mark channel end = only_text channel ++ (raising_text mark ++ stop_text input job end)

-- a mark that does not stand
unfoldable pub mark_text : List ℕ → JobView → ℕ → ℕ → Option ChannelEnd → List ℕ
mark_text input job mark channel end = mark_name mark channel ++ missing_mark input job mark channel end

-- ---- ends

-- the end of another channel's program, and what that channel does
unfoldable pub end_text : List ℕ → JobView → ℕ → Option ChannelEnd → List ℕ
end_text input job channel end = codes "  for the end of the program of " ++ (channel_text channel ++ (codes ", which " ++ stop_text input job end))

-- ---- axes

-- one channel alone can let an axis go
unfoldable pub letting_go_text : ℕ → List ℕ
letting_go_text owner = codes " owns" ++ (only_text owner ++ codes " can let it go, by RELEASE, and it ")

-- who could let an axis go, and what that channel does
unfoldable pub owned_axis : List ℕ → JobView → ℕ → Option ChannelEnd → List ℕ
owned_axis input job owner end = codes ", which " ++ (channel_text owner ++ (letting_go_text owner ++ stop_text input job end))

-- an axis that another channel owns
unfoldable pub axis_wait_text : List ℕ → JobView → ℕ → ℕ → Option ChannelEnd → List ℕ
axis_wait_text input job axis owner end = codes "  for the axis " ++ (axis_text job axis ++ owned_axis input job owner end)

-- ---- all that a channel lacks

-- something that it lacks, and who could give it
unfoldable pub lacking_text : List ℕ → JobView → RunView → Lack → List ℕ
lacking_text input job run (Mark mark channel) = mark_text input job mark channel (end_of job run channel)
lacking_text input job run (End channel) = end_text input job channel (end_of job run channel)
lacking_text input job run OwnEnd = codes "  for the end of its own program: so it waits for itself\n"
lacking_text input job run (Axis axis owner) = axis_wait_text input job axis owner (end_of job run owner)

-- and what to do
unfoldable pub lack_text : List ℕ → JobView → RunView → Lack → List ℕ
lack_text input job run lack = lacking_text input job run lack ++ advice_text (advice_of (remedy_of job run lack))

-- nothing where nothing is lacking
unfoldable pub some_lack_text : List ℕ → JobView → RunView → Option Lack → List ℕ
some_lack_text input job run None = []
some_lack_text input job run (Some lack) = lack_text input job run lack

-- all that a channel lacks which waits so on a board, in ascending order
unfoldable pub hold_text : List ℕ → JobView → RunView → Board → ℕ → Hold → List ℕ
hold_text input job run b own (AtMarks mark named) = flat_map (λ channel. some_lack_text input job run (lacked_mark b mark named channel)) channel_numbers
hold_text input job run b own (AtEnds named) = flat_map (λ channel. some_lack_text input job run (lacked_end job run own named channel)) channel_numbers
hold_text input job run b own (AtAxes from_standing axes) = flat_map (λ axis. some_lack_text input job run (lacked_axis b own axes axis)) axis_numbers

-- where a channel waits
unfoldable pub head_text : List ℕ → JobView → ℕ → ℕ → List ℕ
head_text input job channel line = channel_first_text channel ++ (codes " waits for good in " ++ (block_text input job line ++ codes "\n"))

-- a channel that waits, and for what; nothing of one that does not wait
unfoldable pub wait_text : List ℕ → JobView → RunView → Board → ℕ → Option (Hold × ℕ) → List ℕ
wait_text input job run b channel None = []
wait_text input job run b channel (Some wait) = head_text input job channel wait.1 ++ hold_text input job run b channel wait.0
