-- Meaning. How the verdict STUCK is said: all that wait for good when the run is over.
use Rattle.std.specs.Prelude.{ℕ, List, ◌++◌, codes}
use Rattle.std.specs.List.{flat_map}
use Rattle.job_types.specs.Job.{JobView}
use Rattle.order_clocks.specs.Watching.{wait_in}
use Rattle.explain_stops.specs.MarkTables.{marks_text}
use Rattle.explain_stops.specs.Waits.{wait_text}
use Rattle.sync_types.specs.Boards.{Board, channel_numbers, first_board}
use Rattle.sync_types.specs.Turns.{after_entries}
use Rattle.sync_types.specs.Views.{RunView, StartView}
use Rattle.explain_places.specs.Lines.{channel_text}

-- the board when the run is over
abbrev pub last_board : StartView → RunView → Board
last_board start run = after_entries (first_board start) run.entries

-- a channel of a board
unfoldable pub channel_wait : List ℕ → JobView → RunView → Board → ℕ → List ℕ
channel_wait input job run b channel = wait_text input job run b channel (wait_in (b.state channel))

-- all channels, the lowest first, and then the marks that they wait for
unfoldable pub waits_text : List ℕ → JobView → RunView → Board → List ℕ
waits_text input job run b = flat_map (channel_wait input job run b) channel_numbers ++ marks_text input job run b

-- the verdict names this channel
unfoldable pub stuck_text : List ℕ → JobView → RunView → Board → ℕ → List ℕ
stuck_text input job run b channel = codes "STUCK: " ++ (channel_text channel ++ (codes " waits for good, and so no boxes are compared.\n" ++ waits_text input job run b))
