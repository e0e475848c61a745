-- Meaning. Between which events a box of a zone lies.
use Rattle.std.specs.Prelude.{ℕ, ◌+◌, ◌==◌, Bool, true, false, List, [], ◌++◌, take, if◌then◌else◌, slice_get, Option, None, Some, option_map, unwrap_or, codes}
use Rattle.std.specs.Fmt.{decimal}
use Rattle.std.specs.List.{filter_map, last_or}
use Rattle.std.specs.Option.{option_map_or}
use Rattle.job_types.specs.Job.{JobView}
use Rattle.sync_types.specs.Views.{EntryView, RunView}
use Rattle.sync_types.specs.declared.runs.EventId.{EventId}
use Rattle.explain_places.specs.Lines.{block_text, channel_text}
use Rattle.explain_places.specs.declared.place.Place.{Place}

-- an entry that is of a channel
abbrev pub own_entry : ℕ → EntryView → Option EntryView
own_entry channel entry = if entry.channel == channel then Some entry else None

-- the last entry of a channel among those up to and with a step
unfoldable pub last_own : List EntryView → ℕ → ℕ → Option EntryView
last_own entries channel step = last_or None (filter_map (own_entry channel) (take (step + 1) entries))

-- this is the channel
abbrev pub is_channel : Option ℕ → ℕ → Bool
is_channel None channel = false
is_channel (Some own) channel = own == channel

-- whose block follows, where it is not the channel's of which is told
unfoldable pub other_text : Option ℕ → ℕ → List ℕ
other_text own channel = if is_channel own channel then [] else channel_text channel ++ codes ", "

-- and its line
unfoldable pub last_line : List EntryView → ℕ → ℕ → Option ℕ
last_line entries channel step = option_map (λ entry. entry.step.line) (last_own entries channel step)

-- a channel goes on after a block
unfoldable pub on_text : List ℕ → JobView → ℕ → ℕ → List ℕ
on_text input job channel line = codes "when " ++ (channel_text channel ++ (codes " goes on after " ++ block_text input job line))

-- a channel starts
unfoldable pub start_text : ℕ → List ℕ
start_text channel = codes "the start of " ++ channel_text channel

-- a channel goes on after its last entry; where it has none it starts
unfoldable pub after_text : List ℕ → JobView → ℕ → Option ℕ → List ℕ
after_text input job channel (Some line) = on_text input job channel line
after_text input job channel None = start_text channel

-- the channel of which is told goes on, or else the channel of the event
unfoldable pub going_text : List ℕ → JobView → RunView → Option ℕ → EventId → List ℕ
going_text input job run own event = after_text input job (unwrap_or own event.channel) (last_line run.entries (unwrap_or own event.channel) event.step)

-- a channel acts
unfoldable pub acting_text : List ℕ → JobView → Option ℕ → EntryView → List ℕ
acting_text input job own entry = other_text own entry.channel ++ block_text input job entry.step.line

unfoldable pub event_text : List ℕ → JobView → RunView → Option ℕ → EventId → List ℕ
event_text input job run own event =
    if event.go then going_text input job run own event
    else option_map_or (acting_text input job own) (slice_get run.entries event.step) []

-- an event, or else this
unfoldable pub event_or_text : List ℕ → JobView → RunView → Option ℕ → List ℕ → Option EventId → List ℕ
event_or_text input job run own none (Some event) = event_text input job run own event
event_or_text input job run own none None = none

-- from when a box is
unfoldable pub first_text : List ℕ → JobView → RunView → Place → List ℕ
first_text input job run place = event_or_text input job run place.name.channel (codes "the start of the job") place.first

-- until when
unfoldable pub last_text : List ℕ → JobView → RunView → Place → List ℕ
last_text input job run place = event_or_text input job run place.name.channel (codes "the end of the job") place.last

-- a zone, and both
unfoldable pub zone_from_text : Place → List ℕ
zone_from_text place = codes "  Zone " ++ (decimal place.name.zone ++ codes ": from ")

unfoldable pub span_text : List ℕ → JobView → RunView → Place → List ℕ
span_text input job run place =
    zone_from_text place ++ (first_text input job run place ++ (codes "\n    up to " ++ (last_text input job run place ++ codes "\n")))
