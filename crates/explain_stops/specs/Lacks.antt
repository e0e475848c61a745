-- Meaning. What a waiting channel lacks of all that its wait names.
use Rattle.std.specs.Prelude.{ℕ, ◌==◌, ◌&&◌, not, Bool, true, false, List, if◌then◌else◌, Option, None, Some}
use Rattle.std.specs.List.{flat_map}
use Rattle.std.specs.Option.{option_to_list}
use Rattle.job_types.specs.Job.{JobView}
use Rattle.explain_stops.specs.Ends.{end_of}
use Rattle.explain_stops.specs.declared.lacks.Lack.{Lack}
use Rattle.explain_stops.specs.declared.lacks.Lack.TheVariants.{Axis, End, Mark, OwnEnd}
use Rattle.sync_types.specs.Boards.{Board, Hold, AtMarks, AtEnds, AtAxes, among, axis_numbers, channel_numbers, owner_of}
use Rattle.sync_types.specs.Views.{RunView}
use Rattle.sync_types.specs.declared.ChannelEnd.{ChannelEnd}
use Rattle.sync_types.specs.declared.ChannelEnd.TheVariants.{Ended}

-- a mark that is waited for, where it does not stand
abbrev pub mark_where : (is_named stands : Bool) → ℕ → ℕ → Option Lack
mark_where is_named stands mark channel = if is_named && not stands then Some (Mark mark channel) else None

-- the mark of a channel, where the channel is named and the mark does not stand
unfoldable pub lacked_mark : Board → ℕ → List ℕ → ℕ → Option Lack
lacked_mark b mark named channel = mark_where (among named channel) (b.marks channel mark) mark channel

-- the program of a channel has ended
abbrev pub is_ended : Option ChannelEnd → Bool
is_ended (Some (Ended line)) = true
is_ended other = false

-- the end of another channel's program, or of its own
abbrev pub end_of_program : (own channel : ℕ) → Lack
end_of_program own channel = if channel == own then OwnEnd else End channel

-- the end of a program that is waited for, where it has not ended
abbrev pub end_where : (is_named ended : Bool) → (own channel : ℕ) → Option Lack
end_where is_named ended own channel = if is_named && not ended then Some (end_of_program own channel) else None

-- the end of a channel's program, where the channel is named and its program has not ended
unfoldable pub lacked_end : JobView → RunView → ℕ → List ℕ → ℕ → Option Lack
lacked_end job run own named channel = end_where (among named channel) (is_ended (end_of job run channel)) own channel

-- an axis, where a channel other than the one that waits owns it
abbrev pub axis_of_other : (own axis : ℕ) → Option ℕ → Option Lack
axis_of_other own axis None = None
axis_of_other own axis (Some owner) = if owner == own then None else Some (Axis axis owner)

-- an axis that is asked for
abbrev pub axis_where : (is_asked : Bool) → (own axis : ℕ) → Option ℕ → Option Lack
axis_where is_asked own axis owner = if is_asked then axis_of_other own axis owner else None

-- an axis, where it is asked for and another channel owns it
unfoldable pub lacked_axis : Board → ℕ → List ℕ → ℕ → Option Lack
lacked_axis b own axes axis = axis_where (among axes axis) own axis (owner_of (b.axis axis))

-- all that a channel lacks which waits so, in ascending order
unfoldable pub lacks_of : JobView → RunView → Board → ℕ → Hold → List Lack
lacks_of job run b own (AtMarks mark named) = flat_map (λ channel. option_to_list (lacked_mark b mark named channel)) channel_numbers
lacks_of job run b own (AtEnds named) = flat_map (λ channel. option_to_list (lacked_end job run own named channel)) channel_numbers
lacks_of job run b own (AtAxes from_standing axes) = flat_map (λ axis. option_to_list (lacked_axis b own axes axis)) axis_numbers
