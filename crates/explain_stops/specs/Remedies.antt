-- Meaning. What would end a wait for something that is lacking.
use Rattle.std.specs.Prelude.{ℕ, ◌==◌, ◌&&◌, not, Bool, List, ◌++◌, if◌then◌else◌, Option, None, Some, is_some, codes}
use Rattle.job_types.specs.Job.{JobView}
use Rattle.explain_stops.specs.Ends.{end_of}
use Rattle.explain_stops.specs.Passes.{mark_row}
use Rattle.explain_stops.specs.declared.lacks.Lack.{Lack}
use Rattle.explain_stops.specs.declared.lacks.Lack.TheVariants as lack
use Rattle.explain_stops.specs.declared.passes.MarkRow.{MarkRow}
use Rattle.explain_stops.specs.declared.remedies.Remedy.{Remedy}
use Rattle.explain_stops.specs.declared.remedies.Remedy.TheVariants as remedy
use Rattle.sync_types.specs.Views.{RunView}
use Rattle.sync_types.specs.declared.ChannelEnd.{ChannelEnd}
use Rattle.sync_types.specs.declared.ChannelEnd.TheVariants.{Idle, Ended, Holding, Alarmed}

-- no block of the channel can raise the mark, and none has
abbrev pub is_never_raised : MarkRow → Bool
is_never_raised row = not (is_some row.block) && row.passed == 0

-- the word is missing, or else this
abbrev pub unless_missing : MarkRow → Remedy → Remedy
unless_missing row other = if is_never_raised row then remedy.Write else other

-- a channel that has ended came to such a block too rarely, or never
abbrev pub ended_remedy : MarkRow → Remedy
ended_remedy row = if row.passed == 0 then unless_missing row remedy.Reach else remedy.Match

-- of a mark, by how its channel has stopped
abbrev pub mark_remedy : MarkRow → Option ChannelEnd → Remedy
mark_remedy row None = remedy.Write
mark_remedy row (Some Idle) = remedy.Start
mark_remedy row (Some (Ended line)) = ended_remedy row
mark_remedy row (Some (Holding line)) = unless_missing row remedy.Settle
mark_remedy row (Some (Alarmed alarm)) = unless_missing row remedy.Mend

-- of a program that has not ended, by how its channel has stopped
abbrev pub stop_remedy : Option ChannelEnd → Remedy
stop_remedy None = remedy.Start
stop_remedy (Some Idle) = remedy.Start
stop_remedy (Some (Ended line)) = remedy.Settle
stop_remedy (Some (Holding line)) = remedy.Settle
stop_remedy (Some (Alarmed alarm)) = remedy.Mend

-- of an axis, by how its owner has stopped
abbrev pub axis_remedy : Option ChannelEnd → Remedy
axis_remedy None = remedy.Release
axis_remedy (Some Idle) = remedy.Start
axis_remedy (Some (Ended line)) = remedy.Release
axis_remedy (Some (Holding line)) = remedy.Release
axis_remedy (Some (Alarmed alarm)) = remedy.Mend

-- of what a waiting channel lacks; none can wait for its own end
unfoldable pub remedy_of : JobView → RunView → Lack → Remedy
remedy_of job run (lack.Mark mark channel) = mark_remedy (mark_row job run mark channel) (end_of job run channel)
remedy_of job run (lack.End channel) = stop_remedy (end_of job run channel)
remedy_of job run lack.OwnEnd = remedy.Omit
remedy_of job run (lack.Axis axis owner) = axis_remedy (end_of job run owner)

-- what to do, in plain words: "that channel" is the one that could give what is lacking
unfoldable pub advice_of : Remedy → List ℕ
advice_of remedy.Write = codes "No block of that channel's programs can raise the mark. Correct the number of the mark or the channel, here or in the block that was meant; or write the WAITM or SETM that is missing there."
advice_of remedy.Reach = codes "That channel ended without coming to a block that raises the mark. Look at the jumps before that block."
advice_of remedy.Match = codes "That channel has raised the mark, but not once more. Let both come to this mark equally often: count the passes of their loops."
advice_of remedy.Start = codes "Start that channel: by START in a channel that runs, or by START at the end of its CHANNEL line."
advice_of remedy.Settle = codes "That channel waits too: mend its wait first. Where each waits for the other, let both come to their marks in the same order."
advice_of remedy.Mend = codes "First mend the alarm of that channel."
advice_of remedy.Omit = codes "Leave the channel itself out of its WAITE."
advice_of remedy.Release = codes "Let that channel do RELEASE of the axis before the block in which it stands, once it has moved the axis for the last time."

-- an advice, in a line of its own
unfoldable pub advice_text : List ℕ → List ℕ
advice_text advice = codes "  What to do: " ++ (advice ++ codes "\n")
