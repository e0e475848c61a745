-- Meaning. How often each channel has gone past a mark number in a run.
use Rattle.std.specs.Prelude.{ℕ, ◌-◌, ◌==◌, ◌&&◌, Bool, false, if◌then◌else◌, Option, None, Some, unwrap_or}
use Rattle.std.specs.List.{count_by, filter_map, last_or}
use Rattle.axis_sets.specs.Sets.{has}
use Rattle.job_types.specs.Job.{JobView}
use Rattle.explain_stops.specs.MarkBlocks.{first_block}
use Rattle.explain_stops.specs.declared.passes.MarkRow.{MarkRow}
use Rattle.sync_types.specs.Views.{EntryView, RunView}
use Rattle.sync_types.specs.declared.Action.{Action}
use Rattle.sync_types.specs.declared.Action.TheVariants.{WaitM, SetM, ClearM, Init, Start, WaitE, Release, Get, End, Alarm}

-- an action raises the mark of this number of its channel
abbrev pub raises : ℕ → Action → Bool
raises mark (WaitM number named) = number == mark
raises mark (SetM marks) = has marks mark
raises mark (ClearM marks) = false
raises mark (Init channel program) = false
raises mark (Start named) = false
raises mark (WaitE named) = false
raises mark (Release axes) = false
raises mark (Get axes) = false
raises mark End = false
raises mark (Alarm code) = false

-- a step of the channel that raises it
abbrev pub is_raising : ℕ → ℕ → EntryView → Bool
is_raising channel mark entry = entry.channel == channel && raises mark entry.step.action

-- how many steps of a run are
unfoldable pub raisings_of : RunView → ℕ → ℕ → ℕ
raisings_of run channel mark = count_by (is_raising channel mark) run.entries

-- whether a step is, where it is the channel's
abbrev pub raised_in : ℕ → ℕ → EntryView → Option Bool
raised_in channel mark entry = if entry.channel == channel then Some (raises mark entry.step.action) else None

-- the channel's last step is one, so the channel has not gone on from there: a channel that goes on makes a further step
unfoldable pub stands_at : RunView → ℕ → ℕ → Bool
stands_at run channel mark = unwrap_or (last_or None (filter_map (raised_in channel mark) run.entries)) false

-- a mark number in a channel: how often the channel has gone past it, whether it stands there, and its first block that can raise the mark
unfoldable pub mark_row : JobView → RunView → ℕ → ℕ → MarkRow
mark_row job run mark channel = record {
  mark = mark;
  channel = channel;
  passed = raisings_of run channel mark - (if stands_at run channel mark then 1 else 0);
  stands = stands_at run channel mark;
  block = first_block job channel mark;
}
