-- Meaning. What the channels of a run do in each step.
use Rattle.std.specs.Prelude.{ℕ, ◌+◌, ◌-◌, ◌^◌, min, List, [], ◌∷◌, ◌++◌, filter, map}
use Rattle.std.specs.List.{range_with_len}
use Rattle.axis_sets.specs.declared.limits.TheConstants.{CHANNEL_LIMIT}
use Rattle.job_types.specs.Channels.{has_channel}
use Rattle.job_types.specs.Job.{JobView}
use Rattle.explain_views.specs.declared.shapes.Deed.{Deed}
use Rattle.explain_views.specs.declared.shapes.Deed.TheVariants.{Acts, Waits, GoesOn, Ends}
use Rattle.explain_views.specs.declared.shapes.Moment.{Moment}
use Rattle.sync_types.specs.Views.{EntryView}
use Rattle.sync_types.specs.declared.Action.{Action}
use Rattle.sync_types.specs.declared.Action.TheVariants.{WaitM, SetM, ClearM, Init, Start, WaitE, Release, Get, End, Alarm}
use Rattle.sync_types.specs.declared.runs.Go.{Go}

-- a channel waits, ends, or acts and goes on by itself
abbrev pub deed_of : Action → Deed
deed_of (WaitM mark named) = Waits
deed_of (SetM marks) = Acts
deed_of (ClearM marks) = Acts
deed_of (Init channel program) = Acts
deed_of (Start named) = Acts
deed_of (WaitE named) = Waits
deed_of (Release axes) = Acts
deed_of (Get axes) = Waits
deed_of End = Ends
deed_of (Alarm code) = Ends

-- the block that makes a step
abbrev pub moment_of : ℕ → EntryView → Moment
moment_of step entry = record { step = step; channel = entry.channel; actor = entry.channel; line = entry.step.line; deed = deed_of entry.step.action }

-- one that goes on in it
abbrev pub going_of : ℕ → ℕ → Go → Moment
going_of step actor go = record { step = step; channel = go.channel; actor = actor; line = 0; deed = GoesOn }

-- a step: its block, and then all that go on, in their order
abbrev pub moments_of : ℕ → EntryView → List Moment
moments_of step entry = moment_of step entry ∷ map (going_of step entry.channel) entry.goes

-- the steps of a run, counted from this one; none has a greater number than 2 ^ 32 - 1
abbrev pub moments_from : ℕ → List EntryView → List Moment
moments_from step [] = []
moments_from step (entry ∷ entries) = moments_of step entry ++ moments_from (min (step + 1) (2 ^ 32 - 1)) entries

-- the channels of a job, ascending
unfoldable pub channels_of : JobView → List ℕ
channels_of job = filter (has_channel job) (range_with_len 1 CHANNEL_LIMIT)
