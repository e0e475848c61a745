-- Meaning. The trace line of a block with which a channel asks something of the others, or ends its program.
use Rattle.std.specs.Prelude.{ℕ, Bool, true, false, if◌then◌else◌, List, [], ◌++◌, filter, slice_get, codes}
use Rattle.std.specs.Fmt.{decimal}
use Rattle.std.specs.List.{flat_map, range_with_len}
use Rattle.std.specs.Option.{option_map_or}
use Rattle.axis_sets.specs.Sets.{has}
use Rattle.axis_sets.specs.declared.limits.TheConstants.{AXIS_LIMIT, CHANNEL_LIMIT, MARK_LIMIT}
use Rattle.job_types.specs.Job.{JobView}
use Rattle.sync_types.specs.declared.Action.{Action}
use Rattle.sync_types.specs.declared.Action.TheVariants.{WaitM, SetM, ClearM, Init, Start, WaitE, Release, Get, End, Alarm}
use Rattle.sync_types.specs.declared.Step.{Step}
use Rattle.job_report.specs.Positions.{axis_text}

-- a number after others
unfoldable pub next_number : ℕ → List ℕ
next_number number = codes " " ++ decimal number

-- an axis after others
unfoldable pub next_axis : JobView → ℕ → List ℕ
next_axis job axis = codes " " ++ axis_text job axis

-- the channels of a set, ascending
unfoldable pub channels_text : List Bool → List ℕ
channels_text set = flat_map next_number (filter (has set) (range_with_len 1 CHANNEL_LIMIT))

-- the marks of a set, ascending
unfoldable pub marks_text : List Bool → List ℕ
marks_text set = flat_map next_number (filter (has set) (range_with_len 0 MARK_LIMIT))

-- the axes of a set, in the order of the AXIS lines
unfoldable pub axes_text : JobView → List Bool → List ℕ
axes_text job set = flat_map (next_axis job) (filter (has set) (range_with_len 0 AXIS_LIMIT))

-- the name of a program; the job has none beyond its library
unfoldable pub program_text : JobView → ℕ → List ℕ
program_text job place = option_map_or (λ program. program.0) (slice_get job.programs place) []

-- a channel for which a program is selected, and that program
unfoldable pub selection_text : JobView → ℕ → ℕ → List ℕ
selection_text job channel program = codes "INIT" ++ (next_number channel ++ (codes " " ++ program_text job program))

-- the word of an action, and of what it speaks; an alarm has no word
unfoldable pub action_text : JobView → Action → List ℕ
action_text job (WaitM mark named) = codes "WAITM" ++ (next_number mark ++ channels_text named)
action_text job (SetM marks) = codes "SETM" ++ marks_text marks
action_text job (ClearM marks) = codes "CLEARM" ++ marks_text marks
action_text job (Init channel program) = selection_text job channel program
action_text job (Start named) = codes "START" ++ channels_text named
action_text job (WaitE named) = codes "WAITE" ++ channels_text named
action_text job (Release axes) = codes "RELEASE" ++ axes_text job axes
action_text job (Get axes) = codes "GET" ++ axes_text job axes
action_text job End = codes "END"
action_text job (Alarm code) = []

unfoldable pub is_alarm : Action → Bool
is_alarm (Alarm code) = true
is_alarm action = false

-- the trace line of a step; none where its block alarms
unfoldable pub step_line : JobView → Step → List ℕ
step_line job step =
    if is_alarm step.action then []
    else decimal step.line ++ (codes " " ++ (action_text job step.action ++ codes "\n"))
