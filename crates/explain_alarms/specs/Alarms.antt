-- Meaning. In which line an alarm stops a channel.
use Rattle.std.specs.Prelude.{ℕ, ◌==◌, if◌then◌else◌, List, [], ◌∷◌, Option, Some, None}
use Rattle.fault_codes.specs.declared.alarms.TheConstants.{NO_PROGRAM_END}
use Rattle.sync_types.specs.Views.{EntryView}
use Rattle.sync_types.specs.declared.Action.{Action}
use Rattle.sync_types.specs.declared.Action.TheVariants.{WaitM, SetM, ClearM, Init, Start, WaitE, Release, Get, End, Alarm}
use Rattle.sync_types.specs.declared.Step.{Step}

-- the line of an alarm of a block; past the end of the main program no block has it
abbrev pub line_of_code : ℕ → ℕ → Option ℕ
line_of_code line code = if code == NO_PROGRAM_END then None else Some line

abbrev pub line_of_action : ℕ → Action → Option ℕ
line_of_action line (Alarm code) = line_of_code line code
line_of_action line (WaitM number channels) = None
line_of_action line (SetM marks) = None
line_of_action line (ClearM marks) = None
line_of_action line (Init channel program) = None
line_of_action line (Start channels) = None
line_of_action line (WaitE channels) = None
line_of_action line (Release axes) = None
line_of_action line (Get axes) = None
line_of_action line End = None

-- the line of an entry, where an alarm of a block of this channel is its step
abbrev pub line_of_alarm : ℕ → EntryView → Option ℕ
line_of_alarm channel entry = if entry.channel == channel then line_of_action entry.step.line entry.step.action else None

abbrev pub first_some : {A : Type 0} → Option A → Option A → Option A
first_some (Some x) other = Some x
first_some None other = other

-- the line of the first entry that has one
abbrev pub alarm_line : ℕ → List EntryView → Option ℕ
alarm_line channel [] = None
alarm_line channel (entry ∷ entries) = first_some (line_of_alarm channel entry) (alarm_line channel entries)
