-- Meaning. What the arguments of coordination words stand for, each by itself and all of a list.
use Rattle.std.specs.Prelude.{ℕ, ◌*◌, ◌%◌, ◌/◌, ◌==◌, ◌&&◌, nat_lt, nat_le, ℤ, pos, negsuc, Bool, true, false, if◌then◌else◌, List, [], ◌∷◌, replicate, slice_index_or, slice_set, Option, None, Some, Result, Ok, Err}
use Rattle.std.specs.Ordering.{int_eq}
use Rattle.nc_blocks.specs.AxisNames.{slot_named}
use Rattle.nc_blocks.specs.Statement.{OperandView, Value, Text, AxisName}
use Rattle.nc_expressions.specs.Value.{◌>>=◌, value_of}
use Rattle.nc_expressions.specs.Values.{Values}
use Rattle.axis_sets.specs.declared.limits.TheConstants.{AXIS_LIMIT, CHANNEL_PLACES, MARK_LIMIT, ZONE_PLACES}
use Rattle.fault_codes.specs.declared.alarms.TheConstants.{NO_SUCH_AXIS, NO_SUCH_CHANNEL, NO_SUCH_MARK, NO_SUCH_PROGRAM, ZONE_NOT_HELD, ZONE_STATE}
use Rattle.coordination_words.specs.Programs.{program_named, program_text}
use Rattle.coordination_words.specs.Settings.{SettingView}

-- ---- values

-- what there is, or an alarm where there is nothing
abbrev pub or_alarm : ℕ → Option ℕ → Result ℕ ℕ
or_alarm alarm (Some number) = Ok number
or_alarm alarm None = Err alarm

-- the value of an argument, or its first alarm; one that is no expression has the alarm of its place
abbrev pub operand_value : Values → ℕ → OperandView → Result ℤ ℕ
operand_value values alarm (Value tree) = value_of values tree
operand_value values alarm (Text bytes) = Err alarm
operand_value values alarm (AxisName bytes) = Err alarm

-- a whole number from 0 on, below a limit
unfoldable pub whole_below : ℕ → ℤ → Option ℕ
whole_below limit (pos n) = if n % 1000000 == 0 && nat_lt n (limit * 1000000) then Some (n / 1000000) else None
whole_below limit (negsuc n) = None

-- the number of a mark
abbrev pub mark_in : SettingView → Values → OperandView → Result ℕ ℕ
mark_in setting values operand = operand_value values NO_SUCH_MARK operand >>= λ value. or_alarm NO_SUCH_MARK (whole_below setting.marks value)

-- of numbers from 1 on, one that passes
abbrev pub if_passes : (ℕ → Bool) → Option ℕ → Option ℕ
if_passes test (Some number) = if nat_le 1 number && test number then Some number else None
if_passes test None = None

-- the number of a channel of the job
abbrev pub channel_in : SettingView → Values → OperandView → Result ℕ ℕ
channel_in setting values operand =
    operand_value values NO_SUCH_CHANNEL operand >>= λ value. or_alarm NO_SUCH_CHANNEL (if_passes setting.has_channel (whole_below CHANNEL_PLACES value))

-- the number of a zone that the channel holds
abbrev pub zone_in : SettingView → Values → OperandView → Result ℕ ℕ
zone_in setting values operand =
    operand_value values ZONE_NOT_HELD operand >>= λ value. or_alarm ZONE_NOT_HELD (if_passes setting.holds (whole_below ZONE_PLACES value))

-- 0 is off, and 2 is on
unfoldable pub state_of : ℤ → Result Bool ℕ
state_of value = if int_eq value (pos 0) then Ok false else if int_eq value (pos 2000000) then Ok true else Err ZONE_STATE

-- whether a zone is to be on
abbrev pub state_in : Values → OperandView → Result Bool ℕ
state_in values operand = operand_value values ZONE_STATE operand >>= state_of

-- ---- axes and programs

-- the axis in a slot of the channel, whoever owns it, or else the axis with the name
abbrev pub axis_found : SettingView → List ℕ → Option ℕ → Option ℕ
axis_found setting name (Some slot) = slice_index_or setting.slots slot None
axis_found setting name None = setting.axis_named name

-- the axis of an argument
abbrev pub axis_in : SettingView → OperandView → Result ℕ ℕ
axis_in setting (AxisName name) = or_alarm NO_SUCH_AXIS (axis_found setting name (slot_named name))
axis_in setting (Value tree) = Err NO_SUCH_AXIS
axis_in setting (Text bytes) = Err NO_SUCH_AXIS

-- the number of the program of an argument
abbrev pub program_in : SettingView → OperandView → Result ℕ ℕ
program_in setting (Text text) = or_alarm NO_SUCH_PROGRAM (program_named setting.names (program_text text))
program_in setting (Value tree) = Err NO_SUCH_PROGRAM
program_in setting (AxisName name) = Err NO_SUCH_PROGRAM

-- ---- lists

-- a set with what each of these arguments stands for, found from left to right; the first alarm counts
abbrev pub set_with : (OperandView → Result ℕ ℕ) → List Bool → List OperandView → Result (List Bool) ℕ
set_with number_in set [] = Ok set
set_with number_in set (operand ∷ operands) = number_in operand >>= λ number. set_with number_in (slice_set set number true) operands

-- the marks of these arguments
unfoldable pub marks_in : SettingView → Values → List OperandView → Result (List Bool) ℕ
marks_in setting values operands = set_with (mark_in setting values) (replicate MARK_LIMIT false) operands

-- their channels
unfoldable pub channels_in : SettingView → Values → List OperandView → Result (List Bool) ℕ
channels_in setting values operands = set_with (channel_in setting values) (replicate CHANNEL_PLACES false) operands

-- their axes
unfoldable pub axes_in : SettingView → List OperandView → Result (List Bool) ℕ
axes_in setting operands = set_with (axis_in setting) (replicate AXIS_LIMIT false) operands

-- what the first argument stands for; the alarm of its place where there is none
abbrev pub first_in : {A : Type 0} → (OperandView → Result A ℕ) → ℕ → List OperandView → Result A ℕ
first_in value_in alarm [] = Err alarm
first_in value_in alarm (operand ∷ operands) = value_in operand
