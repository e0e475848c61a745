-- The alarms of coordination blocks are in the table of alarms.
use Rattle.std.proofs.Common.{ℕ, ℤ, pos, ◌^◌, Bool, true, false, not, cond, nat_lt, int_lt, List, [], ◌∷◌, drop, replicate, slice_set, Option, None, Some, Result, Ok, Err, refl}
use Rattle.std.specs.Prelude.{⊤}
use Rattle.std.specs.Ordering.{int_eq}
use Rattle.std.specs.Int.RustNames.{unsigned_abs}
use Rattle.axis_sets.specs.declared.limits.TheConstants.{AXIS_LIMIT, CHANNEL_PLACES, MARK_LIMIT, ZONE_PLACES}
use Rattle.micro_units.specs.Arithmetic.{square_root}
use Rattle.nc_blocks.specs.AxisNames.{slot_named}
use Rattle.nc_blocks.specs.Statement.{OperandView, Value, Text, AxisName}
use Rattle.nc_blocks.specs.declared.blocks.CoordWord.{CoordWord}
use Rattle.nc_blocks.specs.declared.blocks.CoordWord.TheVariants as word
use Rattle.nc_expressions.specs.declared.trees.UnaryOp.{UnaryOp}
use Rattle.nc_expressions.specs.declared.trees.UnaryOp.TheVariants.{Minus, Not, Abs, Sqrt, Pot, Trunc, Round}
use Rattle.nc_expressions.specs.declared.trees.BinaryOp.{BinaryOp}
use Rattle.nc_expressions.specs.declared.trees.BinaryOp.TheVariants.{Add, Sub, Mul, Div, WholeDiv, Modulo, And, Or, Xor, Equal, NotEqual, Greater, Less, GreaterEqual, LessEqual}
use Rattle.nc_expressions.specs.Symbols.{index_of}
use Rattle.nc_expressions.specs.Tree.{Tree, Number, Parameter, Indexed, Unary, Binary}
use Rattle.nc_expressions.specs.Value.{◌>>=◌, in_range_or_alarm, quotient_or_alarm, root_or_alarm, unary_value, binary_value, at_index, value_of}
use Rattle.nc_expressions.specs.Values.{Values}
use Rattle.nc_expressions.proofs.ListedAlarms.{IsListed, bind_listed, value_listed}
use Rattle.fault_codes.specs.Codes.{IsAlarmCode, alarm_codes}
use Rattle.sync_types.specs.declared.Action.TheVariants.{WaitM, SetM, ClearM, Init, Start, WaitE, Release, Get}
use Rattle.coordination_words.specs.Operands.{or_alarm, operand_value, whole_below, mark_in, channel_in, if_passes, zone_in, state_of, state_in, axis_in, axis_found, program_in, set_with, marks_in, channels_in, axes_in, first_in}
use Rattle.coordination_words.specs.Programs.{program_named, program_text}
use Rattle.coordination_words.specs.Requests.{without_itself, meeting, selection, switching, owns_all, leaves_zones_whole, letting_go, taking, request_of}
use Rattle.coordination_words.specs.Settings.{SettingView}
use Rattle.coordination_words.specs.declared.asked.Request.TheVariants.{Act, Switch}

or_listed : (code : ℕ) → IsAlarmCode code → (o : Option ℕ) → IsListed (or_alarm code o)
or_listed code is None = is
or_listed code is (Some n) = tt

operand_listed : (values : Values) (code : ℕ) → IsAlarmCode code → (operand : OperandView) → IsListed (operand_value values code operand)
operand_listed values code is (Value tree) = value_listed values tree
operand_listed values code is (Text bytes) = is
operand_listed values code is (AxisName bytes) = is

no_mark : IsAlarmCode 25
unfolding IsAlarmCode alarm_codes
no_mark = refl

no_channel : IsAlarmCode 24
unfolding IsAlarmCode alarm_codes
no_channel = refl

no_axis : IsAlarmCode 14
unfolding IsAlarmCode alarm_codes
no_axis = refl

no_program : IsAlarmCode 7
unfolding IsAlarmCode alarm_codes
no_program = refl

no_zone : IsAlarmCode 29
unfolding IsAlarmCode alarm_codes
no_zone = refl

no_state : IsAlarmCode 30
unfolding IsAlarmCode alarm_codes
no_state = refl

not_owned : IsAlarmCode 15
unfolding IsAlarmCode alarm_codes
not_owned = refl

split : IsAlarmCode 31
unfolding IsAlarmCode alarm_codes
split = refl

mark_listed : (setting : SettingView) (values : Values) (operand : OperandView) → IsListed (mark_in setting values operand)
mark_listed setting values operand =
    bind_listed (operand_value values 25 operand) (λ value. or_alarm 25 (whole_below setting.marks value)) (operand_listed values 25 no_mark operand)
    (λ value. or_listed 25 no_mark (whole_below setting.marks value))

state_of_listed : (value : ℤ) → IsListed (state_of value)
unfolding state_of
state_of_listed value = by_tests (int_eq value (pos 0)) (int_eq value (pos 2000000))
  where
    by_tests : (b c : Bool) → IsListed (cond b (Ok false) (cond c (Ok true) (Err 30)))
    by_tests true c = tt
    by_tests false true = tt
    by_tests false false = no_state

state_listed : (values : Values) (operand : OperandView) → IsListed (state_in values operand)
state_listed values operand = bind_listed (operand_value values 30 operand) state_of (operand_listed values 30 no_state operand) state_of_listed

first_listed : {A : Type 0} (value_in : OperandView → Result A ℕ) → ((operand : OperandView) → IsListed (value_in operand)) → (code : ℕ) → IsAlarmCode code
    → (operands : List OperandView) → IsListed (first_in value_in code operands)
first_listed value_in each code is [] = is
first_listed value_in each code is (operand ∷ operands) = each operand

set_listed : (number_in : OperandView → Result ℕ ℕ) → ((operand : OperandView) → IsListed (number_in operand)) → (s : List Bool) (operands : List OperandView)
    → IsListed (set_with number_in s operands)
set_listed number_in each s [] = tt
set_listed number_in each s (operand ∷ operands) =
    bind_listed (number_in operand) (λ n. set_with number_in (slice_set s n true) operands) (each operand) (λ n. set_listed number_in each (slice_set s n true) operands)

module _ (setting : SettingView) (values : Values) where
  channel_listed : (operand : OperandView) → IsListed (channel_in setting values operand)
  channel_listed operand =
      bind_listed (operand_value values 24 operand) (λ value. or_alarm 24 (if_passes setting.has_channel (whole_below CHANNEL_PLACES value)))
      (operand_listed values 24 no_channel operand) (λ value. or_listed 24 no_channel (if_passes setting.has_channel (whole_below CHANNEL_PLACES value)))

  zone_listed : (operand : OperandView) → IsListed (zone_in setting values operand)
  zone_listed operand =
      bind_listed (operand_value values 29 operand) (λ value. or_alarm 29 (if_passes setting.holds (whole_below ZONE_PLACES value)))
      (operand_listed values 29 no_zone operand) (λ value. or_listed 29 no_zone (if_passes setting.holds (whole_below ZONE_PLACES value)))

  axis_listed : (operand : OperandView) → IsListed (axis_in setting operand)
  axis_listed (AxisName name) = or_listed 14 no_axis (axis_found setting name (slot_named name))
  axis_listed (Value tree) = no_axis
  axis_listed (Text bytes) = no_axis

  program_listed : (operand : OperandView) → IsListed (program_in setting operand)
  program_listed (Text text) = or_listed 7 no_program (program_named setting.names (program_text text))
  program_listed (Value tree) = no_program
  program_listed (AxisName name) = no_program

  marks_listed : (operands : List OperandView) → IsListed (marks_in setting values operands)
  unfolding marks_in
  marks_listed operands = set_listed (mark_in setting values) (mark_listed setting values) (replicate MARK_LIMIT false) operands

  channels_listed : (operands : List OperandView) → IsListed (channels_in setting values operands)
  unfolding channels_in
  channels_listed operands = set_listed (channel_in setting values) channel_listed (replicate CHANNEL_PLACES false) operands

  axes_listed : (operands : List OperandView) → IsListed (axes_in setting operands)
  unfolding axes_in
  axes_listed operands = set_listed (axis_in setting) axis_listed (replicate AXIS_LIMIT false) operands

  -- ---- words

  meeting_listed : (operands : List OperandView) → IsListed (meeting setting values operands)
  meeting_listed operands =
      bind_listed (first_in (mark_in setting values) 25 operands) (λ mark. channels_in setting values (drop 1 operands) >>= λ named. Ok (Act (WaitM mark (without_itself setting named))))
      (first_listed (mark_in setting values) (mark_listed setting values) 25 no_mark operands)
      (λ mark. bind_listed (channels_in setting values (drop 1 operands)) (λ named. Ok (Act (WaitM mark (without_itself setting named)))) (channels_listed (drop 1 operands)) (λ named. tt))

  selection_listed : (operands : List OperandView) → IsListed (selection setting values operands)
  selection_listed operands =
      bind_listed (first_in (channel_in setting values) 24 operands) (λ channel. first_in (program_in setting) 7 (drop 1 operands) >>= λ program. Ok (Act (Init channel program)))
      (first_listed (channel_in setting values) channel_listed 24 no_channel operands)
      (λ channel. bind_listed (first_in (program_in setting) 7 (drop 1 operands)) (λ program. Ok (Act (Init channel program)))
      (first_listed (program_in setting) program_listed 7 no_program (drop 1 operands)) (λ program. tt))

  switching_listed : (operands : List OperandView) → IsListed (switching setting values operands)
  switching_listed operands =
      bind_listed (first_in (zone_in setting values) 29 operands) (λ zone. first_in (state_in values) 30 (drop 1 operands) >>= λ on. Ok (Switch zone on))
      (first_listed (zone_in setting values) zone_listed 29 no_zone operands)
      (λ zone. bind_listed (first_in (state_in values) 30 (drop 1 operands)) (λ on. Ok (Switch zone on))
      (first_listed (state_in values) (state_listed values) 30 no_state (drop 1 operands)) (λ on. tt))

  letting_go_listed : (axes : List Bool) → IsListed (letting_go setting axes)
  unfolding letting_go
  letting_go_listed axes = by_tests (owns_all setting axes) (leaves_zones_whole setting axes)
    where
      by_tests : (b c : Bool) → IsListed (cond (not b) (Err 15) (cond c (Ok (Act (Release axes))) (Err 31)))
      by_tests false c = not_owned
      by_tests true true = tt
      by_tests true false = split

  taking_listed : (axes : List Bool) → IsListed (taking setting axes)
  unfolding taking
  taking_listed axes = by_test (leaves_zones_whole setting axes)
    where
      by_test : (b : Bool) → IsListed (cond b (Ok (Act (Get axes))) (Err 31))
      by_test true = tt
      by_test false = split

  pub request_listed : (which : CoordWord) (operands : List OperandView) → IsListed (request_of setting values which operands)
  unfolding request_of
  request_listed word.WaitM operands = meeting_listed operands
  request_listed word.WaitMC operands = meeting_listed operands
  request_listed word.SetM operands = bind_listed (marks_in setting values operands) (λ marks. Ok (Act (SetM marks))) (marks_listed operands) (λ marks. tt)
  request_listed word.ClearM operands = bind_listed (marks_in setting values operands) (λ marks. Ok (Act (ClearM marks))) (marks_listed operands) (λ marks. tt)
  request_listed word.Init operands = selection_listed operands
  request_listed word.Start operands = bind_listed (channels_in setting values operands) (λ named. Ok (Act (Start named))) (channels_listed operands) (λ named. tt)
  request_listed word.WaitE operands = bind_listed (channels_in setting values operands) (λ named. Ok (Act (WaitE named))) (channels_listed operands) (λ named. tt)
  request_listed word.Release operands = bind_listed (axes_in setting operands) (letting_go setting) (axes_listed operands) letting_go_listed
  request_listed word.Get operands = bind_listed (axes_in setting operands) (taking setting) (axes_listed operands) taking_listed
  request_listed word.CProt operands = switching_listed operands
