-- The alarms of blocks are in the table of alarms.
use Rattle.std.proofs.Common.{◌≡◌, ℕ, ℤ, pos, negsuc, ◌^◌, ◌%◌, ◌/◌, ◌==◌, ◌&&◌, ◌++◌, ◌+ℤ◌, Bool, true, false, not, cond, nat_lt, int_lt, List, [], ◌∷◌, Option, None, Some, is_some, option_map, get_or, Result, Ok, Err, set, refl}
use Rattle.std.specs.Prelude.{⊤}
use Rattle.std.specs.Ordering.{int_eq}
use Rattle.std.specs.Int.RustNames.{unsigned_abs}
use Rattle.block_motions.specs.Arcs.{arc_motion}
use Rattle.block_motions.specs.declared.words.ArcWords.{ArcWords}
use Rattle.block_motions.specs.declared.goals.Programmed.{Programmed}
use Rattle.block_motions.specs.declared.goals.Targets.{Targets}
use Rattle.block_motions.specs.Goals.{ConditionsView}
use Rattle.block_motions.specs.Motions.{straight_motion}
use Rattle.block_motions.proofs.AlarmLaws.{arc_alarm_listed, straight_alarm_listed, listed_13, listed_14, listed_18}
use Rattle.frames.specs.Composition.{shifts, scales, mirrors, turns}
use Rattle.frames.specs.Faults.{or_else, is_scale, is_square_angle, map_fault, maps_fault, is_factor_allowed, is_shift_allowed, image_fault, chain_fault, adding_fault}
use Rattle.frames.specs.Images.{Image, image_of}
use Rattle.frames.specs.Maps.{Map, shifting, scaling, mirroring, turning}
use Rattle.frames.specs.declared.Plane.{Plane}
use Rattle.g_groups.specs.Modal.{has_group_twice}
use Rattle.g_groups.specs.declared.GWord.{GWord}
use Rattle.micro_units.specs.Arithmetic.{square_root}
use Rattle.nc_expressions.specs.declared.trees.UnaryOp.{UnaryOp}
use Rattle.nc_expressions.specs.declared.trees.UnaryOp.TheVariants.{Minus, Not, Abs, Sqrt, Pot, Trunc, Round}
use Rattle.nc_expressions.specs.declared.trees.BinaryOp.{BinaryOp}
use Rattle.nc_expressions.specs.declared.trees.BinaryOp.TheVariants.{Add, Sub, Mul, Div, WholeDiv, Modulo, And, Or, Xor, Equal, NotEqual, Greater, Less, GreaterEqual, LessEqual}
use Rattle.nc_expressions.specs.Symbols.{index_of}
use Rattle.nc_expressions.specs.Tree.{Tree, Number, Parameter, Indexed, Unary, Binary}
use Rattle.nc_expressions.specs.Value.{◌>>=◌, in_range_or_alarm, quotient_or_alarm, root_or_alarm, unary_value, binary_value, at_index, value_of}
use Rattle.nc_expressions.specs.Values.{Values}
use Rattle.nc_expressions.proofs.ListedAlarms.{IsListed, bind_listed, checked_listed, value_listed}
use Rattle.fault_codes.specs.Codes.{IsAlarmCode, alarm_codes}
use Rattle.nc_blocks.specs.AxisNames.{slot_named}
use Rattle.nc_blocks.specs.declared.blocks.FrameWord.{FrameWord}
use Rattle.nc_blocks.specs.declared.blocks.FrameWord.TheVariants.{Trans, Atrans, Scale, Ascale, Mirror, Amirror}
use Rattle.nc_blocks.specs.Statement.{OperandView, Value, Text, AxisName, WordView, Assign, AssignAt, G, Axis, Radius, Aux, End, Statement, WordBlock, IfJump, If, While, Until, For, EndFor, Case, RepeatFrom, RepeatBlock, Call, Shape, Turn}
use Rattle.path_geometry.specs.declared.motion.Motion.{Motion}
use Rattle.block_effects.specs.Words.{SetupView, Progress, parameter_in, values_in, index_in, first_progress, assignment, given_at, increment, with_parameters, with_targets, programmed_value, is_in_slot, programmed_once, slot_programmed, named_programmed, programmed_by, centre_named, with_centre_word, with_radius, with_arc_words, word_progress, option_read, operand_read, aux_read, begins_with, number_in, choices_with_some, tool_chosen, edge_chosen, chosen, with_choices, word_done, words_done}
use Rattle.tool_offsets.specs.Choices.{Choice, OfTool, OfEdge, choices_with, may_choose}
use Rattle.tool_offsets.specs.declared.tools.ToolEdge.{ToolEdge}
use Rattle.block_effects.specs.Shapes.{values_done, no_values, unless_alarmed, chain_with, shape_chain, turn_chain, plane_of, shaped_by, turned_by}
use Rattle.block_effects.specs.Effects.{SituationView, word_in, in_force, is_arc, has_stray_words, stands_still, motion_made, moved_or_still, words_moved, words_run, words_effect, group_words, frame_effect, Course, turning_with, bound_course, bound_turning, for_continued, times_in, times_of, repetition_course, library_number, number_of, call_course, control_effect, effect_of}
use Rattle.block_effects.proofs.EffectSteps.{left}

-- the codes that a run can end with
listed_4 : IsAlarmCode 4
unfolding IsAlarmCode alarm_codes
listed_4 = refl

listed_7 : IsAlarmCode 7
unfolding IsAlarmCode alarm_codes
listed_7 = refl

pub listed_8 : IsAlarmCode 8
unfolding IsAlarmCode alarm_codes
listed_8 = refl

pub listed_9 : IsAlarmCode 9
unfolding IsAlarmCode alarm_codes
listed_9 = refl

listed_10 : IsAlarmCode 10
unfolding IsAlarmCode alarm_codes
listed_10 = refl

listed_11 : IsAlarmCode 11
unfolding IsAlarmCode alarm_codes
listed_11 = refl

listed_12 : IsAlarmCode 12
unfolding IsAlarmCode alarm_codes
listed_12 = refl

listed_16 : IsAlarmCode 16
unfolding IsAlarmCode alarm_codes
listed_16 = refl

listed_17 : IsAlarmCode 17
unfolding IsAlarmCode alarm_codes
listed_17 = refl

listed_33 : IsAlarmCode 33
unfolding IsAlarmCode alarm_codes
listed_33 = refl

listed_34 : IsAlarmCode 34
unfolding IsAlarmCode alarm_codes
listed_34 = refl

unless : {A : Type 0} (b : Bool) (x : A) (code : ℕ) → IsAlarmCode code → IsListed (cond b (Ok x) (Err code))
unless true x code listed = tt
unless false x code listed = listed

-- ---- words

index_listed : (o : Option ℕ) → IsListed (index_in o)
index_listed None = listed_4
index_listed (Some i) = tt

given_listed : (parameters : List ℤ) (index : ℕ) (tree : Tree) → IsListed (assignment parameters index tree)
given_listed parameters index tree =
    bind_listed (value_of (values_in parameters) tree) (λ value. Ok (set parameters index value)) (value_listed (values_in parameters) tree) (λ value. tt)

given_at_listed : (parameters : List ℤ) (at tree : Tree) → IsListed (given_at parameters at tree)
given_at_listed parameters at tree =
    bind_listed (value_of (values_in parameters) at) (λ z. index_in (index_of z) >>= λ index. assignment parameters index tree) (value_listed (values_in parameters) at)
    (λ z. bind_listed (index_in (index_of z)) (λ index. assignment parameters index tree) (index_listed (index_of z)) (λ index. given_listed parameters index tree))

counted_listed : (parameters : List ℤ) (index : ℕ) → IsListed (increment parameters index)
counted_listed parameters index =
    bind_listed (in_range_or_alarm (parameter_in parameters index +ℤ pos 1000000)) (λ value. Ok (set parameters index value)) (checked_listed (parameter_in parameters index +ℤ pos 1000000)) (λ value. tt)

assigned_listed : (p : Progress) (values : Result (List ℤ) ℕ) → IsListed values → IsListed (with_parameters p values)
assigned_listed p values listed = bind_listed values (λ parameters. Ok (record p { parameters = parameters })) listed (λ parameters. tt)

aimed_listed : (p : Progress) (targets : Result Targets ℕ) → IsListed targets → IsListed (with_targets p targets)
aimed_listed p targets listed = bind_listed targets (λ new. Ok (record p { targets = new })) listed (λ new. tt)

curved_listed : (p : Progress) (words : Result ArcWords ℕ) → IsListed words → IsListed (with_arc_words p words)
curved_listed p words listed = bind_listed words (λ new. Ok (record p { arc = new })) listed (λ new. tt)

once_listed : (row : List (Option Programmed)) (place : ℕ) (value : Programmed) → IsListed (programmed_once row place value)
unfolding programmed_once
once_listed row place value = by_word (is_some (get_or row place None))
  where
    by_word : (b : Bool) → IsListed (cond b (Err 17) (Ok (set row place (Some value))))
    by_word true = listed_17
    by_word false = tt

slot_listed : (slots : List (Option ℕ)) (targets : Targets) (slot : ℕ) (value : Programmed) → IsListed (slot_programmed slots targets slot value)
unfolding slot_programmed
slot_listed slots targets slot value = by_axis (is_some (get_or slots slot None))
  where
    put : Result Targets ℕ
    put = programmed_once targets.slots slot value >>= λ row. Ok (record targets { slots = row })

    by_axis : (b : Bool) → IsListed (cond b put (Err 14))
    by_axis true = bind_listed (programmed_once targets.slots slot value) (λ row. Ok (record targets { slots = row })) (once_listed targets.slots slot value) (λ row. tt)
    by_axis false = listed_14

named_listed : (slots : List (Option ℕ)) (targets : Targets) (o : Option ℕ) (value : Programmed) → IsListed (named_programmed slots targets o value)
unfolding named_programmed
named_listed slots targets None value = listed_14
named_listed slots targets (Some axis) value = by_slot (is_in_slot slots axis)
  where
    put : Result Targets ℕ
    put = programmed_once targets.axes axis value >>= λ row. Ok (record targets { axes = row })

    by_slot : (b : Bool) → IsListed (cond b (Err 16) put)
    by_slot true = listed_16
    by_slot false = bind_listed (programmed_once targets.axes axis value) (λ row. Ok (record targets { axes = row })) (once_listed targets.axes axis value) (λ row. tt)

programmed_listed : (equipment : SetupView) (targets : Targets) (name : List ℕ) (o : Option ℕ) (value : Programmed) → IsListed (programmed_by equipment targets name o value)
programmed_listed equipment targets name (Some slot) value = slot_listed equipment.slots targets slot value
programmed_listed equipment targets name None value = named_listed equipment.slots targets (equipment.axis_named name) value

centred_listed : (words : ArcWords) (axis : ℕ) (value : Programmed) → IsListed (with_centre_word words axis value)
centred_listed words axis value =
    bind_listed (programmed_once words.centre axis value) (λ row. Ok (record words { centre = row })) (once_listed words.centre axis value) (λ row. tt)

rounded_listed : (words : ArcWords) (value : ℤ) → IsListed (with_radius words value)
rounded_listed words value = by_word (is_some words.radius)
  where
    by_word : (b : Bool) → IsListed (cond b (Err 17) (Ok (record words { radius = Some value })))
    by_word true = listed_17
    by_word false = tt

option_listed : (values : Values) (o : Option Tree) → IsListed (option_read values o)
option_listed values None = tt
option_listed values (Some tree) = bind_listed (value_of values tree) (λ value. Ok (Some value)) (value_listed values tree) (λ value. tt)

operand_listed : (values : Values) (operand : OperandView) → IsListed (operand_read values operand)
operand_listed values (Value tree) = bind_listed (value_of values tree) (λ value. Ok (Some value)) (value_listed values tree) (λ value. tt)
operand_listed values (Text bytes) = tt
operand_listed values (AxisName bytes) = tt

choice_listed : (edges : List ToolEdge) (choices : List Choice) (o : Option Choice) → IsListed (choices_with_some edges choices o)
unfolding choices_with
choice_listed edges choices None = listed_34
choice_listed edges choices (Some choice) = unless (may_choose edges choices choice) (choices ++ choice ∷ []) 34 listed_34

chosen_listed : (tools : Option (List ToolEdge)) (choices : List Choice) (name : List ℕ) (value : Option ℤ) → IsListed (chosen tools choices name value)
unfolding chosen
chosen_listed None choices name value = tt
chosen_listed (Some edges) choices name value = by_letter (begins_with 84 name) (begins_with 68 name)
  where
    by_letter : (tool edge : Bool) → IsListed (cond tool (tool_chosen edges choices value) (cond edge (edge_chosen edges choices value) (Ok choices)))
    by_letter true edge = choice_listed edges choices (option_map OfTool (number_in value))
    by_letter false true = choice_listed edges choices (option_map OfEdge (number_in value))
    by_letter false false = tt

with_choices_listed : (p : Progress) (choices : Result (List Choice) ℕ) → IsListed choices → IsListed (with_choices p choices)
with_choices_listed p choices listed = bind_listed choices (λ new. Ok (record p { choices = new })) listed (λ new. tt)

module _ (equipment : SetupView) where
  addressed_listed : (p : Progress) (name : List ℕ) (o : Option ℕ) (value : Programmed) → IsListed (word_progress equipment p name o value)
  addressed_listed p name (Some axis) value = curved_listed p (with_centre_word p.arc axis value) (centred_listed p.arc axis value)
  addressed_listed p name None value =
      aimed_listed p (programmed_by equipment p.targets name (slot_named name) value) (programmed_listed equipment p.targets name (slot_named name) value)

  word_listed : (p : Progress) (word : WordView) → IsListed (word_done equipment p word)
  unfolding word_done
  word_listed p (Assign index tree) = assigned_listed p (assignment p.parameters index tree) (given_listed p.parameters index tree)
  word_listed p (AssignAt at tree) = assigned_listed p (given_at p.parameters at tree) (given_at_listed p.parameters at tree)
  word_listed p (G group code) = tt
  word_listed p (Axis name measure tree) =
      bind_listed (value_of (values_in p.parameters) tree) (λ value. word_progress equipment p name (centre_named name) (programmed_value measure value))
      (value_listed (values_in p.parameters) tree) (λ value. addressed_listed p name (centre_named name) (programmed_value measure value))
  word_listed p (Radius tree) =
      bind_listed (value_of (values_in p.parameters) tree) (λ value. with_arc_words p (with_radius p.arc value)) (value_listed (values_in p.parameters) tree)
      (λ value. curved_listed p (with_radius p.arc value) (rounded_listed p.arc value))
  word_listed p (Aux name index operand) =
      bind_listed (aux_read (values_in p.parameters) index operand) (λ value. with_choices p (chosen equipment.tools p.choices name value))
      (bind_listed (option_read (values_in p.parameters) index) (λ _. operand_read (values_in p.parameters) operand) (option_listed (values_in p.parameters) index) (λ _. operand_listed (values_in p.parameters) operand))
      (λ value. with_choices_listed p (chosen equipment.tools p.choices name value) (chosen_listed equipment.tools p.choices name value))
  word_listed p End = tt

  words_listed : (p : Progress) (words : List WordView) → IsListed (words_done equipment p words)
  words_listed p [] = tt
  words_listed p (word ∷ words) = bind_listed (word_done equipment p word) (λ q. words_done equipment q words) (word_listed p word) (λ q. words_listed q words)

-- ---- motions

listed_of : {A : Type 0} (r : Result A ℕ) → ((code : ℕ) → r ≡ Err code → IsAlarmCode code) → IsListed r
listed_of (Ok x) each = tt
listed_of (Err code) each = each code refl

module _ (slots : List (Option ℕ)) (owned : List Bool) (h : ConditionsView) (at : ℕ → ℤ) (targets : Targets) (arc : ArcWords) where
  made_listed : IsListed (motion_made slots owned h at targets arc)
  made_listed = by_kind (is_arc h)
    where
      by_kind : (b : Bool) → IsListed (cond b (arc_motion slots owned h at targets arc) (straight_motion slots owned h at targets))
      by_kind true = listed_of (arc_motion slots owned h at targets arc) (λ code is. arc_alarm_listed owned h at arc slots targets code is)
      by_kind false = listed_of (straight_motion slots owned h at targets) (λ code is. straight_alarm_listed slots owned h at targets code is)

  still_listed : (groups : List GWord) → IsListed (moved_or_still slots owned h at groups targets arc)
  unfolding moved_or_still
  still_listed groups = by_words (not (is_arc h) && has_stray_words h arc) (stands_still groups)
    where
      by_words : (stray still : Bool) → IsListed (cond {A = Result (Option Motion) ℕ} stray (Err 18) (cond still (Ok None) (motion_made slots owned h at targets arc)))
      by_words true still = listed_18
      by_words false true = tt
      by_words false false = made_listed

module _ (equipment : SetupView) (found : SituationView) (line : ℕ) (groups : List GWord) (words : List WordView) where
  words_run_listed : IsListed (words_run equipment found line groups words)
  words_run_listed =
      bind_listed (words_done equipment (first_progress found.parameters found.choices) words) (λ p. words_moved equipment found groups p >>= λ motion. Ok (left line found p motion))
      (words_listed equipment (first_progress found.parameters found.choices) words)
      (λ p. bind_listed (words_moved equipment found groups p) (λ motion. Ok (left line found p motion))
      (still_listed equipment.slots equipment.owned (in_force equipment found groups p.choices) found.at p.targets p.arc groups) (λ motion. tt))

  words_effect_listed : IsListed (words_effect equipment found line groups words)
  words_effect_listed = by_test (has_group_twice groups)
    where
      by_test : (b : Bool) → IsListed (cond b (Err 10) (words_run equipment found line groups words))
      by_test true = listed_10
      by_test false = words_run_listed

-- ---- frames

abbrev IsFaultListed : Option ℕ → Type 0
IsFaultListed None = ⊤
IsFaultListed (Some code) = IsAlarmCode code

fault_unless : (b : Bool) (code : ℕ) → IsAlarmCode code → IsFaultListed (cond b None (Some code))
fault_unless true code listed = tt
fault_unless false code listed = listed

either_listed : (a b : Option ℕ) → IsFaultListed a → IsFaultListed b → IsFaultListed (or_else a b)
either_listed None b first later = later
either_listed (Some code) b first later = first

map_listed : (m : Map) → IsFaultListed (map_fault m)
map_listed (shifting axis value) = tt
map_listed (scaling axis value) = fault_unless (is_scale value) 11 listed_11
map_listed (mirroring axis) = tt
map_listed (turning plane angle) = fault_unless (is_square_angle angle) 12 listed_12

maps_listed : (ms : List Map) → IsFaultListed (maps_fault ms)
maps_listed [] = tt
maps_listed (m ∷ ms) = either_listed (map_fault m) (maps_fault ms) (map_listed m) (maps_listed ms)

image_listed : (i : Image) → IsFaultListed (image_fault i)
image_listed i = by_factor (is_factor_allowed i)
  where
    by_factor : (b : Bool) → IsFaultListed (cond b (cond (is_shift_allowed i) None (Some 13)) (Some 11))
    by_factor true = fault_unless (is_shift_allowed i) 13 listed_13
    by_factor false = listed_11

chain_listed : (ms : List Map) → IsFaultListed (chain_fault ms)
chain_listed ms =
    either_listed (image_fault (image_of ms 0)) (or_else (image_fault (image_of ms 1)) (image_fault (image_of ms 2))) (image_listed (image_of ms 0))
    (either_listed (image_fault (image_of ms 1)) (image_fault (image_of ms 2)) (image_listed (image_of ms 1)) (image_listed (image_of ms 2)))

added_listed : (chain ms : List Map) → IsListed (chain_with chain ms)
unfolding chain_with
added_listed chain ms = by_fault (adding_fault chain ms) (either_listed (maps_fault ms) (chain_fault (chain ++ ms)) (maps_listed ms) (chain_listed (chain ++ ms)))
  where
    by_fault : (o : Option ℕ) → IsFaultListed o → IsListed (unless_alarmed o (chain ++ ms))
    by_fault None listed = tt
    by_fault (Some code) listed = listed

shaped_listed : (chain : List Map) (word : FrameWord) (row : List (Option ℤ)) → IsListed (shape_chain chain word row)
unfolding shape_chain
shaped_listed chain Trans row = added_listed [] (shifts 0 row)
shaped_listed chain Atrans row = added_listed chain (shifts 0 row)
shaped_listed chain Scale row = added_listed [] (scales 0 row)
shaped_listed chain Ascale row = added_listed chain (scales 0 row)
shaped_listed chain Mirror row = added_listed [] (mirrors 0 row)
shaped_listed chain Amirror row = added_listed chain (mirrors 0 row)

turned_listed : (chain : List Map) (plane : Plane) (additive : Bool) (angle : Option ℤ) → IsListed (turn_chain chain plane additive angle)
unfolding turn_chain
turned_listed chain plane false angle = added_listed [] (turns plane angle)
turned_listed chain plane true angle = added_listed chain (turns plane angle)

values_listed : (values : Values) (row : List (Option ℤ)) (words : List (ℕ × Tree)) → IsListed (values_done values row words)
values_listed values row [] = tt
values_listed values row ((axis, tree) ∷ more) =
    bind_listed (value_of values tree) (λ value. values_done values (set row axis (Some value)) more) (value_listed values tree)
    (λ value. values_listed values (set row axis (Some value)) more)

framed_listed : (found : SituationView) (made : Result (List Map) ℕ) → IsListed made → IsListed (frame_effect found made)
framed_listed found made listed = bind_listed made _ listed (λ chain. tt)

-- ---- control

-- a value, and what is done with it
after_value : {A : Type 0} (values : Values) (tree : Tree) (f : ℤ → Result A ℕ) → ((z : ℤ) → IsListed (f z)) → IsListed (value_of values tree >>= f)
after_value values tree f each = bind_listed (value_of values tree) f (value_listed values tree) each

-- a course, where the parameters are left as they are
left_listed : (parameters : List ℤ) (course : Result Course ℕ) → IsListed course → IsListed (turning_with parameters course)
left_listed parameters course listed = bind_listed course _ listed (λ found. tt)

bounded_listed : (parameters : List ℤ) (index : ℕ) (bound : Tree) → IsListed (bound_turning parameters index bound)
bounded_listed parameters index bound =
    left_listed parameters (bound_course (values_in parameters) index bound) (after_value (values_in parameters) bound _ (λ value. tt))

continued_listed : (parameters : List ℤ) (opener : Statement) → IsListed (for_continued parameters opener)
continued_listed parameters (For index first bound) =
    bind_listed (increment parameters index) (λ p. bound_turning p index bound) (counted_listed parameters index) (λ p. bounded_listed p index bound)
continued_listed parameters other = tt

times_in_listed : (z : ℤ) → IsListed (times_in z)
unfolding times_in
times_in_listed (pos n) = unless (n % 1000000 == 0 && nat_lt n 10000000000) (n / 1000000) 33 listed_33
times_in_listed (negsuc n) = listed_33

times_listed : (values : Values) (times : Option Tree) → IsListed (times_of values times)
times_listed values None = tt
times_listed values (Some tree) = after_value values tree (λ value. times_in value) (λ value. times_in_listed value)

repeated_listed : (values : Values) (times : Option Tree) → IsListed (repetition_course values times)
repeated_listed values times = bind_listed (times_of values times) _ (times_listed values times) (λ n. tt)

called_listed : (number : Option ℕ) → IsListed (library_number number)
called_listed None = listed_7
called_listed (Some number) = tt

module _ (names : List (List ℕ)) (parameters : List ℤ) (opener : Statement) where
  -- a value that decides on the course
  deciding_listed : (tree : Tree) (f : ℤ → Result Course ℕ) → ((z : ℤ) → IsListed (f z)) → IsListed (turning_with parameters (value_of (values_in parameters) tree >>= f))
  deciding_listed tree f each = left_listed parameters (value_of (values_in parameters) tree >>= f) (after_value (values_in parameters) tree f each)

  repeating_listed : (times : Option Tree) → IsListed (turning_with parameters (repetition_course (values_in parameters) times))
  repeating_listed times = left_listed parameters (repetition_course (values_in parameters) times) (repeated_listed (values_in parameters) times)

  control_listed : (statement : Statement) → IsListed (control_effect names parameters opener statement)
  unfolding control_effect
  control_listed (IfJump tree j) = deciding_listed tree _ (λ value. tt)
  control_listed (If tree) = deciding_listed tree _ (λ value. tt)
  control_listed (While tree) = deciding_listed tree _ (λ value. tt)
  control_listed (Until tree) = deciding_listed tree _ (λ value. tt)
  control_listed (For index first bound) =
      bind_listed (assignment parameters index first) (λ p. bound_turning p index bound) (given_listed parameters index first) (λ p. bounded_listed p index bound)
  control_listed EndFor = continued_listed parameters opener
  control_listed (Case tree pairs default) = deciding_listed tree _ (λ value. tt)
  control_listed (RepeatFrom name times) = repeating_listed times
  control_listed (RepeatBlock name times) = repeating_listed times
  control_listed (Call name passes) =
      left_listed parameters (call_course names name passes) (bind_listed (library_number (number_of names name)) _ (called_listed (number_of names name)) (λ number. tt))
  control_listed other = tt

pub effect_listed : (equipment : SetupView) (found : SituationView) (line : ℕ) (opener statement : Statement) → IsListed (effect_of equipment found line opener statement)
unfolding effect_of
effect_listed equipment found line opener (WordBlock words) = words_effect_listed equipment found line (group_words (WordBlock words)) words
effect_listed equipment found line opener (Shape word values) =
    framed_listed found (shaped_by (values_in found.parameters) found.chain word values)
    (bind_listed (values_done (values_in found.parameters) no_values values) (λ row. shape_chain found.chain word row) (values_listed (values_in found.parameters) no_values values)
    (λ row. shaped_listed found.chain word row))
effect_listed equipment found line opener (Turn additive angle) =
    framed_listed found (turned_by (values_in found.parameters) found.chain (plane_of (word_in found [] 6)) additive angle)
    (bind_listed (option_read (values_in found.parameters) angle) (λ value. turn_chain found.chain (plane_of (word_in found [] 6)) additive value) (option_listed (values_in found.parameters) angle)
    (λ value. turned_listed found.chain (plane_of (word_in found [] 6)) additive value))
effect_listed equipment found line opener statement =
    bind_listed (control_effect equipment.names found.parameters opener statement) _ (control_listed equipment.names found.parameters opener statement) (λ t. tt)
