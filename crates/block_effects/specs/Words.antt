-- Meaning. What the words of a block do, one after another from left to right.
use Rattle.std.specs.Prelude.{◌≡◌, ◌≤◌, ⊤, MatchOption, MatchResult, ℕ, ◌==◌, ◌%◌, ◌/◌, ◌||◌, ℤ, pos, negsuc, ◌+ℤ◌, Bool, true, false, if◌then◌else◌, is_some, List, [], ◌∷◌, codes, replicate, slice_index_or, slice_set, Option, None, Some, option_map, unwrap_or, Result, Ok, Err}
use Rattle.std.specs.List.{list_any}
use Rattle.std.specs.Str.{bytes_eq}
use Rattle.block_motions.specs.Goals.{is_any}
use Rattle.block_motions.specs.declared.words.ArcWords.{ArcWords}
use Rattle.block_motions.specs.declared.goals.Programmed.{Programmed}
use Rattle.block_motions.specs.declared.goals.Targets.{Targets}
use Rattle.nc_blocks.specs.AxisNames.{slot_named}
use Rattle.nc_blocks.specs.declared.blocks.Measure.{Measure}
use Rattle.nc_expressions.specs.Symbols.{index_of}
use Rattle.nc_expressions.specs.Tree.{Tree}
use Rattle.nc_expressions.specs.Value.{◌>>=◌, in_range_or_alarm, value_of}
use Rattle.nc_expressions.specs.Values.{Values}
use Rattle.nc_blocks.specs.Statement.{OperandView, Value, Text, AxisName, WordView, Assign, AssignAt, G, Axis, Radius, Aux, End}
use Rattle.block_effects.specs.declared.parameters.Change.{Change}
use Rattle.block_effects.specs.declared.progress.WordsDone.{WordsDone}
use Rattle.fault_codes.specs.declared.alarms.TheConstants.{PARAMETER_INDEX, ADDRESS_TWICE, NO_SUCH_AXIS, NO_SUCH_TOOL, GEOMETRY_AXIS_BY_NAME}
use Rattle.nc_expressions.specs.declared.limits.TheConstants.{PARAMETER_LIMIT, LAST_PARAMETER}
use Rattle.axis_sets.specs.declared.limits.TheConstants.{AXIS_LIMIT}
use Rattle.tool_offsets.specs.Choices.{Choice, OfTool, OfEdge, choices_with, in_use_after}
use Rattle.tool_offsets.specs.declared.tools.ToolEdge.{ToolEdge}

-- ---- parameters

-- the value of the parameter of a number
abbrev pub parameter_in : List ℤ → ℕ → ℤ
parameter_in parameters index = slice_index_or parameters index (pos 0)

-- at the start all parameters are 0
unfoldable pub zeros : List ℤ
zeros = replicate PARAMETER_LIMIT (pos 0)

-- what an expression reads where the parameters have these values
abbrev pub values_in : List ℤ → Values
values_in parameters = record { parameter = parameter_in parameters }

-- a parameter gets the value of an expression
abbrev pub assignment : List ℤ → ℕ → Tree → Result (List ℤ) ℕ
assignment parameters index tree = value_of (values_in parameters) tree >>= λ value. Ok (slice_set parameters index value)

-- a parameter becomes 1 more; an alarm where it leaves the range
abbrev pub increment : List ℤ → ℕ → Result (List ℤ) ℕ
increment parameters index = in_range_or_alarm (parameter_in parameters index +ℤ pos 1000000) >>= λ value. Ok (slice_set parameters index value)

-- an alarm where an index is no number of a parameter
abbrev pub index_in : Option ℕ → Result ℕ ℕ
index_in (Some index) = Ok index
index_in None = Err PARAMETER_INDEX

-- ---- axes

-- what the programs of a channel find in their job and in the channel: the names of the programs in the order of their numbers, the axis with a name, the settable offset of a slot under a word of its group in micrometres, the edges of the tools of the channel, or none where it has no tools; the axes in the slots X, Y and Z, and whether the channel owns an axis
pub record SetupView : Type 0 where
  pub names : List (List ℕ)
  pub axis_named : List ℕ → Option ℕ
  pub offset : ℕ → ℕ → ℤ
  pub tools : Option (List ToolEdge)
  pub slots : List (Option ℕ)
  pub owned : List Bool

abbrev pub is_this : ℕ → Option ℕ → Bool
is_this axis None = false
is_this axis (Some other) = other == axis

-- the axis stands in a slot
abbrev pub is_in_slot : List (Option ℕ) → ℕ → Bool
is_in_slot slots axis = list_any (is_this axis) slots

-- a value more in its place; an alarm where a word before has programmed it
unfoldable pub programmed_once : List (Option Programmed) → ℕ → Programmed → Result (List (Option Programmed)) ℕ
programmed_once row place value = if is_some (slice_index_or row place None) then Err ADDRESS_TWICE else Ok (slice_set row place (Some value))

-- X, Y or Z is programmed; an alarm where its slot has no axis
unfoldable pub slot_programmed : List (Option ℕ) → Targets → ℕ → Programmed → Result Targets ℕ
slot_programmed slots targets slot value =
    if is_some (slice_index_or slots slot None) then (programmed_once targets.slots slot value >>= λ row. Ok (record targets { slots = row }))
    else Err NO_SUCH_AXIS

-- an axis is programmed by its own name; an alarm where the job has none of this name, and another where it stands in a slot
unfoldable pub named_programmed : List (Option ℕ) → Targets → Option ℕ → Programmed → Result Targets ℕ
named_programmed slots targets None value = Err NO_SUCH_AXIS
named_programmed slots targets (Some axis) value =
    if is_in_slot slots axis then Err GEOMETRY_AXIS_BY_NAME
    else programmed_once targets.axes axis value >>= λ row. Ok (record targets { axes = row })

abbrev pub programmed_by : SetupView → Targets → List ℕ → Option ℕ → Programmed → Result Targets ℕ
programmed_by equipment targets name (Some slot) value = slot_programmed equipment.slots targets slot value
programmed_by equipment targets name None value = named_programmed equipment.slots targets (equipment.axis_named name) value

-- ---- tools

-- the edges of a channel's tools; none where it has no tools
abbrev pub edges_of : SetupView → List ToolEdge
edges_of equipment = unwrap_or equipment.tools []

-- the name begins with this letter
abbrev pub begins_with : ℕ → List ℕ → Bool
begins_with letter [] = false
begins_with letter (first ∷ rest) = first == letter

-- the whole number that a value in millionths is; none where there is no value, or one that is below 0 or not whole
unfoldable pub number_in : Option ℤ → Option ℕ
number_in None = None
number_in (Some (pos n)) = if n % 1000000 == 0 then Some (n / 1000000) else None
number_in (Some (negsuc n)) = None

-- with a choice more; alarm 34 where none is given
abbrev pub choices_with_some : List ToolEdge → List Choice → Option Choice → Result (List Choice) ℕ
choices_with_some edges choices None = Err NO_SUCH_TOOL
choices_with_some edges choices (Some choice) = choices_with edges choices choice

-- with the tool that a word T of this value chooses, and with the edge that a word D chooses
abbrev pub tool_chosen : List ToolEdge → List Choice → Option ℤ → Result (List Choice) ℕ
tool_chosen edges choices value = choices_with_some edges choices (option_map OfTool (number_in value))

abbrev pub edge_chosen : List ToolEdge → List Choice → Option ℤ → Result (List Choice) ℕ
edge_chosen edges choices value = choices_with_some edges choices (option_map OfEdge (number_in value))

-- the choices with that of an auxiliary word of this name and value: T, which is 84, chooses a tool, D, which is 68, an edge, with digits before its value or without; other words choose nothing, and where the channel has no tools none does
unfoldable pub chosen : Option (List ToolEdge) → List Choice → List ℕ → Option ℤ → Result (List Choice) ℕ
chosen None choices name value = Ok choices
chosen (Some edges) choices name value =
    if begins_with 84 name then tool_chosen edges choices value
    else if begins_with 68 name then edge_chosen edges choices value
    else Ok choices

-- ---- words of arcs

-- the axis X, Y or Z of a word of the centre
abbrev pub centre_named : List ℕ → Option ℕ
centre_named name =
    if bytes_eq name (codes "I") then Some 0
    else if bytes_eq name (codes "J") then Some 1
    else if bytes_eq name (codes "K") then Some 2
    else None

-- no word of an arc
unfoldable pub no_arc : ArcWords
no_arc = record { centre = replicate 3 None; radius = None }

-- a word of the centre more; an alarm where a word before has programmed it
abbrev pub with_centre_word : ArcWords → ℕ → Programmed → Result ArcWords ℕ
with_centre_word words axis value = programmed_once words.centre axis value >>= λ row. Ok (record words { centre = row })

-- the radius; an alarm where a word before has programmed it
abbrev pub with_radius : ArcWords → ℤ → Result ArcWords ℕ
with_radius words value = if is_some words.radius then Err ADDRESS_TWICE else Ok (record words { radius = Some value })

-- something is programmed for an axis or an arc
abbrev pub moves : Targets → ArcWords → Bool
moves targets arc = is_any targets.slots || (is_any targets.axes || (is_any arc.centre || is_some arc.radius))

-- ---- words

-- how far the words of a block have come: the parameters, the values that are programmed, the words of an arc, the choices of tools and edges, those of the blocks before it too, and whether the program ends after the block
pub record Progress : Type 0 where
  pub parameters : List ℤ
  pub targets : Targets
  pub arc : ArcWords
  pub choices : List Choice
  pub ends : Bool

-- before the first word of a block: the parameters and the choices are as they are, and nothing is programmed
unfoldable pub nothing_programmed : Targets
nothing_programmed = record { slots = replicate 3 None; axes = replicate AXIS_LIMIT None }

abbrev pub first_progress : List ℤ → List Choice → Progress
first_progress parameters choices = record { parameters = parameters; targets = nothing_programmed; arc = no_arc; choices = choices; ends = false }

-- the index comes before the value
abbrev pub given_at : List ℤ → Tree → Tree → Result (List ℤ) ℕ
given_at parameters at tree = value_of (values_in parameters) at >>= λ z. index_in (index_of z) >>= λ index. assignment parameters index tree

-- a word changes the parameters alone
abbrev pub with_parameters : Progress → Result (List ℤ) ℕ → Result Progress ℕ
with_parameters p values = values >>= λ parameters. Ok (record p { parameters = parameters })

-- a word programs an axis alone
abbrev pub with_targets : Progress → Result Targets ℕ → Result Progress ℕ
with_targets p targets = targets >>= λ new. Ok (record p { targets = new })

-- a word programs a centre or a radius alone
abbrev pub with_arc_words : Progress → Result ArcWords ℕ → Result Progress ℕ
with_arc_words p words = words >>= λ new. Ok (record p { arc = new })

-- a word chooses a tool or an edge alone
abbrev pub with_choices : Progress → Result (List Choice) ℕ → Result Progress ℕ
with_choices p choices = choices >>= λ new. Ok (record p { choices = new })

abbrev pub programmed_value : Measure → ℤ → Programmed
programmed_value measure value = record { measure = measure; value = value }

-- a value that is found and not used
abbrev pub option_read : Values → Option Tree → Result (Option ℤ) ℕ
option_read values None = Ok None
option_read values (Some tree) = value_of values tree >>= λ value. Ok (Some value)

-- the value of an operand, where it has one
abbrev pub operand_read : Values → OperandView → Result (Option ℤ) ℕ
operand_read values (Value tree) = value_of values tree >>= λ value. Ok (Some value)
operand_read values (Text bytes) = Ok None
operand_read values (AxisName bytes) = Ok None

-- the bracket comes before the operand
abbrev pub aux_read : Values → Option Tree → OperandView → Result (Option ℤ) ℕ
aux_read values index operand = option_read values index >>= λ _. operand_read values operand

-- I, J and K are words of the centre, and all others program axes
abbrev pub word_progress : SetupView → Progress → List ℕ → Option ℕ → Programmed → Result Progress ℕ
word_progress equipment p name (Some axis) value = with_arc_words p (with_centre_word p.arc axis value)
word_progress equipment p name None value = with_targets p (programmed_by equipment p.targets name (slot_named name) value)

-- what a word does, or its first alarm: words of groups hold for the whole block
unfoldable pub word_done : SetupView → Progress → WordView → Result Progress ℕ
word_done equipment p (Assign index tree) = with_parameters p (assignment p.parameters index tree)
word_done equipment p (AssignAt at tree) = with_parameters p (given_at p.parameters at tree)
word_done equipment p (G group code) = Ok p
word_done equipment p (Axis name measure tree) =
    value_of (values_in p.parameters) tree >>= λ value. word_progress equipment p name (centre_named name) (programmed_value measure value)
word_done equipment p (Radius tree) = value_of (values_in p.parameters) tree >>= λ value. with_arc_words p (with_radius p.arc value)
word_done equipment p (Aux name index operand) =
    aux_read (values_in p.parameters) index operand >>= λ value. with_choices p (chosen equipment.tools p.choices name value)
word_done equipment p End = Ok (record p { ends = true })

-- one word after another; the first alarm counts
abbrev pub words_done : SetupView → Progress → List WordView → Result Progress ℕ
words_done equipment p [] = Ok p
words_done equipment p (word ∷ words) = word_done equipment p word >>= λ q. words_done equipment q words

-- ---- answers

abbrev pub progress_of : List ℤ → List Choice → WordsDone → Progress
progress_of parameters choices done = record { parameters = parameters; targets = done.targets; arc = done.arc; choices = choices; ends = done.ends }

-- so far have the words come; what is kept of the choices is what is in use after them
pub record IsToldBy (edges : List ToolEdge) (p : Progress) (parameters : List ℤ) (done : WordsDone) : Type 0 where
  pub same : p ≡ progress_of parameters p.choices done
  pub tool : done.tool ≡ in_use_after edges p.choices

abbrev pub Tells : List ToolEdge → Result Progress ℕ → List ℤ → WordsDone → Type 0
Tells edges (Ok p) parameters done = IsToldBy edges p parameters done
Tells edges (Err code) parameters done = ⊥

-- where no word was one of an axis or an arc, nothing is programmed
pub record TellsOfMoves (done : WordsDone) : Type 0 where
  pub targets : done.moves ≡ false → done.targets ≡ nothing_programmed
  pub arc : done.moves ≡ false → done.arc ≡ no_arc

-- a word has done this, or alarms
abbrev pub ActsOn : List ToolEdge → Result Progress ℕ → Result (Option Change) ℕ → List ℤ → WordsDone → Type 0
ActsOn edges acted result parameters done = MatchResult result (λ _. Tells edges acted parameters done) (λ code. acted ≡ Err code)

-- the words have done this, or alarm
abbrev pub Acts : Result Progress ℕ → Result ⊤ ℕ → Progress → Type 0
Acts done result new = MatchResult result (λ _. done ≡ Ok new) (λ code. done ≡ Err code)

-- a word of an arc is programmed, or alarms
abbrev pub Curves : Result ArcWords ℕ → Result ⊤ ℕ → ArcWords → Type 0
Curves with_arc_words result new = MatchResult result (λ _. with_arc_words ≡ Ok new) (λ code. with_arc_words ≡ Err code)

-- an axis is programmed, or alarms
abbrev pub Aims : Result Targets ℕ → Result ⊤ ℕ → Targets → Type 0
Aims with_targets result new = MatchResult result (λ _. with_targets ≡ Ok new) (λ code. with_targets ≡ Err code)

-- a value is in its place, or alarms
abbrev pub IsPut : Result (List (Option Programmed)) ℕ → Result ⊤ ℕ → List (Option Programmed) → Type 0
IsPut put result new = MatchResult result (λ _. put ≡ Ok new) (λ code. put ≡ Err code)

abbrev pub IsGiven : Result (List ℤ) ℕ → Result Change ℕ → List ℤ → Type 0
IsGiven assignment result new = MatchResult result (λ _. assignment ≡ Ok new) (λ code. assignment ≡ Err code)

-- the parameters as they were before a change of one of them
abbrev pub parameters_before : List ℤ → Change → List ℤ
parameters_before parameters change = slice_set parameters change.index change.before

-- a change of a parameter that there is leads back to the parameters before it; after an alarm there is none
abbrev pub IsUndone : Result Change ℕ → List ℤ → List ℤ → Type 0
IsUndone result old new = MatchResult result (λ change. (change.index ≤ LAST_PARAMETER) × (parameters_before new change ≡ old)) (λ _. new ≡ old)

-- the same, where a word may change none
abbrev pub IsUndoneSome : Result (Option Change) ℕ → List ℤ → List ℤ → Type 0
IsUndoneSome result old new = MatchResult result (λ o. MatchOption o (new ≡ old) (λ change. (change.index ≤ LAST_PARAMETER) × (parameters_before new change ≡ old))) (λ _. new ≡ old)
