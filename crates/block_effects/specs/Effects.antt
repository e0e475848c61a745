-- Meaning. What a block does, by what it says.
use Rattle.std.specs.Prelude.{◌≡◌, ℕ, ◌+◌, ◌*◌, ◌%◌, ◌/◌, ℤ, pos, negsuc, Bool, true, false, not, ◌&&◌, ◌||◌, ◌==◌, nat_lt, int_lt, if◌then◌else◌, List, [], ◌∷◌, ◌++◌, find, filter_map, is_some, position, Option, Some, None, option_map, Result, Ok, Err}
use Rattle.std.specs.List.{list_any}
use Rattle.std.specs.Option.{option_or}
use Rattle.std.specs.Ordering.{int_eq}
use Rattle.std.specs.Str.{bytes_eq}
use Rattle.block_motions.specs.Arcs.{arc_motion}
use Rattle.block_motions.specs.declared.words.ArcWords.{ArcWords}
use Rattle.block_motions.specs.Goals.{ConditionsView, is_any}
use Rattle.block_motions.specs.Motions.{straight_motion}
use Rattle.block_motions.specs.declared.goals.Targets.{Targets}
use Rattle.frames.specs.Maps.{Map}
use Rattle.g_groups.specs.Modal.{modal_word, has_group_twice}
use Rattle.g_groups.specs.declared.GWord.{GWord}
use Rattle.nc_blocks.specs.declared.blocks.JumpTo.{JumpTo}
use Rattle.nc_blocks.specs.Statement.{WordView, G, Statement, WordBlock, Jump, IfJump, If, While, Until, For, EndFor, Case, RepeatFrom, RepeatBlock, Call, Return, Shape, Turn}
use Rattle.nc_control_flow.specs.Moves.{OutcomeView}
use Rattle.nc_control_flow.specs.Moves as outcome
use Rattle.nc_expressions.specs.Tree.{Tree}
use Rattle.nc_expressions.specs.Value.{◌>>=◌, is_true, value_of}
use Rattle.nc_expressions.specs.Values.{Values}
use Rattle.path_geometry.specs.declared.motion.Motion.{Motion}
use Rattle.sync_types.specs.declared.Item.{Item}
use Rattle.sync_types.specs.declared.Part.TheVariants.{Move}
use Rattle.block_effects.specs.Shapes.{shaped_by, turned_by, plane_of}
use Rattle.block_effects.specs.Words.{SetupView, Progress, edges_of, values_in, assignment, increment, first_progress, words_done}
use Rattle.tool_offsets.specs.Choices.{Choice, lengths_after}
use Rattle.tool_offsets.specs.declared.tools.Lengths.{Lengths}
use Rattle.fault_codes.specs.declared.alarms.TheConstants.{REPETITION_COUNT, NO_SUCH_PROGRAM, ARC_WORDS, GROUP_TWICE}
use Rattle.g_groups.specs.declared.numbers.TheConstants.{MOTION_GROUP, DWELL_GROUP, AREA_GROUP, PLANE_GROUP, OFFSET_GROUP}
use Rattle.nc_blocks.specs.declared.limits.TheConstants.{PASS_LIMIT}

-- what becomes of control after a block: it goes on in its program by this outcome; or the program ends, which is a return on a lower level; or the program of this number runs, so many times
pub data Course : Type 0 where
  Goes : OutcomeView → Course
  Ends : Course
  Calls : ℕ → ℕ → Course

-- what a block leaves: the parameters, the frame, the choices of tools and edges up to it, its motion with its line, and what becomes of control
pub record Effect : Type 0 where
  pub parameters : List ℤ
  pub chain : List Map
  pub choices : List Choice
  pub item : Option Item
  pub course : Course

-- what a block leaves that moves no axis and shapes no frame
pub record Turning : Type 0 where
  pub parameters : List ℤ
  pub course : Course

-- with these parameters control goes on by this outcome
abbrev pub course_by : List ℤ → OutcomeView → Turning
course_by parameters outcome = record { parameters = parameters; course = Goes outcome }

-- a block that gives no parameter a value leaves these parameters and takes this course
abbrev pub turning_with : List ℤ → Result Course ℕ → Result Turning ℕ
turning_with parameters found = found >>= λ course. Ok (record { parameters = parameters; course = course })

-- ---- jumps

abbrev pub jump_outcome : JumpTo → OutcomeView
jump_outcome j = outcome.Jump j.way j.target

abbrev pub jumped_if : Bool → JumpTo → OutcomeView
jumped_if true j = jump_outcome j
jumped_if false j = outcome.Plain

-- a jump, if there is one
abbrev pub jumped_some : Option JumpTo → OutcomeView
jumped_some (Some j) = jump_outcome j
jumped_some None = outcome.Plain

-- the jump of the first number that equals the value
abbrev pub first_equal : ℤ → List (ℤ × JumpTo) → Option JumpTo
first_equal value pairs = option_map (λ pair. pair.1) (find (λ pair. int_eq value pair.0) pairs)

-- and where there is none, that of DEFAULT
abbrev pub case_outcome : ℤ → List (ℤ × JumpTo) → Option JumpTo → OutcomeView
case_outcome value pairs default = jumped_some (option_or (first_equal value pairs) default)

-- a jump where a condition holds
abbrev pub jump_course : Values → Tree → JumpTo → Result Course ℕ
jump_course values tree j = value_of values tree >>= λ value. Ok (Goes (jumped_if (is_true value) j))

-- the jump that a value chooses
abbrev pub choice : Values → Tree → List (ℤ × JumpTo) → Option JumpTo → Result Course ℕ
choice values tree pairs default = value_of values tree >>= λ value. Ok (Goes (case_outcome value pairs default))

-- ---- conditions

-- a condition holds where its value is not 0
abbrev pub condition_course : Values → Tree → Result Course ℕ
condition_course values tree = value_of values tree >>= λ value. Ok (Goes (outcome.Truth (is_true value)))

-- once more round a FOR, where its parameter is not above the bound
abbrev pub bound_course : Values → ℕ → Tree → Result Course ℕ
bound_course values index bound =
    value_of values bound >>= λ value. Ok (Goes (outcome.Truth (not (int_lt value (values.parameter index)))))

-- the same where these parameters are left
abbrev pub bound_turning : List ℤ → ℕ → Tree → Result Turning ℕ
bound_turning parameters index bound = turning_with parameters (bound_course (values_in parameters) index bound)

-- FOR sets its parameter and then looks at its bound
abbrev pub for_begun : List ℤ → ℕ → Tree → Tree → Result Turning ℕ
for_begun parameters index first bound = assignment parameters index first >>= λ p. bound_turning p index bound

-- ENDFOR adds 1 to the parameter of its FOR and then looks at the bound
abbrev pub once_more : List ℤ → ℕ → Tree → Result Turning ℕ
once_more parameters index bound = increment parameters index >>= λ p. bound_turning p index bound

abbrev pub for_continued : List ℤ → Statement → Result Turning ℕ
for_continued parameters (For index first bound) = once_more parameters index bound
for_continued parameters other = Ok (course_by parameters outcome.Plain)

-- ---- repetitions

-- a number of times is whole, and not more than may be asked for
unfoldable pub times_in : ℤ → Result ℕ ℕ
times_in (pos n) = if n % 1000000 == 0 && nat_lt n ((PASS_LIMIT + 1) * 1000000) then Ok (n / 1000000) else Err REPETITION_COUNT
times_in (negsuc n) = Err REPETITION_COUNT

-- without a number it is once
abbrev pub times_of : Values → Option Tree → Result ℕ ℕ
times_of values None = Ok 1
times_of values (Some tree) = value_of values tree >>= λ value. times_in value

-- a repetition, so many times
abbrev pub repetition_course : Values → Option Tree → Result Course ℕ
repetition_course values times = times_of values times >>= λ n. Ok (Goes (outcome.Again n))

-- ---- calls

-- the number of the program of this name among the names of the library
abbrev pub number_of : List (List ℕ) → List ℕ → Option ℕ
number_of names name = position (λ n. bytes_eq n name) names

-- an alarm where the library has none
abbrev pub library_number : Option ℕ → Result ℕ ℕ
library_number (Some number) = Ok number
library_number None = Err NO_SUCH_PROGRAM

-- the program of this name runs so many times
abbrev pub call_course : List (List ℕ) → List ℕ → ℕ → Result Course ℕ
call_course names name passes = library_number (number_of names name) >>= λ number. Ok (Calls number passes)

-- ---- blocks

-- what a block does that moves no axis and shapes no frame, or its first alarm
unfoldable pub control_effect : List (List ℕ) → List ℤ → Statement → Statement → Result Turning ℕ
control_effect names parameters opener (Jump j) = Ok (course_by parameters (jump_outcome j))
control_effect names parameters opener (IfJump tree j) = turning_with parameters (jump_course (values_in parameters) tree j)
control_effect names parameters opener (If tree) = turning_with parameters (condition_course (values_in parameters) tree)
control_effect names parameters opener (While tree) = turning_with parameters (condition_course (values_in parameters) tree)
control_effect names parameters opener (Until tree) = turning_with parameters (condition_course (values_in parameters) tree)
control_effect names parameters opener (For index first bound) = for_begun parameters index first bound
control_effect names parameters opener EndFor = for_continued parameters opener
control_effect names parameters opener (Case tree pairs default) = turning_with parameters (choice (values_in parameters) tree pairs default)
control_effect names parameters opener (RepeatFrom name times) = turning_with parameters (repetition_course (values_in parameters) times)
control_effect names parameters opener (RepeatBlock name times) = turning_with parameters (repetition_course (values_in parameters) times)
control_effect names parameters opener (Call name passes) = turning_with parameters (call_course names name passes)
control_effect names parameters opener Return = Ok (record { parameters = parameters; course = Ends })
control_effect names parameters opener other = Ok (course_by parameters outcome.Plain)

-- the words of groups in a block; only word blocks have some
abbrev pub group_word : WordView → Option GWord
group_word (G group code) = Some (record { group = group; code = code })
group_word other = None

unfoldable pub group_words : Statement → List GWord
group_words (WordBlock words) = filter_map group_word words
group_words other = []

-- in a block with G4, G25 or G26 no axis moves
unfoldable pub stands_still : List GWord → Bool
stands_still words = list_any (λ word. word.group == DWELL_GROUP || word.group == AREA_GROUP) words

-- what a block finds: the parameters, the words of groups in each block before it, the frame, the choices of tools and edges, and where the axes stand
pub record SituationView : Type 0 where
  pub parameters : List ℤ
  pub words : List (List GWord)
  pub chain : List Map
  pub choices : List Choice
  pub at : ℕ → ℤ

-- the word of a group that holds in a block with these words of groups
abbrev pub word_in : SituationView → List GWord → ℕ → ℕ
word_in found words group = modal_word (found.words ++ words ∷ []) group

-- the length in a slot: along X and Z the tool has one
abbrev pub length_in : Lengths → ℕ → ℤ
length_in lengths slot = if slot == 0 then lengths.x else if slot == 2 then lengths.z else pos 0

-- what holds after blocks with these words of groups, under this frame, with these offsets and these lengths of the tool
abbrev pub held_after : (ℕ → ℕ → ℤ) → List (List GWord) → List Map → Lengths → ConditionsView
held_after offset blocks chain lengths = record {
  word = modal_word blocks;
  chain = chain;
  offset = λ slot. offset (modal_word blocks OFFSET_GROUP) slot;
  length = length_in lengths;
}

-- what holds in a block with these words of groups, after these choices: the lengths are those after all its words
abbrev pub in_force : SetupView → SituationView → List GWord → List Choice → ConditionsView
in_force equipment found words choices =
    held_after equipment.offset (found.words ++ words ∷ []) found.chain (lengths_after (edges_of equipment) choices)

-- G2 and G3 make arcs
abbrev pub is_arc : ConditionsView → Bool
is_arc h = h.word MOTION_GROUP == 2 || h.word MOTION_GROUP == 3

-- words of an arc that may not stand where no arc is made: a radius, and a centre but under G33, where I, J and K are pitches
abbrev pub has_stray_words : ConditionsView → ArcWords → Bool
has_stray_words h words = is_some words.radius || (not (h.word MOTION_GROUP == 33) && is_any words.centre)

-- an arc, or else a straight line or a rapid
abbrev pub motion_made : List (Option ℕ) → List Bool → ConditionsView → (ℕ → ℤ) → Targets → ArcWords → Result (Option Motion) ℕ
motion_made slots owned h at targets arc = if is_arc h then arc_motion slots owned h at targets arc else straight_motion slots owned h at targets

-- the motion of a block with these words of groups that programs these values and these words of an arc; none where it stands still. An alarm, before the others of a motion and also where it stands still, where it makes no arc and has words of one that may not stand there
unfoldable pub moved_or_still : List (Option ℕ) → List Bool → ConditionsView → (ℕ → ℤ) → List GWord → Targets → ArcWords → Result (Option Motion) ℕ
moved_or_still slots owned h at words targets arc =
    if not (is_arc h) && has_stray_words h arc then Err ARC_WORDS
    else if stands_still words then Ok None
    else motion_made slots owned h at targets arc

abbrev pub words_moved : SetupView → SituationView → List GWord → Progress → Result (Option Motion) ℕ
words_moved equipment found words p =
    moved_or_still equipment.slots equipment.owned (in_force equipment found words p.choices) found.at words p.targets p.arc

-- a motion is what a block on this line does
abbrev pub item_on : ℕ → Motion → Item
item_on line motion = record { line = line; part = Move motion }

abbrev pub course_of : Bool → Course
course_of ends = if ends then Ends else Goes outcome.Plain

-- what words do after others that have come so far, and the motion of the block after its last word, or the first alarm
abbrev pub words_then_motion : SetupView → (Lengths → ConditionsView) → (ℕ → ℤ) → List GWord → Progress → List WordView → Result (Progress × Option Motion) ℕ
words_then_motion equipment held at groups p words =
    words_done equipment p words >>= λ q.
    moved_or_still equipment.slots equipment.owned (held (lengths_after (edges_of equipment) q.choices)) at groups q.targets q.arc >>= λ motion.
    Ok (q, motion)

-- the words act from left to right, and then the axes move
abbrev pub words_run : SetupView → SituationView → ℕ → List GWord → List WordView → Result Effect ℕ
words_run equipment found line groups words =
    words_done equipment (first_progress found.parameters found.choices) words >>= λ p.
    words_moved equipment found groups p >>= λ motion.
    Ok (record { parameters = p.parameters; chain = found.chain; choices = p.choices; item = option_map (item_on line) motion; course = course_of p.ends })

-- an alarm, before all others, where two words of one group stand in the block
abbrev pub words_effect : SetupView → SituationView → ℕ → List GWord → List WordView → Result Effect ℕ
words_effect equipment found line groups words = if has_group_twice groups then Err GROUP_TWICE else words_run equipment found line groups words

-- a block of a frame leaves all but the frame
abbrev pub frame_effect : SituationView → Result (List Map) ℕ → Result Effect ℕ
frame_effect found made =
    made >>= λ chain.
    Ok (record { parameters = found.parameters; chain = chain; choices = found.choices; item = None; course = Goes outcome.Plain })

abbrev pub turned_only : SituationView → Result Turning ℕ → Result Effect ℕ
turned_only found turning =
    turning >>= λ t.
    Ok (record { parameters = t.parameters; chain = found.chain; choices = found.choices; item = None; course = t.course })

-- what a block on this line does, or its first alarm; `opener` is the block that begins the structure round it. A turn is in the plane that holds before the block
unfoldable pub effect_of : SetupView → SituationView → ℕ → Statement → Statement → Result Effect ℕ
effect_of equipment found line opener (WordBlock words) = words_effect equipment found line (group_words (WordBlock words)) words
effect_of equipment found line opener (Shape word values) =
    frame_effect found (shaped_by (values_in found.parameters) found.chain word values)
effect_of equipment found line opener (Turn additive angle) =
    frame_effect found (turned_by (values_in found.parameters) found.chain (plane_of (word_in found [] PLANE_GROUP)) additive angle)
effect_of equipment found line opener other = turned_only found (control_effect equipment.names found.parameters opener other)

-- whether a block with this course looks for where it leads, and may find nothing: it jumps, repeats or calls
abbrev pub searches : Course → Bool
searches (Goes (outcome.Jump way target)) = true
searches (Goes (outcome.Again times)) = true
searches (Goes other) = false
searches Ends = false
searches (Calls number passes) = true

-- a block leaves the parameters, the frame and the choices as it finds them, and has no motion
pub record IsStill (found : SituationView) (effect : Effect) : Type 0 where
  pub parameters : effect.parameters ≡ found.parameters
  pub chain : effect.chain ≡ found.chain
  pub choices : effect.choices ≡ found.choices
  pub item : effect.item ≡ None
