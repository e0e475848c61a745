-- Steps. What the code answers of a block, as a contract sees it.
use Rattle.std.specs.Prelude.{◌≡◌, ⊤, MatchResult, ℕ, ℤ, List, [], ◌∷◌, ◌++◌, Option, Result, Ok, Err}
use Rattle.axis_sets.specs.Positions.{stands}
use Rattle.frames.specs.Composition.{IsComposed}
use Rattle.frames.specs.Maps.{Map}
use Rattle.frames.specs.declared.Frame.{Frame}
use Rattle.g_groups.specs.Modal.{IsAfter}
use Rattle.g_groups.specs.declared.GWord.{GWord}
use Rattle.nc_blocks.specs.Statement.{Statement, WordView}
use Rattle.nc_control_flow.specs.Moves.{outcome_view}
use Rattle.path_geometry.specs.declared.motion.Motion.{Motion}
use Rattle.sync_types.specs.declared.Item.{Item}
use Rattle.block_effects.specs.declared.course.BlockFault.{BlockFault}
use Rattle.block_effects.specs.declared.course.BlockFault.TheVariants.{Alarm, NoMemory}
use Rattle.block_effects.specs.declared.course.Course as answer
use Rattle.block_effects.specs.declared.course.Course.TheVariants as course
use Rattle.block_effects.specs.declared.course.Done.{Done}
use Rattle.block_motions.specs.declared.axes.ChannelAxes.{ChannelAxes}
use Rattle.block_effects.specs.declared.situation.Situation.{Situation}
use Rattle.block_effects.specs.Effects.{Course, Goes, Ends, Calls, Effect, Turning, SituationView, effect_of, words_run}
use Rattle.block_effects.specs.Words.{SetupView, Progress, IsToldBy, edges_of}
use Rattle.block_effects.specs.declared.progress.WordsDone.{WordsDone}
use Rattle.tool_offsets.specs.Choices.{Choice, in_use_after}
use Rattle.tool_offsets.specs.declared.tools.ToolEdge.{ToolEdge}

abbrev pub course_view : answer.Course → Course
course_view (course.Goes outcome) = Goes (outcome_view outcome)
course_view course.Ends = Ends
course_view (course.Calls number passes) = Calls number passes

-- what the blocks of a channel with these axes find in their job
abbrev pub equipment_of : List (List ℕ) → (List ℕ → Option ℕ) → (ℕ → ℕ → ℤ) → Option (List ToolEdge) → ChannelAxes → SetupView
equipment_of names axis_named offset tools axes = record {
  names = names;
  axis_named = axis_named;
  offset = offset;
  tools = tools;
  slots = axes.slots;
  owned = axes.owned;
}

-- what a block finds in a situation, after blocks with these words of groups, with this frame and after these choices of tools and edges
abbrev pub found_in : List (List GWord) → List Map → List Choice → Situation → SituationView
found_in words chain choices s = record { parameters = s.parameters; words = words; chain = chain; choices = choices; at = stands s.at }

-- what a block leaves is what was done, where the tools have these edges
pub record IsLeft (edges : List ToolEdge) (effect : Effect) (done : Done) (new : Situation) : Type 0 where
  pub parameters : effect.parameters ≡ new.parameters
  pub frame : IsComposed effect.chain new.frame
  pub tool : new.tool ≡ in_use_after edges effect.choices
  pub item : effect.item ≡ done.item
  pub course : effect.course ≡ course_view done.course

abbrev pub Does : List ToolEdge → Result Effect ℕ → Done → Situation → Type 0
Does edges (Ok effect) done new = IsLeft edges effect done new
Does edges (Err code) done new = ⊥

-- what a block answers with the motion that it put in its place
abbrev pub answer_with : {E : Type 0} → Option Item → Result answer.Course E → Result Done E
answer_with item (Ok course) = Ok (record { item = item; course = course })
answer_with item (Err fault) = Err fault

-- the block did what it does, or has this alarm; memory may want
abbrev pub Fails : Result Effect ℕ → BlockFault → Type 0
Fails effect (Alarm code) = effect ≡ Err code
Fails effect NoMemory = ⊤

abbrev pub Leaves : List ToolEdge → Result Effect ℕ → Result Done BlockFault → Situation → Type 0
Leaves edges effect result new = MatchResult result (λ done. Does edges effect done new) (λ fault. Fails effect fault)

-- the block did what it does, or has this alarm
abbrev pub Runs : List ToolEdge → Result Effect ℕ → Result Done ℕ → Situation → Type 0
Runs edges effect result new = MatchResult result (λ done. Does edges effect done new) (λ code. effect ≡ Err code)

-- so far have the words of a block come, and it has this motion
abbrev pub TellsAll : List ToolEdge → Result (Progress × Option Motion) ℕ → List ℤ → WordsDone → Type 0
TellsAll edges (Ok both) parameters done = IsToldBy edges both.0 parameters done × (both.1 ≡ done.motion)
TellsAll edges (Err code) parameters done = ⊥

-- the words of a block have done this, and then it has this motion, or alarms
abbrev pub ActsAll : List ToolEdge → Result (Progress × Option Motion) ℕ → Result ⊤ ℕ → List ℤ → WordsDone → Type 0
ActsAll edges acted result parameters done = MatchResult result (λ _. TellsAll edges acted parameters done) (λ code. acted ≡ Err code)

-- the frame is that of the chain that was made
abbrev pub IsMade : Result (List Map) ℕ → Frame → Type 0
IsMade (Ok chain) frame = IsComposed chain frame
IsMade (Err code) frame = ⊥

-- the frame is shaped, or alarms
abbrev pub Shapes : Result (List Map) ℕ → Result ⊤ ℕ → Frame → Type 0
Shapes made result frame = MatchResult result (λ _. IsMade made frame) (λ code. made ≡ Err code)

-- a block that moves nothing leaves this course and these parameters, or alarms
abbrev pub turning_of : List ℤ → answer.Course → Turning
turning_of parameters course = record { parameters = parameters; course = course_view course }

-- a block leads on by this course, or alarms
abbrev pub Leads : Result Course ℕ → Result answer.Course ℕ → Type 0
Leads course result = MatchResult result (λ found. course ≡ Ok (course_view found)) (λ code. course ≡ Err code)

abbrev pub Turns : Result Turning ℕ → Result answer.Course ℕ → List ℤ → Type 0
Turns turning result parameters = MatchResult result (λ course. turning ≡ Ok (turning_of parameters course)) (λ code. turning ≡ Err code)

-- ---- what a block finds

-- this holds of all that a block can find in a situation: of all blocks that may have come before it, of each chain of maps that makes up its frame, and of all choices of tools and edges after which is in use what is in use there
abbrev pub HoldsOfAllFound : List ToolEdge → Situation → (List (List GWord) → Type 0) → (SituationView → Type 0) → Type 0
HoldsOfAllFound edges old MayComeBefore Holds =
    (blocks : List (List GWord)) (chain : List Map) (choices : List Choice) → MayComeBefore blocks → IsComposed chain old.frame
    → old.tool ≡ in_use_after edges choices → Holds (found_in blocks chain choices old)

-- the block does in a situation what is defined, or has the alarm that is defined; memory may want
abbrev pub DoesAsDefined : SetupView → Situation → ℕ → Statement → Statement → Result Done BlockFault → Situation → Type 0
DoesAsDefined equipment old line opener statement result new =
    HoldsOfAllFound (edges_of equipment) old (λ blocks. IsAfter blocks old.modal)
    (λ found. Leaves (edges_of equipment) (effect_of equipment found line opener statement) result new)

-- the block does in a situation what is defined, or has the alarm that is defined
abbrev pub RunsAsDefined : SetupView → Situation → ℕ → Statement → Statement → Result Done ℕ → Situation → Type 0
RunsAsDefined equipment old line opener statement result new =
    HoldsOfAllFound (edges_of equipment) old (λ blocks. IsAfter blocks old.modal)
    (λ found. Runs (edges_of equipment) (effect_of equipment found line opener statement) result new)

-- the same under the modal words that hold with the words of the block
abbrev pub RunsUnder : List ℕ → List GWord → SetupView → Situation → ℕ → Statement → Statement → Result Done ℕ → Situation → Type 0
RunsUnder modal words equipment old line opener statement result new =
    HoldsOfAllFound (edges_of equipment) old (λ blocks. IsAfter (blocks ++ words ∷ []) modal)
    (λ found. Runs (edges_of equipment) (effect_of equipment found line opener statement) result new)

-- the same of a block of words
abbrev pub WordsRunUnder : List ℕ → List GWord → SetupView → Situation → ℕ → List WordView → Result Done ℕ → Situation → Type 0
WordsRunUnder modal groups equipment old line words result new =
    HoldsOfAllFound (edges_of equipment) old (λ blocks. IsAfter (blocks ++ groups ∷ []) modal)
    (λ found. Runs (edges_of equipment) (words_run equipment found line groups words) result new)

-- the modal words afterwards are those with the words of the block
abbrev pub ModalIsAfter : List GWord → Situation → Situation → Type 0
ModalIsAfter words old new = (blocks : List (List GWord)) → IsAfter blocks old.modal → IsAfter (blocks ++ words ∷ []) new.modal
