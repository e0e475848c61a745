-- Meaning. What the executed blocks of a channel say and do that may rest on how the channel begins.
use Rattle.std.specs.Prelude.{ℕ, ℤ, ◌==◌, ◌&&◌, ◌||◌, Bool, true, false, List, [], ◌∷◌, ◌++◌, fold, map, codes, Option, Some, None}
use Rattle.std.specs.List.{list_any}
use Rattle.std.specs.Str.{bytes_eq}
use Rattle.block_effects.specs.Effects.{group_words}
use Rattle.block_effects.specs.Words.{values_in, zeros}
use Rattle.block_motions.specs.Arcs.{is_absolute}
use Rattle.channel_machine.specs.CallLevels.{led}
use Rattle.channel_machine.specs.RunGrants.{grants_of}
use Rattle.channel_machine.specs.Run.{SurroundingsView, Executed, Deed, blocks_of, channel_at_start, does_move, opener_at, surroundings_of}
use Rattle.channel_machine.specs.Scripts.{segment_after}
use Rattle.channel_machine.specs.StartStates.{start_of}
use Rattle.channel_machine.specs.declared.levels.Levels.{Levels}
use Rattle.g_groups.specs.Modal.{modal_word}
use Rattle.g_groups.specs.declared.numbers.TheConstants.{DIAMETER_GROUP, OFFSET_GROUP}
use Rattle.job_types.specs.Job.{JobView}
use Rattle.nc_blocks.specs.Statement.{WordView, G, Axis, Aux, Statement, Empty, WordBlock}
use Rattle.sync_types.specs.Views.{RunView}
use Rattle.sync_types.specs.declared.Grant.{Grant}
use Rattle.explain_assumptions.specs.Reads.{block_reads}
use Rattle.explain_assumptions.specs.declared.remarks.Remark.{Remark}
use Rattle.explain_assumptions.specs.declared.remarks.RemarkKind.{RemarkKind}
use Rattle.explain_assumptions.specs.declared.remarks.RemarkKind.TheVariants.{SaysDiameters, ProgramsX, MovesUnder, HasTool, HasToolOffset}
use Rattle.nc_expressions.specs.Values.{Values}

-- ---- words

-- a word is DIAMON, DIAM90 or DIAMOF
abbrev pub says_diameters : WordView → Bool
says_diameters (G group code) = group == DIAMETER_GROUP
says_diameters other = false

-- a name is X; I with AC is a position in X too
abbrev pub is_x : List ℕ → Bool → Bool
is_x name absolute = bytes_eq name (codes "X") || (bytes_eq name (codes "I") && absolute)

-- a word programs X
abbrev pub programs_x : WordView → Bool
programs_x (Axis name measure t) = is_x name (is_absolute measure)
programs_x other = false

-- a name begins with a letter
abbrev pub begins_with : ℕ → List ℕ → Bool
begins_with letter [] = false
begins_with letter (first ∷ rest) = first == letter

-- a word that moves nothing begins with this letter: T, or D
abbrev pub is_letter_word : ℕ → WordView → Bool
is_letter_word letter (Aux name i o) = begins_with letter name
is_letter_word letter other = false

-- ---- blocks

abbrev pub remark : ℕ → RemarkKind → Remark
remark line kind = record { line = line; kind = kind }

-- a remark, where it is so
abbrev pub remark_if : Bool → ℕ → RemarkKind → List Remark
remark_if true line kind = remark line kind ∷ []
remark_if false line kind = []

-- what the words of a block say; that values of X are diameters holds for the whole block
unfoldable pub words_say : ℕ → List WordView → List Remark
words_say line words =
    remark_if (list_any says_diameters words) line SaysDiameters
    ++ (remark_if (list_any programs_x words) line ProgramsX
    ++ (remark_if (list_any (is_letter_word 84) words) line HasTool
    ++ remark_if (list_any (is_letter_word 68) words) line HasToolOffset))

abbrev pub statement_says : ℕ → Statement → List Remark
statement_says line (WordBlock words) = words_say line words
statement_says line other = []

-- what a block on this line says where the parameters have these values, with this beginning of the structure round it
abbrev pub block_says : Values → ℕ → (opener statement : Statement) → List Remark
block_says values line opener statement = statement_says line statement ++ block_reads values line opener statement

-- ---- a channel

-- the beginning of the structure round the block at which control is on these levels
abbrev pub opener_on : SurroundingsView → Option Levels → Statement
opener_on setting None = Empty
opener_on setting (Some levels) = opener_at setting levels.here

-- the parameters, the levels and the word that chooses the settable offset after these blocks
abbrev pub parameters_left : List Executed → List ℤ
parameters_left blocks = fold (λ _ e. e.effect.parameters) zeros blocks

abbrev pub levels_left : SurroundingsView → List Executed → Option Levels
levels_left setting blocks = fold (led setting) (channel_at_start setting).levels blocks

abbrev pub offset_word_left : List Executed → ℕ
offset_word_left blocks = modal_word (map (λ e. group_words e.block.statement) blocks) OFFSET_GROUP

-- what an executed block says and does after others
unfoldable pub remarks_in : SurroundingsView → List Executed → Executed → List Remark
remarks_in setting before done =
    block_says (values_in (parameters_left before)) done.line (opener_on setting (levels_left setting before)) done.block.statement
    ++ remark_if (does_move done) done.line (MovesUnder (offset_word_left (before ++ done ∷ [])))

-- and one block after another
abbrev pub remarks_after : SurroundingsView → List Executed → List Executed → List Remark
remarks_after setting before [] = []
remarks_after setting before (done ∷ blocks) = remarks_in setting before done ++ remarks_after setting (before ++ done ∷ []) blocks

-- all that a channel with these deeds has executed
abbrev pub remarks_of : SurroundingsView → List Deed → List Remark
remarks_of setting past = remarks_after setting [] (blocks_of past)

-- the same of a channel of a job after its segments with these grants, and of a channel of a run
unfoldable pub remarks_with : JobView → ℕ → List Grant → List Remark
remarks_with job c [] = []
remarks_with job c (first ∷ grants) = remarks_of (surroundings_of job c first) (segment_after job c (first ∷ grants)).after.past

abbrev pub remarks_in_run : JobView → RunView → ℕ → List Remark
remarks_in_run job run c = remarks_with job c (grants_of (start_of job) run.entries c)
