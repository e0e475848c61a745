-- What comes of the steps of a block.
use Rattle.std.proofs.Common.{◌≡◌, ◌∙◌, ℕ, ℤ, Bool, true, false, cond, List, [], ◌∷◌, ◌++◌, Option, None, Some, option_map, Result, Ok, Err, sym, ap, subst, refl}
use Rattle.std.specs.Prelude.{IsTrue, IsErrAnd}
use Rattle.g_groups.specs.declared.GWord.{GWord}
use Rattle.g_groups.specs.Modal.{has_group_twice}
use Rattle.nc_expressions.specs.Value.{◌>>=◌}
use Rattle.nc_blocks.specs.Statement.{WordView, Statement, WordBlock}
use Rattle.block_motions.specs.Motions.{StandsAtEndOf}
use Rattle.path_geometry.specs.declared.motion.Motion.{Motion}
use Rattle.sync_types.specs.Items.{StandsAtEnd}
use Rattle.sync_types.specs.declared.Item.{Item}
use Rattle.block_effects.specs.declared.course.Course.{Course}
use Rattle.block_effects.specs.declared.course.Done.{Done}
use Rattle.block_effects.specs.declared.situation.Situation.{Situation}
use Rattle.block_effects.specs.Courses.{Does, Runs, TellsAll, answer_with, course_view}
use Rattle.block_effects.specs.Effects.{Effect, SituationView, words_then_motion, course_of, held_after, item_on, words_moved, words_run, group_words, effect_of}
use Rattle.block_effects.specs.Words.{SetupView, Progress, first_progress, no_arc, nothing_programmed, progress_of, words_done}
use Rattle.frames.specs.Composition.{IsComposed}
use Rattle.tool_offsets.specs.Choices.{Choice}
use Rattle.tool_offsets.specs.declared.tools.ToolEdge.{ToolEdge}
use Rattle.block_effects.specs.declared.progress.WordsDone.{WordsDone}

-- what a block of words leaves
abbrev pub left : ℕ → SituationView → Progress → Option Motion → Effect
left line found p motion = record {
  parameters = p.parameters;
  chain = found.chain;
  choices = p.choices;
  item = option_map (item_on line) motion;
  course = course_of p.ends;
}

-- where a motion takes the axes, there it takes them with its line
pub stands_with_line : (line : ℕ) (motion : Option Motion) (old new : List (Option ℤ)) → StandsAtEndOf motion old new → StandsAtEnd (option_map (item_on line) motion) old new
stands_with_line line None old new stand = stand
stands_with_line line (Some motion) old new stand = stand

-- before its first word a block has done nothing
pub begun_is : (parameters : List ℤ) (choices : List Choice) (done : WordsDone) → done.targets ≡ nothing_programmed → done.arc ≡ no_arc → done.ends ≡ false
    → progress_of parameters choices done ≡ first_progress parameters choices
begun_is parameters choices done targets arc ends = rw (targets, arc, ends) refl

-- a value with what comes of it
abbrev paired : {X Y : Type 0} → X → Y → Result (X × Y) ℕ
paired x y = Ok (x, y)

bind_pair : {X Y Z : Type 0} (r : Result X ℕ) (g : X → Result Y ℕ) (f : X → Y → Z)
    → (r >>= λ x. g x >>= λ y. Ok (f x y)) ≡ ((r >>= λ x. g x >>= λ y. paired x y) >>= λ both. Ok (f both.0 both.1))
bind_pair {X} {Y} {Z} (Ok x) g f = by_next (g x)
  where
    by_next : (o : Result Y ℕ) → (o >>= λ y. Ok (f x y)) ≡ ((o >>= λ y. paired x y) >>= λ both. Ok (f both.0 both.1))
    by_next (Ok y) = refl
    by_next (Err code) = refl
bind_pair (Err code) g f = refl

module _ (equipment : SetupView) (found : SituationView) (line : ℕ) (groups : List GWord) (words : List WordView) where
  -- the words have acted and the axes have moved, or alarm
  pub words_end : (r : Result (Progress × Option Motion) ℕ)
      → words_then_motion equipment (held_after equipment.offset (found.words ++ groups ∷ []) found.chain) found.at groups (first_progress found.parameters found.choices) words ≡ r
      → words_run equipment found line groups words ≡ (r >>= λ both. Ok (left line found both.0 both.1))
  words_end r is =
      bind_pair (words_done equipment (first_progress found.parameters found.choices) words) (λ p. words_moved equipment found groups p) (left line found)
      ∙ ap (λ (q : Result (Progress × Option Motion) ℕ). q >>= λ both. Ok (left line found both.0 both.1)) is

-- the words have acted, and the block leaves what they did
pub does_left : (edges : List ToolEdge) (line : ℕ) (found : SituationView) (acted : Result (Progress × Option Motion) ℕ) (parameters : List ℤ) (words_done : WordsDone) (made : Result Effect ℕ) (done : Done) (new : Situation)
    → made ≡ (acted >>= λ both. Ok (left line found both.0 both.1)) → TellsAll edges acted parameters words_done
    → parameters ≡ new.parameters → IsComposed found.chain new.frame → new.tool ≡ words_done.tool → option_map (item_on line) words_done.motion ≡ done.item → course_of words_done.ends ≡ course_view done.course
    → Does edges made done new
does_left edges line found (Err code) parameters words_done made done new is told same framed tool item course = absurd told
does_left edges line found (Ok both) parameters words_done made done new is told same framed tool item course =
    subst (λ (r : Result Effect ℕ). Does edges r done new) (sym is)
    (record {
      parameters = ap (λ (p : Progress). p.parameters) told.0.same ∙ same;
      frame = framed;
      tool = tool ∙ told.0.tool;
      item = ap (option_map (item_on line)) told.1 ∙ item;
      course = ap (λ (p : Progress). course_of p.ends) told.0.same ∙ course;
    })

-- an alarm that is handed on is that of the block
pub fails_with : (edges : List ToolEdge) (made : Result Effect ℕ) (item : Option Item) (result : Result Course ℕ) (new : Situation) (code : ℕ) → IsErrAnd result (λ e. e ≡ code) → made ≡ Err code
    → Runs edges made (answer_with item result) new
fails_with edges made item (Ok course) new code same is = absurd same
fails_with edges made item (Err e) new code same is = is ∙ ap (λ (k : ℕ). Err k) (sym same)

-- alarm 10 comes before all others
pub twice_alarms : (equipment : SetupView) (found : SituationView) (line : ℕ) (opener statement : Statement) → IsTrue (has_group_twice (group_words statement))
    → effect_of equipment found line opener statement ≡ Err 10
unfolding effect_of group_words
twice_alarms equipment found line opener (WordBlock words) twice = by_test (has_group_twice (group_words (WordBlock words))) twice
  where
    by_test : (b : Bool) → IsTrue b → cond b (Err 10) (words_run equipment found line (group_words (WordBlock words)) words) ≡ Err 10
    by_test true is = refl
    by_test false is = absurd cc
twice_alarms equipment found line opener statement twice = absurd cc
