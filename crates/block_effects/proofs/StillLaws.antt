-- A block that jumps, repeats or calls leaves all else as it is.
use Rattle.std.proofs.Common.{◌≡◌, ℕ, ℤ, Bool, true, false, cond, List, [], Result, Ok, Err, refl, subst}
use Rattle.frames.specs.Maps.{Map}
use Rattle.g_groups.specs.Modal.{has_group_twice}
use Rattle.g_groups.specs.declared.GWord.{GWord}
use Rattle.nc_expressions.specs.Tree.{Tree}
use Rattle.nc_expressions.specs.Value.{◌>>=◌, value_of}
use Rattle.nc_control_flow.specs.Moves as outcome
use Rattle.std.specs.Prelude.{not, int_lt}
use Rattle.nc_blocks.specs.Statement.{WordView, Statement, WordBlock, Shape, Turn, Jump, IfJump, If, While, Until, For, EndFor, Case, RepeatFrom, RepeatBlock, Call}
use Rattle.block_effects.specs.Words.{SetupView, first_progress, increment, assignment, parameter_in, values_in, words_done}
use Rattle.block_effects.specs.Shapes.{plane_of, shaped_by, turned_by}
use Rattle.block_effects.specs.Effects.{Course, Goes, Effect, Turning, SituationView, IsStill, searches, word_in, words_moved, words_run, words_effect, course_of, group_words, frame_effect, turned_only, turning_with, jump_course, choice, condition_course, bound_turning, for_continued, repetition_course, call_course, control_effect, effect_of}
use Rattle.block_effects.proofs.EffectSteps.{left}

module _ (parameters : List ℤ) where
  -- what moves no axis and searches leaves the parameters
  abbrev Keeps : Result Turning ℕ → Type 0
  Keeps (Ok t) = searches t.course ≡ true → t.parameters ≡ parameters
  Keeps (Err code) = Unit {0}

  keeps_bind : {A : Type 0} (r : Result A ℕ) (f : A → Result Turning ℕ) → ((x : A) → Keeps (f x)) → Keeps (r >>= f)
  keeps_bind (Ok x) f each = each x
  keeps_bind (Err code) f each = tt

  -- a course, where the parameters are left as they are
  left_keeps : (course : Result Course ℕ) → Keeps (turning_with parameters course)
  left_keeps (Ok found) = λ is. refl
  left_keeps (Err code) = tt

  bounded_keeps : (ps : List ℤ) (index : ℕ) (bound : Tree) → Keeps (bound_turning ps index bound)
  bounded_keeps ps index bound = by_value (value_of (values_in ps) bound)
    where
      by_value : (r : Result ℤ ℕ) → Keeps (turning_with ps (r >>= λ value. Ok (Goes (outcome.Truth (not (int_lt value (parameter_in ps index)))))))
      by_value (Ok value) = λ is. absurd cc
      by_value (Err code) = tt

  continued_keeps : (opener : Statement) → Keeps (for_continued parameters opener)
  continued_keeps (For index first bound) = keeps_bind (increment parameters index) _ (λ ps. bounded_keeps ps index bound)
  continued_keeps other = λ is. refl

  control_keeps : (names : List (List ℕ)) (opener statement : Statement) → Keeps (control_effect names parameters opener statement)
  unfolding control_effect
  control_keeps names opener (Jump j) = λ is. refl
  control_keeps names opener (IfJump tree j) = left_keeps (jump_course (values_in parameters) tree j)
  control_keeps names opener (If tree) = left_keeps (condition_course (values_in parameters) tree)
  control_keeps names opener (While tree) = left_keeps (condition_course (values_in parameters) tree)
  control_keeps names opener (Until tree) = left_keeps (condition_course (values_in parameters) tree)
  control_keeps names opener (For index first bound) = keeps_bind (assignment parameters index first) _ (λ ps. bounded_keeps ps index bound)
  control_keeps names opener EndFor = continued_keeps opener
  control_keeps names opener (Case tree pairs default) = left_keeps (choice (values_in parameters) tree pairs default)
  control_keeps names opener (RepeatFrom name times) = left_keeps (repetition_course (values_in parameters) times)
  control_keeps names opener (RepeatBlock name times) = left_keeps (repetition_course (values_in parameters) times)
  control_keeps names opener (Call name passes) = left_keeps (call_course names name passes)
  control_keeps names opener other = λ is. refl

module _ (equipment : SetupView) (found : SituationView) (line : ℕ) where
  abbrev Stays : Result Effect ℕ → Type 0
  Stays (Ok effect) = searches effect.course ≡ true → IsStill found effect
  Stays (Err code) = Unit {0}

  stays_bind : {A : Type 0} (r : Result A ℕ) (f : A → Result Effect ℕ) → ((x : A) → Stays (f x)) → Stays (r >>= f)
  stays_bind (Ok x) f each = each x
  stays_bind (Err code) f each = tt

  run_stays : (groups : List GWord) (words : List WordView) → Stays (words_run equipment found line groups words)
  run_stays groups words =
      stays_bind (words_done equipment (first_progress found.parameters found.choices) words) (λ p. words_moved equipment found groups p >>= λ motion. Ok (left line found p motion))
      (λ p. stays_bind (words_moved equipment found groups p) (λ motion. Ok (left line found p motion)) (λ o. by_end p.ends))
    where
      by_end : {Q : Type 0} (ends : Bool) → searches (course_of ends) ≡ true → Q
      by_end true is = absurd cc
      by_end false is = absurd cc

  words_stay : (groups : List GWord) (words : List WordView) → Stays (words_effect equipment found line groups words)
  words_stay groups words = by_test (has_group_twice groups)
    where
      by_test : (b : Bool) → Stays (cond b (Err 10) (words_run equipment found line groups words))
      by_test true = tt
      by_test false = run_stays groups words

  framed_stays : (made : Result (List Map) ℕ) → Stays (frame_effect found made)
  framed_stays (Ok chain) = λ is. absurd cc
  framed_stays (Err code) = tt

  turned_stays : (turning : Result Turning ℕ) → Keeps found.parameters turning → Stays (turned_only found turning)
  turned_stays (Ok t) keeps = λ is. record { parameters = keeps is; chain = refl; choices = refl; item = refl }
  turned_stays (Err code) keeps = tt

  effect_stays : (opener statement : Statement) → Stays (effect_of equipment found line opener statement)
  unfolding effect_of
  effect_stays opener (WordBlock words) = words_stay (group_words (WordBlock words)) words
  effect_stays opener (Shape word values) = framed_stays (shaped_by (values_in found.parameters) found.chain word values)
  effect_stays opener (Turn additive angle) = framed_stays (turned_by (values_in found.parameters) found.chain (plane_of (word_in found [] 6)) additive angle)
  effect_stays opener statement =
      turned_stays (control_effect equipment.names found.parameters opener statement) (control_keeps found.parameters equipment.names opener statement)

  -- a block whose course searches leaves the parameters and the frame, and moves no axis
  pub searching_stays : (opener statement : Statement) (effect : Effect) → effect_of equipment found line opener statement ≡ Ok effect → searches effect.course ≡ true → IsStill found effect
  searching_stays opener statement effect is = subst Stays is (effect_stays opener statement)
