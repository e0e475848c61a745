-- The motion of a block, whatever it says.
use Rattle.std.proofs.Common.{◌≡◌, ◌∙◌, ℕ, Bool, true, false, not, ◌&&◌, cond, List, [], Option, None, Some, option_map, Result, Ok, Err, refl, ap, subst}
use Rattle.block_motions.specs.Arcs.{arc_motion}
use Rattle.block_motions.specs.declared.words.ArcWords.{ArcWords}
use Rattle.block_motions.proofs.ArcLaws.{arc_is}
use Rattle.block_motions.specs.declared.goals.Targets.{Targets}
use Rattle.block_motions.specs.Goals.{ConditionsView}
use Rattle.block_motions.specs.Motions.{IsMotionOf, straight_motion}
use Rattle.block_motions.proofs.MotionLaws.{straight_is}
use Rattle.frames.specs.Maps.{Map}
use Rattle.g_groups.specs.Modal.{has_group_twice}
use Rattle.g_groups.specs.declared.GWord.{GWord}
use Rattle.nc_expressions.specs.Value.{◌>>=◌}
use Rattle.nc_blocks.specs.Statement.{WordView, Statement, WordBlock, Shape, Turn}
use Rattle.path_geometry.specs.declared.motion.Motion.{Motion}
use Rattle.sync_types.specs.declared.Item.{Item}
use Rattle.sync_types.specs.Items.{movement_of}
use Rattle.block_effects.specs.Words.{SetupView, first_progress, values_in, words_done}
use Rattle.block_effects.specs.Shapes.{plane_of, shaped_by, turned_by}
use Rattle.block_effects.specs.Effects.{Effect, Turning, SituationView, word_in, in_force, item_on, is_arc, has_stray_words, stands_still, motion_made, moved_or_still, words_moved, words_run, words_effect, group_words, frame_effect, turned_only, control_effect, effect_of}
use Rattle.block_effects.proofs.EffectSteps.{left}

module _ (equipment : SetupView) (found : SituationView) (line : ℕ) where
  -- the motion that a block has, if it is done and has one, is one from where the axes stand
  abbrev Moves : Result Effect ℕ → Type 0
  Moves (Ok effect) = (item : Item) → effect.item ≡ Some item → IsMotionOf equipment.owned found.at (movement_of item)
  Moves (Err code) = Unit {0}

  moves_bind : {A : Type 0} (r : Result A ℕ) (f : A → Result Effect ℕ) → ((x : A) → r ≡ Ok x → Moves (f x)) → Moves (r >>= f)
  moves_bind (Ok x) f each = each x refl
  moves_bind (Err code) f each = tt

  made_from : (h : ConditionsView) (targets : Targets) (arc : ArcWords) (motion : Motion)
      → motion_made equipment.slots equipment.owned h found.at targets arc ≡ Ok (Some motion) → IsMotionOf equipment.owned found.at motion
  made_from h targets arc motion is = by_kind (is_arc h) is
    where
      by_kind : (b : Bool)
          → cond b (arc_motion equipment.slots equipment.owned h found.at targets arc) (straight_motion equipment.slots equipment.owned h found.at targets) ≡ Ok (Some motion)
          → IsMotionOf equipment.owned found.at motion
      by_kind true is = (arc_is equipment.owned found.at arc motion h equipment.slots targets is).of
      by_kind false is = straight_is equipment.owned found.at equipment.slots h targets motion is

  moved_from : (h : ConditionsView) (groups : List GWord) (targets : Targets) (arc : ArcWords) (motion : Motion)
      → moved_or_still equipment.slots equipment.owned h found.at groups targets arc ≡ Ok (Some motion) → IsMotionOf equipment.owned found.at motion
  unfolding moved_or_still
  moved_from h groups targets arc motion is = by_words (not (is_arc h) && has_stray_words h arc) (stands_still groups) is
    where
      by_words : (stray still : Bool)
          → cond {A = Result (Option Motion) ℕ} stray (Err 18) (cond still (Ok None) (motion_made equipment.slots equipment.owned h found.at targets arc)) ≡ Ok (Some motion)
          → IsMotionOf equipment.owned found.at motion
      by_words true still is = absurd cc
      by_words false true is = absurd cc
      by_words false false is = made_from h targets arc motion is

  -- the item of a motion has this motion
  item_moves : (o : Option Motion) (item : Item) → option_map (item_on line) o ≡ Some item → o ≡ Some (movement_of item)
  item_moves None item is = absurd cc
  item_moves (Some motion) item is = let same : item_on line motion ≡ item = cc in ap (λ (i : Item). Some (movement_of i)) same

  run_moves : (groups : List GWord) (words : List WordView) → Moves (words_run equipment found line groups words)
  run_moves groups words =
      moves_bind (words_done equipment (first_progress found.parameters found.choices) words) (λ p. words_moved equipment found groups p >>= λ motion. Ok (left line found p motion))
      (λ p done. moves_bind (words_moved equipment found groups p) (λ motion. Ok (left line found p motion))
      (λ o made item is. moved_from (in_force equipment found groups p.choices) groups p.targets p.arc (movement_of item) (made ∙ ap (λ (m : Option Motion). Ok m) (item_moves o item is))))

  words_move : (groups : List GWord) (words : List WordView) → Moves (words_effect equipment found line groups words)
  words_move groups words = by_test (has_group_twice groups)
    where
      by_test : (b : Bool) → Moves (cond b (Err 10) (words_run equipment found line groups words))
      by_test true = tt
      by_test false = run_moves groups words

  framed_still : (made : Result (List Map) ℕ) → Moves (frame_effect found made)
  framed_still (Ok chain) = λ item is. absurd cc
  framed_still (Err code) = tt

  turned_still : (turning : Result Turning ℕ) → Moves (turned_only found turning)
  turned_still (Ok t) = λ item is. absurd cc
  turned_still (Err code) = tt

  effect_moves : (opener statement : Statement) → Moves (effect_of equipment found line opener statement)
  unfolding effect_of
  effect_moves opener (WordBlock words) = words_move (group_words (WordBlock words)) words
  effect_moves opener (Shape word values) = framed_still (shaped_by (values_in found.parameters) found.chain word values)
  effect_moves opener (Turn additive angle) = framed_still (turned_by (values_in found.parameters) found.chain (plane_of (word_in found [] 6)) additive angle)
  effect_moves opener statement = turned_still (control_effect equipment.names found.parameters opener statement)

  -- the motion of a block is one from where the axes stand
  pub effect_is : (opener statement : Statement) (effect : Effect) (item : Item) → effect_of equipment found line opener statement ≡ Ok effect → effect.item ≡ Some item
      → IsMotionOf equipment.owned found.at (movement_of item)
  effect_is opener statement effect item is has = subst Moves is (effect_moves opener statement) item has
