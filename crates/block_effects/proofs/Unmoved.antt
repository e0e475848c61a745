-- A block that programs nothing for an axis or an arc has no motion and no alarm of one.
use Rattle.std.proofs.Common.{◌≡◌, ℕ, ℤ, Bool, true, false, not, ◌&&◌, ◌||◌, List, Option, None, Ok, is_some, refl}
use Rattle.block_motions.specs.Arcs.{arc_motion}
use Rattle.block_motions.specs.Goals.{ConditionsView, is_any}
use Rattle.block_motions.specs.declared.goals.Targets.{Targets}
use Rattle.block_motions.specs.declared.words.ArcWords.{ArcWords}
use Rattle.block_motions.proofs.Unmoved.{unmoved}
use Rattle.g_groups.specs.declared.GWord.{GWord}
use Rattle.block_effects.specs.Words.{TellsOfMoves, moves, no_arc, nothing_programmed}
use Rattle.block_effects.specs.declared.progress.WordsDone.{WordsDone}
use Rattle.block_effects.specs.Effects.{is_arc, has_stray_words, stands_still, motion_made, moved_or_still}

first_not : (a b : Bool) → a || b ≡ false → a ≡ false
first_not true b none = none
first_not false b none = refl

other_not : (a b : Bool) → a || b ≡ false → b ≡ false
other_not true b none = absurd cc
other_not false b none = none

and_false : (b : Bool) → b && false ≡ false
and_false true = refl
and_false false = refl

module _ (slots : List (Option ℕ)) (owned : List Bool) (h : ConditionsView) (at : ℕ → ℤ) (words : List GWord) (targets : Targets) (arc : ArcWords) where
  module _ (no_slots : is_any targets.slots ≡ false) (no_axes : is_any targets.axes ≡ false) (no_centre : is_any arc.centre ≡ false) (no_radius : is_some arc.radius ≡ false) where
    no_stray : has_stray_words h arc ≡ false
    no_stray = rw (no_radius, no_centre) (and_false _)

    no_arc_motion : arc_motion slots owned h at targets arc ≡ Ok None
    unfolding arc_motion
    no_arc_motion = rw (no_slots, no_axes, no_centre) refl

    none_made : (made : Bool) → is_arc h ≡ made → motion_made slots owned h at targets arc ≡ Ok None
    none_made true is = rw is no_arc_motion
    none_made false is = rw is (unmoved slots h targets no_slots no_axes owned at)

    still : (stays : Bool) → stands_still words ≡ stays → moved_or_still slots owned h at words targets arc ≡ Ok None
    unfolding moved_or_still
    still true is = rw (no_stray, and_false (not (is_arc h)), is) refl
    still false is = rw (no_stray, and_false (not (is_arc h)), is) (none_made (is_arc h) refl)

  pub nothing_moves : moves targets arc ≡ false → moved_or_still slots owned h at words targets arc ≡ Ok None
  nothing_moves none =
      let axes = other_not _ _ none in
      let centre = other_not _ _ axes in
      still (first_not _ _ none) (first_not _ _ axes) (first_not _ _ centre) (other_not _ _ centre) (stands_still words) refl

-- where no word was one of an axis or an arc, nothing is programmed
pub nothing_programmed_moves_nothing : (done : WordsDone) → TellsOfMoves done → done.moves ≡ false → moves done.targets done.arc ≡ false
unfolding nothing_programmed no_arc
nothing_programmed_moves_nothing done told is = rw (told.targets is, told.arc is) refl
