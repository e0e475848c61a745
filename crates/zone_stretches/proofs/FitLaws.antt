-- The motions of a run are sound.
use Rattle.std.proofs.Common.{◌≡◌, ℕ, zero, suc, ◌-◌, List, [], ◌∷◌, get_or, slice_get, Option, None, Some, option_and_then, All, IfSome, refl, subst, arith}
use Rattle.std.proofs.lemmas.List.Elements.{All-nil}
use Rattle.path_geometry.specs.Motions.{IsSound}
use Rattle.path_geometry.specs.declared.motion.Motion.{Motion}
use Rattle.sync_types.specs.Items.{motion_in, motion_of, movement_in, movement_of}
use Rattle.sync_types.specs.Views.{RunView}
use Rattle.sync_types.specs.declared.Item.{Item}
use Rattle.sync_types.specs.declared.Part.{Part}
use Rattle.sync_types.specs.declared.Part.TheVariants.{Move, Switch}
use Rattle.zone_stretches.specs.Pieces.{motion_at}
use Rattle.zone_stretches.specs.ZoneBoxes.{IsFit}

-- what holds of each element holds of the one of a place
pub holds_at : {X : Type 0} (P : X → Type 0) (xs : List X) (place : ℕ) (x : X) → All P xs → slice_get xs place ≡ Some x → P x
holds_at P [] place x all found = absurd cc
holds_at P (y ∷ ys) zero x all found = let same : y ≡ x = cc in subst P same (all 0 y (omega arith))
holds_at P (y ∷ ys) (suc place) x all found = holds_at P ys place x (λ k d below. all (suc k) d (omega arith)) found

-- the items of each entry are fit
pub fit_items : (items : List (List Item)) (entry : ℕ) → All (All IsFit) items → All IsFit (get_or items entry [])
fit_items [] entry all = All-nil IsFit
fit_items (x ∷ xs) zero all = all 0 x (omega arith)
fit_items (x ∷ xs) (suc entry) all = fit_items xs entry (λ k d below. all (suc k) d (omega arith))

-- the motion of an item moves as the item does
pub motion_moves : (item : Item) (motion : Motion) → motion_of item ≡ Some motion → movement_of item ≡ motion
motion_moves item motion is = by_part item.part is
  where
    by_part : (part : Part) → motion_in part ≡ Some motion → movement_in part ≡ motion
    by_part (Move other) e = cc
    by_part (Switch zone on) e = absurd cc

-- the motion of a place of an entry is sound
pub fit_motion : (run : RunView) (entry : ℕ) (place : Option ℕ) (motion : Motion) → All (All IsFit) run.items → motion_at run entry place ≡ Some motion → IsSound motion
fit_motion run entry None motion fit found = absurd cc
fit_motion run entry (Some k) motion fit found = by_item (slice_get (get_or run.items entry []) (k - 1)) refl found
  where
    by_item : (o : Option Item) → slice_get (get_or run.items entry []) (k - 1) ≡ o → option_and_then motion_of o ≡ Some motion → IsSound motion
    by_item None is found = absurd cc
    by_item (Some item) is found =
        subst IsSound (motion_moves item motion found) (holds_at IsFit (get_or run.items entry []) (k - 1) item (fit_items run.items entry fit) is).sound

-- so is that of a place, if it has one
pub fit_motions : (run : RunView) (entry : ℕ) (place : Option ℕ) → All (All IsFit) run.items → IfSome (motion_at run entry place) IsSound
fit_motions run entry place fit = by_motion (motion_at run entry place) refl
  where
    by_motion : (o : Option Motion) → motion_at run entry place ≡ o → IfSome o IsSound
    by_motion None is = tt
    by_motion (Some motion) is = fit_motion run entry place motion fit is
