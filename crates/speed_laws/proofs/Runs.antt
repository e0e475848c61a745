-- Motions of which each begins where those before it left its axes.
use Rattle.std.proofs.Common.{◌≡◌, ◌∙◌, ℕ, suc, ℤ, Bool, List, [], ◌∷◌, take, get_or, slice_get, Option, Some, unwrap_or, All, refl, sym, ap, subst}
use mathlib.Core.Path.{fun_ext}
use Rattle.std.proofs.lemmas.List.Elements.{All-head, All-tail}
use Rattle.std.proofs.lemmas.Option.{slice_get_within, get_or_from_slice_get}
use Rattle.block_motions.proofs.MotionLaws.{ends_found}
use Rattle.block_motions.specs.Motions.{IsMotionOf}
use Rattle.path_geometry.specs.Motions.{axes_of, IsSound}
use Rattle.speed_laws.proofs.Positions.{after_is, left_at-cons}
use Rattle.speed_laws.specs.JoinedItems.{Joins, AllJoin}
use Rattle.sync_types.proofs.Positions.{left_at-nil, end_moved}
use Rattle.sync_types.specs.Items.{left_at, movement_of}
use Rattle.sync_types.specs.declared.Item.{Item}
use Rattle.zone_stretches.specs.ZoneBoxes.{stand_after}

-- the motion of each place is one of a channel that owns these axes
abbrev pub Follow : List Bool → (ℕ → ℤ) → List Item → Type 0
Follow axes start items = (place : ℕ) (item : Item) → slice_get items place ≡ Some item → IsMotionOf axes (left_at (take place items) start) (movement_of item)

motion_joins : (axes : List Bool) (at : ℕ → ℤ) (item : Item) → IsMotionOf axes at (movement_of item) → IsSound (movement_of item) → Joins at item
motion_joins axes at item is sound = (
  sound,
  λ k d within. (
    is.begins k d within,
    let e : ℕ × ℤ × ℤ = get_or (axes_of (movement_of item)) k d in
        sym (after_is item at e.0 ∙ ap (λ (o : Option ℤ). unwrap_or o (at e.0)) (end_moved e.0 item ∙ ends_found axes at (movement_of item) is k d within)),
  ),
)

pub all_join : (axes : List Bool) (at : ℕ → ℤ) (items : List Item) → Follow axes at items → All (λ item. IsSound (movement_of item)) items → AllJoin at items
all_join axes at [] follow sound = tt
all_join axes at (item ∷ items) follow sound = (
  motion_joins axes at item (subst (λ (p : ℕ → ℤ). IsMotionOf axes p (movement_of item)) (fun_ext (left_at-nil at)) (follow 0 item refl))
      (All-head (λ i. IsSound (movement_of i)) item items sound),
  all_join axes (stand_after item at) items
      (λ place next is. subst (λ (p : ℕ → ℤ). IsMotionOf axes p (movement_of next)) (fun_ext (left_at-cons item (take place items) at)) (follow (suc place) next is))
      (All-tail (λ i. IsSound (movement_of i)) item items sound),
)

-- what holds of all holds of the motion of each place
pub All-place : (P : Item → Type 0) (items : List Item) → All P items → (place : ℕ) (item : Item) → slice_get items place ≡ Some item → P item
All-place P items all place item is = subst P (get_or_from_slice_get items place item item is) (all place item (slice_get_within items place item is))

-- motions leave an axis at one place where it stood at one place
pub left_at_same : (items : List Item) (p q : ℕ → ℤ) (axis : ℕ) → p axis ≡ q axis → left_at items p axis ≡ left_at items q axis
unfolding left_at
left_at_same items p q axis same = rw same refl
