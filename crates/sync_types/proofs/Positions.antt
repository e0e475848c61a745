-- Where items leave axes.
use Rattle.std.proofs.Common.{◌≡◌, ◌∙◌, ℕ, ℤ, List, [], ◌++◌, Option, None, Some, option_and_then, unwrap_or, IfSome, All, refl, sym, ap, subst}
use Rattle.std.proofs.lemmas.List.Elements.{All-weaker, filter_map-append}
use Rattle.std.specs.List.{filter_map, last_or}
use Rattle.std.specs.Option.{option_to_list}
use Rattle.axis_sets.specs.Positions.{stands}
use Rattle.number_laws.proofs.Lists.{filter_map-one, last_or-push, last_kept, unwrap_kept}
use Rattle.path_geometry.specs.Motions.{axes_of, axis_end}
use Rattle.micro_units.specs.Position.{IsPosition}
use Rattle.path_geometry.proofs.EndsLaws.{axis_end_in_range}
use Rattle.sync_types.specs.Items.{motion_in, motion_of, movement_in, movement_of, end_in, left_at, StandsAtEnd, StandsAfter}
use Rattle.sync_types.specs.declared.Item.{Item}
use Rattle.sync_types.specs.declared.Part.{Part}
use Rattle.sync_types.specs.declared.Part.TheVariants.{Move, Switch}
use Rattle.path_geometry.specs.declared.motion.Motion.{Motion}

-- no item leaves the axes where they stand
pub left_at-nil : (at : ℕ → ℤ) (axis : ℕ) → left_at [] at axis ≡ at axis
unfolding left_at
left_at-nil at axis = refl

-- an item more, if there is one, leaves an axis at its end, or where it stood
pub left_at-push : (items : List Item) (o : Option Item) (at : ℕ → ℤ) (axis : ℕ)
    → left_at (items ++ option_to_list o) at axis ≡ unwrap_or (option_and_then (λ item. end_in axis item) o) (left_at items at axis)
unfolding left_at
left_at-push items o at axis =
    let h : Item → Option ℤ = λ item. end_in axis item in
    rw (filter_map-append h items (option_to_list o), ends_of o)
    (last_or-push None (filter_map h items) (option_and_then h o) (at axis))
  where
    ends_of : (o : Option Item) → filter_map (λ item. end_in axis item) (option_to_list o) ≡ option_to_list (option_and_then (λ item. end_in axis item) o)
    ends_of None = refl
    ends_of (Some item) = filter_map-one (λ item. end_in axis item) item (end_in axis item) refl

-- so do positions that are moved on
pub stands_more : (items : List Item) (o : Option Item) (start old new : List (Option ℤ)) → StandsAfter items start old → StandsAtEnd o old new
    → StandsAfter (items ++ option_to_list o) start new
stands_more items o start old new stand moved axis =
    moved axis ∙ ap (λ (z : ℤ). unwrap_or (option_and_then (λ item. end_in axis item) o) z) (stand axis)
    ∙ sym (left_at-push items o (stands start) axis)

-- the end of an axis in an item is that in its movement
pub end_moved : (axis : ℕ) (item : Item) → end_in axis item ≡ axis_end axis (movement_of item)
unfolding axis_end
end_moved axis item = by_part item.part
  where
    by_part : (part : Part) → option_and_then (axis_end axis) (motion_in part) ≡ axis_end axis (movement_in part)
    by_part (Move motion) = refl
    by_part (Switch zone on) = refl

-- the motion of an item is how it moves
pub moved_by : (item : Item) (motion : Motion) → motion_of item ≡ Some motion → movement_of item ≡ motion
moved_by item motion is = by_part item.part is
  where
    by_part : (part : Part) → motion_in part ≡ Some motion → movement_in part ≡ motion
    by_part (Move other) is = cc
    by_part (Switch zone on) is = absurd cc

-- an item that ends in range ends each axis there
end_in_range : (axis : ℕ) (item : Item) → All (λ e. IsPosition e.2) (axes_of (movement_of item)) → IfSome (end_in axis item) IsPosition
end_in_range axis item all = subst (λ (o : Option ℤ). IfSome o IsPosition) (sym (end_moved axis item)) (axis_end_in_range axis (movement_of item) all)

-- items that end in range leave the axes in range
pub left_in_range : (items : List Item) (start : ℕ → ℤ) → All (λ item. All (λ e. IsPosition e.2) (axes_of (movement_of item))) items
    → ((axis : ℕ) → IsPosition (start axis)) → (axis : ℕ) → IsPosition (left_at items start axis)
unfolding left_at
left_in_range items start all starts axis =
    unwrap_kept IsPosition (last_or None (filter_map (λ item. end_in axis item) items)) (start axis)
    (last_kept IsPosition (λ item. end_in axis item) None items tt
    (All-weaker (λ item. All (λ e. IsPosition e.2) (axes_of (movement_of item))) (λ item. IfSome (end_in axis item) IsPosition) (λ item. end_in_range axis item) items all))
    (starts axis)
