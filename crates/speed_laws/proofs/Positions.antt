-- Where motions leave the axes of a channel: the rule over all motions, and one motion after another say the same.
use Rattle.std.proofs.Common.{◌≡◌, ◌∙◌, ℕ, zero, suc, ℤ, pos, ◌*ℤ◌, ◌==◌, List, [], ◌∷◌, take, filter_map, find, Option, None, Some, option_map, unwrap_or, slice_get, All, refl, sym, ap, subst, arith}
use Rattle.std.proofs.lemmas.Int.{ints}
use Rattle.std.proofs.lemmas.List.Elements.{All-weaker}
use Rattle.std.specs.List.{last_or, cons_option}
use Rattle.std.specs.Option.{option_map_or}
use Rattle.sync_types.specs.Items.{end_in, left_at, movement_of}
use Rattle.sync_types.proofs.Positions.{left_at-nil, end_moved}
use Rattle.path_geometry.specs.Motions.{axes_of, axis_end}
use Rattle.zone_stretches.specs.ZoneBoxes.{stand_after}
use Rattle.speed_laws.specs.JoinedItems.{Joins, AllJoin}
use Rattle.sync_types.specs.declared.Item.{Item}

-- ---- the last of a list

last_or-cons_option : {A : Type 0} (o p : Option A) (xs : List A) → last_or o (cons_option p xs) ≡ last_or (last_or o (cons_option p [])) xs
last_or-cons_option o None xs = refl
last_or-cons_option o (Some x) xs = refl

-- the last of some is there, whatever the default
last_of_some : {A : Type 0} (x d e : A) (xs : List A) → unwrap_or (last_or (Some x) xs) d ≡ unwrap_or (last_or (Some x) xs) e
last_of_some x d e [] = refl
last_of_some x d e (y ∷ ys) = last_of_some y d e ys

pub unwrap_or-last_or : {A : Type 0} (o : Option A) (xs : List A) (d : A) → unwrap_or (last_or o xs) d ≡ unwrap_or (last_or None xs) (unwrap_or o d)
unwrap_or-last_or o [] d = refl
unwrap_or-last_or o (x ∷ xs) d = last_of_some x d (unwrap_or o d) xs

-- ---- one motion after another

pub after_is : (item : Item) (at : ℕ → ℤ) (axis : ℕ) → stand_after item at axis ≡ unwrap_or (end_in axis item) (at axis)
unfolding stand_after axis_end
after_is item at axis = by_found (find (λ e. e.0 == axis) (axes_of (movement_of item))) ∙ ap (λ (o : Option ℤ). unwrap_or o (at axis)) (sym (end_moved axis item))
  where
    by_found : (o : Option (ℕ × ℤ × ℤ)) → option_map_or (λ e. e.2) o (at axis) ≡ unwrap_or (option_map (λ e. e.2) o) (at axis)
    by_found None = refl
    by_found (Some e) = refl

pub left_at-cons : (item : Item) (items : List Item) (at : ℕ → ℤ) (axis : ℕ) → left_at (item ∷ items) at axis ≡ left_at items (stand_after item at) axis
unfolding left_at
left_at-cons item items at axis =
    ap (λ o. unwrap_or o (at axis)) (last_or-cons_option None (end_in axis item) (filter_map (λ i. end_in axis i) items))
    ∙ unwrap_or-last_or (last_or None (cons_option (end_in axis item) [])) (filter_map (λ i. end_in axis i) items) (at axis)
    ∙ ap (λ d. unwrap_or (last_or None (filter_map (λ i. end_in axis i) items)) d) (by_end (end_in axis item) ∙ sym (after_is item at axis))
  where
    by_end : (o : Option ℤ) → unwrap_or (last_or None (cons_option o [])) (at axis) ≡ unwrap_or o (at axis)
    by_end None = refl
    by_end (Some x) = refl

-- ---- motions that join

Joins-same : (p q : ℕ → ℤ) → ((axis : ℕ) → p axis ≡ q axis) → (item : Item) → Joins p item → Joins q item
Joins-same p q same item joins = (
  joins.0,
  All-weaker (λ e. (e.1 ≡ p e.0) × (e.2 ≡ stand_after item p e.0)) (λ e. (e.1 ≡ q e.0) × (e.2 ≡ stand_after item q e.0))
      (λ e joined. (joined.0 ∙ same e.0, joined.1 ∙ after_is item p e.0 ∙ ap (unwrap_or (end_in e.0 item)) (same e.0) ∙ sym (after_is item q e.0)))
      (axes_of (movement_of item)) joins.1,
)

-- each of them joins onto those before it
pub joins_at : (at : ℕ → ℤ) (items : List Item) → AllJoin at items → (place : ℕ) (item : Item) → slice_get items place ≡ Some item
    → Joins (left_at (take place items) at) item
joins_at at [] joins place item is = absurd cc
joins_at at (first ∷ items) joins zero item is =
    let same : first ≡ item = cc in
    subst (λ i. Joins (left_at [] at) i) same (Joins-same at (left_at [] at) (λ axis. sym (left_at-nil at axis)) first joins.0)
joins_at at (first ∷ items) joins (suc place) item is =
    Joins-same (left_at (take place items) (stand_after first at)) (left_at (first ∷ take place items) at)
    (λ axis. sym (left_at-cons first (take place items) at axis)) item (joins_at (stand_after first at) items joins.1 place item is)

-- and begins where they left the axes
pub begins_at_left : (at : ℕ → ℤ) (items : List Item) → AllJoin at items → (place : ℕ) (item : Item) → slice_get items place ≡ Some item
    → All (λ e. e.1 ≡ left_at (take place items) at e.0) (axes_of (movement_of item))
begins_at_left at items joins place item is =
    All-weaker (λ e. (e.1 ≡ left_at (take place items) at e.0) × (e.2 ≡ stand_after item (left_at (take place items) at) e.0))
    (λ e. e.1 ≡ left_at (take place items) at e.0) (λ e joined. joined.0) (axes_of (movement_of item)) (joins_at at items joins place item is).1

-- ---- whole positions

pub one_under : (z : ℤ) → z ≡ z *ℤ pos 1
one_under z = omega (arith, ints)
