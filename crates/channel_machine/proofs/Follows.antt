-- The motions of a channel, each from where those before it leave the axes.
use Rattle.std.proofs.Common.{◌≡◌, ◌⊎◌, ◌∙◌, ℕ, ℤ, ◌+◌, ◌≤◌, ◌<◌, Bool, true, List, [], ◌∷◌, ◌++◌, append-nil, length, length-append, take, slice_get, Option, None, Some, All, IfSome, inl, inr, refl, sym, ap, subst, arith}
use Rattle.std.proofs.Math.Seq.{take-append_seam}
use Rattle.std.proofs.lemmas.List.{take-append-le}
use Rattle.axis_sets.specs.Sets.{has}
use Rattle.std.proofs.lemmas.List.Elements.{All-nil, All-take}
use Rattle.std.proofs.lemmas.Option.{slice_get_within}
use Rattle.std.specs.Option.{option_to_list}
use Rattle.block_motions.specs.Motions.{IsMotionOf}
use Rattle.block_motions.proofs.Ends.{le_or_lt}
use Rattle.number_laws.proofs.Lists.{by_places, slice_get-append_left, slice_get-append_seam}
use Rattle.path_geometry.specs.Motions.{axes_of, IsSound}
use Rattle.path_geometry.specs.declared.motion.Motion.{Motion}
use Rattle.path_geometry.specs.declared.motion.Motion.TheVariants.{Line}
use Rattle.micro_units.specs.Position.{IsPosition}
use Rattle.sync_types.specs.declared.Item.{Item}
use Rattle.sync_types.specs.Items.{left_at, motion_of, movement_of}
use Rattle.sync_types.proofs.Positions.{left_in_range, moved_by}

-- each of these motions is one of a block where the motions before it leave the axes
pub record AllFollow (owned : List Bool) (start : ℕ → ℤ) (items : List Item) : Type 0 where
  pub follows : (place : ℕ) (item : Item) → slice_get items place ≡ Some item → IsMotionOf owned (left_at (take place items) start) (movement_of item)

-- the motion of a place follows those before it
abbrev Follows : List Bool → (ℕ → ℤ) → List Item → ℕ → Item → Type 0
Follows owned start items place item = IsMotionOf owned (left_at (take place items) start) (movement_of item)

pub AllFollow-push : (owned : List Bool) (start : ℕ → ℤ) (items : List Item) (o : Option Item) → AllFollow owned start items
    → ((item : Item) → o ≡ Some item → IsMotionOf owned (left_at items start) (movement_of item)) → AllFollow owned start (items ++ option_to_list o)
AllFollow-push owned start items None all here = subst (λ (xs : List Item). AllFollow owned start xs) (sym (append-nil items)) all
AllFollow-push owned start items (Some new) all here = record { follows = λ place item is. by_place place item is (le_or_lt (length items) place) }
  where
    at_end : (item : Item) → slice_get (items ++ new ∷ []) (length items) ≡ Some item → Follows owned start (items ++ new ∷ []) (length items) item
    at_end item is =
        let same : new ≡ item = let e : Some new ≡ Some item = sym (slice_get-append_seam items new) ∙ is in cc in
        rw take-append_seam (here item (ap (λ (i : Item). Some i) same))

    by_place : (place : ℕ) (item : Item) → slice_get (items ++ new ∷ []) place ≡ Some item → (length items ≤ place) ⊎ (place < length items) → Follows owned start (items ++ new ∷ []) place item
    by_place place item is (inl beyond) =
        let within : place < length (items ++ new ∷ []) = slice_get_within (items ++ new ∷ []) place item is in
        let long : length (items ++ new ∷ []) ≡ length items + 1 = length-append items (new ∷ []) in
        let same : length items ≡ place = omega arith in
        subst (λ (k : ℕ). Follows owned start (items ++ new ∷ []) k item) same (at_end item (ap (slice_get (items ++ new ∷ [])) same ∙ is))
    by_place place item is (inr within) =
        let short : place ≤ length items = omega arith in
        rw take-append-le (all.follows place item (sym (slice_get-append_left items (new ∷ []) place within) ∙ is))

pub follows_none : (owned : List Bool) (start : ℕ → ℤ) → AllFollow owned start []
follows_none owned start = record { follows = λ place item is. absurd cc }

-- ---- sound motions

pub ends_in_range : (owned : List Bool) (start : ℕ → ℤ) (items : List Item) → AllFollow owned start items → All (λ item. All (λ e. IsPosition e.2) (axes_of (movement_of item))) items
ends_in_range owned start items all = by_places (λ item. All (λ e. IsPosition e.2) (axes_of (movement_of item))) items (λ place item is. (all.follows place item is).in_range)

pub sound_motions : (owned : List Bool) (start : ℕ → ℤ) (items : List Item) → AllFollow owned start items → ((axis : ℕ) → IsPosition (start axis)) → All (λ item. IsSound (movement_of item)) items
sound_motions owned start items all starts = by_places (λ item. IsSound (movement_of item)) items (λ place item is. (all.follows place item is).sound
    (left_in_range (take place items) start (All-take (λ item. All (λ e. IsPosition e.2) (axes_of (movement_of item))) place items (ends_in_range owned start items all)) starts))

-- what holds of how an item moves holds of its motion, if it has one
pub if_moves : (P : Motion → Type 0) (item : Item) → P (movement_of item) → IfSome (motion_of item) P
if_moves P item holds = by_motion (motion_of item) refl
  where
    by_motion : (o : Option Motion) → motion_of item ≡ o → IfSome o P
    by_motion None is = tt
    by_motion (Some motion) is = subst P (moved_by item motion is) holds

-- a line of no axis at all is a motion of any channel
pub still_follows : (axes : List Bool) (at : ℕ → ℤ) → IsMotionOf axes at (Line (record { axes = [] }))
still_follows axes at = record {
  once = λ i j d low high. absurd (omega arith);
  owned = All-nil (λ e. has axes e.0 ≡ true);
  begins = All-nil (λ e. e.1 ≡ at e.0);
  in_range = All-nil (λ e. IsPosition e.2);
  sound = λ starts. record { once = λ i j d low high. absurd (omega arith); in_range = All-nil (λ e. IsPosition e.1 × IsPosition e.2) };
}
