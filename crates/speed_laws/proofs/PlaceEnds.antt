-- The end of the last motion of a channel, and where it leaves the axes.
use Rattle.std.proofs.Common.{◌≡◌, ◌∙◌, ℕ, zero, suc, ℤ, pos, ◌-◌, ◌*ℤ◌, ◌≤◌, List, [], ◌∷◌, length, take, Option, Some, IfSome, IsSomeAnd, slice_get, refl, sym, ap, subst, arith, ◌==◌, find, None, option_map, unwrap_or, IsNone}
use Rattle.std.proofs.lemmas.Bool.{eqb-true}
use Rattle.std.proofs.lemmas.List.Elements.{All-weaker}
use Rattle.number_laws.proofs.Lists.{found_passes, All-found}
use Rattle.path_geometry.specs.Motions.{axes_of, axis_end}
use Rattle.path_geometry.specs.Path.{Point}
use Rattle.speed_laws.proofs.Covers.{standing, along_at_end}
use Rattle.speed_laws.proofs.Positions.{joins_at, after_is, left_at-cons}
use Rattle.speed_laws.proofs.ZoneLemmas.{some_at}
use Rattle.speed_laws.specs.JoinedItems.{AllJoin}
use Rattle.speed_laws.specs.Places.{IsAlong, IsEndOf, IsAtPlace, IsAtEnd, StandsAt}
use Rattle.sync_types.proofs.Positions.{left_at-nil, end_moved}
use Rattle.sync_types.specs.Items.{left_at, movement_of, end_in}
use Rattle.sync_types.specs.declared.Item.{Item}
use Rattle.zone_stretches.specs.ZoneBoxes.{stand_after}

-- a place is at most the number of the motions
pub place_within : (at : ℕ → ℤ) (items : List Item) (place : ℕ) (point : Point) → IsAtPlace at items place point → place ≤ length items
place_within at items zero point there = omega arith
place_within at items (suc n) point there = within items n (λ item. IsAlong (left_at (take n items) at) item point) there
  where
    within : (xs : List Item) (k : ℕ) (P : Item → Type 0) → IsSomeAnd (slice_get xs k) P → suc k ≤ length xs
    within [] k P some = absurd some
    within (x ∷ xs) zero P some = omega arith
    within (x ∷ xs) (suc k) P some = let rest = within xs k P some in omega arith

-- ---- the end of the last motion

pub last_end : (at : ℕ → ℤ) (items : List Item) → AllJoin at items → (place : ℕ) → length items ≡ suc place
    → (point : Point) × IsAtPlace at items (suc place) point × IsAtEnd items (suc place) point
last_end at items joins place long = of_item (some_at items place (omega arith))
  where
    of_item : (item : Item) × (slice_get items place ≡ Some item) → (point : Point) × IsAtPlace at items (suc place) point × IsAtEnd items (suc place) point
    of_item (item, is) =
        let before = left_at (take place items) at in
        let joined = joins_at at items joins place item is in
        let less : suc place - 1 ≡ place = omega arith in (
          standing (stand_after item before) 1,
          subst (λ (o : Option Item). IsSomeAnd o (λ i. IsAlong before i (standing (stand_after item before) 1))) (sym is) (along_at_end before item 1 joined (omega arith)),
          (
            sym long,
            subst (λ (o : Option Item). IfSome o (λ i. IsEndOf i (standing (stand_after item before) 1))) (sym (ap (slice_get items) less ∙ is))
                (All-weaker (λ e. (e.1 ≡ before e.0) × (e.2 ≡ stand_after item before e.0)) (λ e. stand_after item before e.0 *ℤ pos 1 ≡ e.2 *ℤ pos 1)
                (λ e at_end. ap (λ x. x *ℤ pos 1) (sym at_end.1)) (axes_of (movement_of item)) joined.1),
          ),
        )

-- the last motion leaves its axes at its ends, and the others where they stood
left_at-last : (items : List Item) (at : ℕ → ℤ) (n : ℕ) (item : Item) → length items ≡ suc n → slice_get items n ≡ Some item → (axis : ℕ)
    → left_at items at axis ≡ unwrap_or (end_in axis item) (left_at (take n items) at axis)
left_at-last [] at n item long is axis = absurd cc
left_at-last (first ∷ []) at zero item long is axis =
    let same : first ≡ item = cc in
    left_at-cons first [] at axis ∙ left_at-nil (stand_after first at) axis ∙ after_is first at axis
    ∙ ap (λ d. unwrap_or (end_in axis first) d) (sym (left_at-nil at axis)) ∙ ap (λ (i : Item). unwrap_or (end_in axis i) (left_at [] at axis)) same
left_at-last (first ∷ []) at (suc n) item long is axis = absurd cc
left_at-last (first ∷ next ∷ items) at zero item long is axis = absurd (omega arith)
left_at-last (first ∷ next ∷ items) at (suc n) item long is axis =
    left_at-cons first (next ∷ items) at axis
    ∙ left_at-last (next ∷ items) (stand_after first at) n item (omega arith) is axis
    ∙ ap (λ d. unwrap_or (end_in axis item) d) (sym (left_at-cons first (take n (next ∷ items)) at axis))

-- at the end of a motion its axes are at its ends, and the others where they stood
at_its_end : (item : Item) (positions : ℕ → ℤ) (point : Point) → IsAlong positions item point → IsEndOf item point → (axis : ℕ)
    → StandsAt point axis (unwrap_or (end_in axis item) (positions axis))
unfolding axis_end
at_its_end item positions point along ends axis =
    subst (λ (o : Option ℤ). StandsAt point axis (unwrap_or o (positions axis))) (sym (end_moved axis item)) (by_end (find (λ e. e.0 == axis) (axes_of (movement_of item))) refl)
  where
    by_end : (o : Option (ℕ × ℤ × ℤ)) → find (λ e. e.0 == axis) (axes_of (movement_of item)) ≡ o → StandsAt point axis (unwrap_or (option_map (λ (e : ℕ × ℤ × ℤ). e.2) o) (positions axis))
    by_end None none = along.others axis (subst (λ (o : Option ℤ). IsNone o) (sym (end_moved axis item)) (rw none refl))
    by_end (Some e) found =
        let same : e.0 ≡ axis = eqb-true e.0 axis (found_passes (λ (f : ℕ × ℤ × ℤ). f.0 == axis) (axes_of (movement_of item)) e found) in
        subst (λ a. StandsAt point a e.2) same (All-found (λ f. StandsAt point f.0 f.2) (λ f. f.0 == axis) (axes_of (movement_of item)) e ends found)

-- at the end of its last motion a channel has its axes where its motions leave them
pub stands_at_end : (items : List Item) (at : ℕ → ℤ) (place : ℕ) (point : Point) → IsAtPlace at items place point → IsAtEnd items place point → (axis : ℕ)
    → StandsAt point axis (left_at items at axis)
stands_at_end items at zero point there (long, end) axis = stands items long
  where
    stands : (items : List Item) → 0 ≡ length items → StandsAt point axis (left_at items at axis)
    stands [] long = there.stand axis ∙ ap (λ x. x *ℤ pos point.under) (sym (left_at-nil at axis))
    stands (item ∷ items) long = absurd cc
stands_at_end items at (suc n) point there (long, end) axis =
    by_item (slice_get items n) refl there (let less : suc n - 1 ≡ n = omega arith in subst (λ k. IfSome (slice_get items k) (λ item. IsEndOf item point)) less end)
  where
    by_item : (o : Option Item) → slice_get items n ≡ o → IsSomeAnd o (λ item. IsAlong (left_at (take n items) at) item point) → IfSome o (λ item. IsEndOf item point)
        → StandsAt point axis (left_at items at axis)
    by_item None is along ends = absurd along
    by_item (Some item) is along ends =
        at_its_end item (left_at (take n items) at) point along ends axis
        ∙ ap (λ x. x *ℤ pos point.under) (sym (left_at-last items at n item (sym long) is axis))
