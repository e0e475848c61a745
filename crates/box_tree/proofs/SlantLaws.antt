-- Bounds of boxes across two directions.
use Rattle.std.proofs.Common.{◌≡◌, ◌∙◌, ℕ, ℤ, w64, ◌≤ℤ◌, ◌+ℤ◌, ◌-ℤ◌, ◌+◌, ◌<◌, ◌≤◌, ◌⊎◌, inl, inr, ◌&&◌, Bool, true, false, List, get_or, length, refl, sym, ap, subst, arith}
use Rattle.std.proofs.lemmas.Int.{ints, clamps, to_z-of_z}
use Rattle.std.proofs.lemmas.List.{get_or_default}
use Rattle.std.specs.Int.{int_max, int_min}
use Rattle.std.specs.List.{list_any}
use lib.Signed.{lt_z}
use mir.Val.{to_z, of_z, SFits}
use Rattle.box_tree.proofs.HullLaws.{below_or_not, none_among}
use Rattle.box_tree.specs.Slants.{AreHeld, HoldsSlant, HoldsSlants}
use Rattle.box_tree.specs.declared.slants.Slant.{Slant}
use Rattle.box_tree.specs.declared.slants.Slants.{Slants}
use Rattle.swept_boxes.proofs.MeetTests.{touch_of}
use Rattle.swept_boxes.specs.Boxes.{low_of, high_of, TouchIn, boxes_meet, do_touch}
use Rattle.swept_boxes.specs.declared.Box3.{Box3}

-- ---- numbers that are stored

between : (r a b : ℤ) → r ≤ℤ a → a ≤ℤ b → r ≤ℤ b
between r a b low high = omega (arith, ints)

pub kept_low : (r a b : ℤ) → SFits w64 r → SFits w64 a → r ≤ℤ to_z w64 (of_z w64 a) → a ≤ℤ b → to_z w64 (of_z w64 r) ≤ℤ b
kept_low r a b fits fits' low high =
    subst (λ (x : ℤ). x ≤ℤ b) (sym (to_z-of_z w64 r fits)) (between r a b (subst (λ (x : ℤ). r ≤ℤ x) (to_z-of_z w64 a fits') low) high)

pub kept_high : (r a b : ℤ) → SFits w64 r → SFits w64 a → to_z w64 (of_z w64 a) ≤ℤ r → b ≤ℤ a → b ≤ℤ to_z w64 (of_z w64 r)
kept_high r a b fits fits' low high =
    subst (λ (x : ℤ). b ≤ℤ x) (sym (to_z-of_z w64 r fits)) (between b a r high (subst (λ (x : ℤ). x ≤ℤ r) (to_z-of_z w64 a fits') low))

less_not : (a b : ℤ) → b ≤ℤ a → lt_z a b ≡ true → ⊥
less_not a b most less = grind (arith, ints)

pub not_less : (a b : ℤ) → SFits w64 a → SFits w64 b → b ≤ℤ a → lt_z (to_z w64 (of_z w64 a)) (to_z w64 (of_z w64 b)) ≡ true → ⊥
not_less a b fits fits' most less =
    less_not a b most (subst (λ (x : ℤ). lt_z x b ≡ true) (to_z-of_z w64 a fits) (subst (λ (y : ℤ). lt_z (to_z w64 (of_z w64 a)) y ≡ true) (to_z-of_z w64 b fits') less))

-- ---- boxes that meet

-- where two ranges have something in common, neither is above the other
first_below : (a b p q : ℤ) → int_max a b ≤ℤ int_min p q → a ≤ℤ q
first_below a b p q touch = omega (arith, ints, clamps)

second_below : (a b p q : ℤ) → int_max a b ≤ℤ int_min p q → b ≤ℤ p
second_below a b p q touch = omega (arith, ints, clamps)

sums : (low a b p q high : ℤ) → low ≤ℤ (a +ℤ b) → a ≤ℤ p → b ≤ℤ q → (p +ℤ q) ≤ℤ high → low ≤ℤ high
sums low a b p q high lower first second higher = omega (arith, ints)

differences : (low a b p q high : ℤ) → low ≤ℤ (a -ℤ b) → a ≤ℤ p → q ≤ℤ b → (p -ℤ q) ≤ℤ high → low ≤ℤ high
differences low a b p q high lower first second higher = omega (arith, ints)

-- so have sums and differences of boxes that meet
pub record AreJoined (left right : Slant) : Type 0 where
  pub sum : left.sum_low ≤ℤ right.sum_high
  pub sum_back : right.sum_low ≤ℤ left.sum_high
  pub difference : left.low ≤ℤ right.high
  pub difference_back : right.low ≤ℤ left.high

pub joined_slants : (own other : Box3) (one two : ℕ) (left right : Slant) → HoldsSlant own one two left → HoldsSlant other one two right → TouchIn own other one → TouchIn own other two → AreJoined left right
joined_slants own other one two left right held held' touch touch' =
    let a : low_of own one ≤ℤ high_of other one = first_below (low_of own one) (low_of other one) (high_of own one) (high_of other one) touch in
    let b : low_of other one ≤ℤ high_of own one = second_below (low_of own one) (low_of other one) (high_of own one) (high_of other one) touch in
    let a' : low_of own two ≤ℤ high_of other two = first_below (low_of own two) (low_of other two) (high_of own two) (high_of other two) touch' in
    let b' : low_of other two ≤ℤ high_of own two = second_below (low_of own two) (low_of other two) (high_of own two) (high_of other two) touch' in
    record {
      sum = sums left.sum_low (low_of own one) (low_of own two) (high_of other one) (high_of other two) right.sum_high held.sum_low a a' held'.sum_high;
      sum_back = sums right.sum_low (low_of other one) (low_of other two) (high_of own one) (high_of own two) left.sum_high held'.sum_low b b' held.sum_high;
      difference = differences left.low (low_of own one) (high_of own two) (high_of other one) (low_of other two) right.high held.low a b' held'.high;
      difference_back = differences right.low (low_of other one) (high_of other two) (high_of own one) (low_of own two) left.high held'.low b a' held.high;
    }

-- boxes that do not touch in all directions do not meet
pub not_all : (own other : Box3) → (TouchIn own other 0 → TouchIn own other 1 → TouchIn own other 2 → ⊥) → boxes_meet own other ≡ false
unfolding boxes_meet
not_all own other apart = by_tests (do_touch own other 0) (do_touch own other 1) (do_touch own other 2) refl refl refl
  where
    by_tests : (x y z : Bool) → do_touch own other 0 ≡ x → do_touch own other 1 ≡ y → do_touch own other 2 ≡ z → (x && (y && z)) ≡ false
    by_tests true true true p q r = absurd (apart (touch_of own other 0 p) (touch_of own other 1 q) (touch_of own other 2 r))
    by_tests true true false p q r = refl
    by_tests true false z p q r = refl
    by_tests false y z p q r = refl

-- ---- lists of boxes

-- bounds that hold one box more
pub held_more : (boxes : List Box3) (i : ℕ) (e : Box3) (one two : ℕ) (old new : Slant) → i < length boxes → ((own : Box3) → HoldsSlant own one two old → HoldsSlant own one two new) → HoldsSlant (get_or boxes i e) one two new
    → ((k : ℕ) (d : Box3) → k < i → HoldsSlant (get_or boxes k d) one two old) → (k : ℕ) (d : Box3) → k < i + 1 → HoldsSlant (get_or boxes k d) one two new
held_more boxes i e one two old new within through last held k d below = by_order (below_or_not k i)
  where
    by_order : (k < i) ⊎ (i ≤ k) → HoldsSlant (get_or boxes k d) one two new
    by_order (inl less) = through (get_or boxes k d) (held k d less)
    by_order (inr most) =
        let same : i ≡ k = omega (arith, most, below) in
        subst (λ (b : Box3). HoldsSlant b one two new) (get_or_default boxes i e d within ∙ ap (λ (n : ℕ). get_or boxes n d) same) last

-- lists whose bounds are apart
pub none_aslant : (boxes others own_boxes other_boxes : List Box3) (left right : Slants) → boxes ≡ own_boxes → others ≡ other_boxes → AreHeld boxes left → AreHeld others right
    → ((own other : Box3) → HoldsSlants own left → HoldsSlants other right → boxes_meet own other ≡ false) → false ≡ list_any (λ piece. list_any (boxes_meet piece) other_boxes) own_boxes
none_aslant boxes others own_boxes other_boxes left right own_is other_is held held' apart =
    none_among boxes others (length boxes) (omega arith) (λ k m d e below there. apart (get_or boxes k d) (get_or others m e) (held k d below) (held' m e there))
    ∙ ap (λ (bs : List Box3). list_any (λ piece. list_any (boxes_meet piece) bs) boxes) other_is ∙ ap (λ (bs : List Box3). list_any (λ piece. list_any (boxes_meet piece) other_boxes) bs) own_is
