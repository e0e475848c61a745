-- When two boxes meet, as a test.
use Rattle.std.proofs.Common.{◌≡◌, ℕ, ℤ, ◌≤ℤ◌, zero, suc, ◌&&◌, Bool, true, false, arith, refl}
use mathlib.Core.Logic.{◌↔◌}
use Rattle.std.proofs.lemmas.Bool.{cases_from_iff}
use Rattle.std.proofs.lemmas.Int.{ints}
use Rattle.std.specs.Int.{int_max, int_min}
use Rattle.std.specs.Int.RustNames.{int_le}
use Rattle.swept_boxes.specs.Boxes.{low_of, high_of, DoMeet, TouchIn, TouchInAll, boxes_meet, do_touch}
use Rattle.swept_boxes.proofs.Meeting.{touch-from_meet}
use Rattle.swept_boxes.specs.declared.Box3.{Box3}

all_true : (a b c : Bool) → a ≡ true → b ≡ true → c ≡ true → true ≡ (a && (b && c))
all_true a b c p q r = rw (p, q, r) refl

not_all : (a b c : Bool) → (a ≡ true → b ≡ true → c ≡ true → ⊥) → false ≡ (a && (b && c))
not_all true true true h = absurd (h refl refl refl)
not_all true true false h = refl
not_all true false c h = refl
not_all false b c h = refl

in_each : (left right : Box3) → TouchIn left right 0 → TouchIn left right 1 → TouchIn left right 2 → TouchInAll left right
in_each left right p q r zero low = p
in_each left right p q r (suc zero) low = q
in_each left right p q r (suc (suc zero)) low = r
in_each left right p q r (suc (suc (suc k))) low = absurd (omega arith)

-- a test of a direction that passed
pub touch_of : (left right : Box3) (direction : ℕ) → do_touch left right direction ≡ true → TouchIn left right direction
touch_of left right direction e =
    let low : ℤ = int_max (low_of left direction) (low_of right direction) in
    let high : ℤ = int_min (high_of left direction) (high_of right direction) in
    at_most low high e
  where
    at_most : (low high : ℤ) → int_le low high ≡ true → low ≤ℤ high
    at_most low high e = grind (arith, ints)

pub touch_passes : (left right : Box3) (direction : ℕ) → TouchIn left right direction → do_touch left right direction ≡ true
touch_passes left right direction h =
    let low : ℤ = int_max (low_of left direction) (low_of right direction) in
    let high : ℤ = int_min (high_of left direction) (high_of right direction) in
    passes low high h
  where
    passes : (low high : ℤ) → low ≤ℤ high → int_le low high ≡ true
    passes low high h = grind (arith, ints)

-- the boxes touch in all three directions exactly where the test says so
pub meets_is : (left right : Box3) (result : Bool) → ((result ≡ true) ↔ TouchInAll left right) → result ≡ boxes_meet left right
unfolding boxes_meet
meets_is left right true h =
    let all : TouchInAll left right = cases_from_iff h in
    all_true (do_touch left right 0) (do_touch left right 1) (do_touch left right 2) (touch_passes left right 0 (all 0 (omega arith))) (touch_passes left right 1 (all 1 (omega arith))) (touch_passes left right 2 (all 2 (omega arith)))
meets_is left right false h =
    let none : TouchInAll left right → ⊥ = cases_from_iff h in
    not_all (do_touch left right 0) (do_touch left right 1) (do_touch left right 2) (λ p q r. none (in_each left right (touch_of left right 0 p) (touch_of left right 1 q) (touch_of left right 2 r)))

-- so it says of boxes that share a point
pub meet_passes : (left right : Box3) → DoMeet left right → boxes_meet left right ≡ true
unfolding boxes_meet
meet_passes left right meet =
    let touch = touch-from_meet left right meet in
    rw (touch_passes left right 0 (touch 0 (omega arith)), touch_passes left right 1 (touch 1 (omega arith)), touch_passes left right 2 (touch 2 (omega arith))) refl
