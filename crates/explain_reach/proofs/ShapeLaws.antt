-- Bounds of boxes that are made, and when boxes with points meet.
use Rattle.std.proofs.Common.{◌≡◌, ◌<◌, ◌==◌, ◌⊎◌, ◌↔◌, ◌∙◌, inl, inr, ℕ, ℤ, zero, suc, Bool, true, false, cond, ap, subst, sym, arith, refl, eq-eqb, w32}
use Rattle.std.specs.Prelude.{pos, neg_ℤ, ◌+ℤ◌, ◌-ℤ◌, ◌*ℤ◌, ◌≤ℤ◌}
use Rattle.std.specs.Int.{int_max, int_min}
use Rattle.std.proofs.lemmas.Int.{ints, clamps, to_z-of_z}
use Rattle.number_laws.proofs.Integers.{≤ℤ_trans, times_mono, min_left, min_right, max_left, max_right}
use mir.Val.{to_z, of_z, SFits}
use Rattle.swept_boxes.specs.Boxes.{SpacePoint, IsInBox, low_of, high_of, DoMeet}
use Rattle.swept_boxes.specs.declared.Box3.{Box3}
use Rattle.swept_boxes.proofs.Meeting.{touch-from_meet, meet-from_touch}
use Rattle.explain_reach.specs.Shapes.{HasPoint, box_with, common_box, common_high, common_low, grown_box, moved_box, shift_along}
use Rattle.explain_reach.specs.Reaches.{reach_along, reach_of}

-- the bounds of a box that is made are those that it is made of
pub low_with : (low high : ℕ → ℤ) (d : ℕ) → d < 3 → low_of (box_with low high) d ≡ low d
unfolding box_with
low_with low high zero h = refl
low_with low high (suc zero) h = refl
low_with low high (suc (suc zero)) h = refl
low_with low high (suc (suc (suc d))) h = absurd (omega arith)

pub high_with : (low high : ℕ → ℤ) (d : ℕ) → d < 3 → high_of (box_with low high) d ≡ high d
unfolding box_with
high_with low high zero h = refl
high_with low high (suc zero) h = refl
high_with low high (suc (suc zero)) h = refl
high_with low high (suc (suc (suc d))) h = absurd (omega arith)

-- ---- boxes that reach into each other

touches : (a b c d : ℤ) → a ≤ℤ c → b ≤ℤ d → pos 0 ≤ℤ int_min (c -ℤ b) (d -ℤ a) → int_max a b ≤ℤ int_min c d
touches a b c d p q r = omega (arith, ints, clamps)

reaches_on : (a b c d : ℤ) → int_max a b ≤ℤ int_min c d → pos 0 ≤ℤ int_min (c -ℤ b) (d -ℤ a)
reaches_on a b c d h = omega (arith, ints, clamps)

-- boxes with points meet where they reach into each other along each direction
pub meet-from_reach : (left right : Box3) → HasPoint left → HasPoint right → ((d : ℕ) → d < 3 → pos 0 ≤ℤ reach_along left right d) → DoMeet left right
meet-from_reach left right own other reach =
    meet-from_touch left right (λ d h. touches (low_of left d) (low_of right d) (high_of left d) (high_of right d) (own d h) (other d h) (reach d h))

-- boxes that meet do so
pub reach-from_meet : (left right : Box3) → DoMeet left right → (d : ℕ) → d < 3 → pos 0 ≤ℤ reach_along left right d
reach-from_meet left right meet d h = reaches_on (low_of left d) (low_of right d) (high_of left d) (high_of right d) (touch-from_meet left right meet d h)

-- ---- the least of three

least-le : (a b c m : ℤ) → m ≤ℤ int_min (int_min a b) c → (m ≤ℤ a) × (m ≤ℤ b) × (m ≤ℤ c)
least-le a b c m h = (omega (arith, ints, clamps), omega (arith, ints, clamps), omega (arith, ints, clamps))

le-least : (a b c m : ℤ) → m ≤ℤ a → m ≤ℤ b → m ≤ℤ c → m ≤ℤ int_min (int_min a b) c
le-least a b c m p q r = omega (arith, ints, clamps)

-- what is at most the least reach is at most that along each direction, and the other way round
pub along-from_least : (left right : Box3) (m : ℤ) → m ≤ℤ reach_of left right → (d : ℕ) → d < 3 → m ≤ℤ reach_along left right d
unfolding reach_of
along-from_least left right m h zero in_space = (least-le (reach_along left right 0) (reach_along left right 1) (reach_along left right 2) m h).0
along-from_least left right m h (suc zero) in_space = (least-le (reach_along left right 0) (reach_along left right 1) (reach_along left right 2) m h).1
along-from_least left right m h (suc (suc zero)) in_space = (least-le (reach_along left right 0) (reach_along left right 1) (reach_along left right 2) m h).2
along-from_least left right m h (suc (suc (suc d))) in_space = absurd (omega arith)

pub least-from_along : (left right : Box3) (m : ℤ) → ((d : ℕ) → d < 3 → m ≤ℤ reach_along left right d) → m ≤ℤ reach_of left right
unfolding reach_of
least-from_along left right m h = le-least (reach_along left right 0) (reach_along left right 1) (reach_along left right 2) m (h 0 (omega arith)) (h 1 (omega arith)) (h 2 (omega arith))

-- boxes with points meet exactly where they reach into each other
pub meet-from_least : (left right : Box3) → HasPoint left → HasPoint right → pos 0 ≤ℤ reach_of left right → DoMeet left right
meet-from_least left right own other h = meet-from_reach left right own other (along-from_least left right (pos 0) h)

pub least-from_meet : (left right : Box3) → DoMeet left right → pos 0 ≤ℤ reach_of left right
least-from_meet left right meet = least-from_along left right (pos 0) (reach-from_meet left right meet)

-- ---- boxes that are moved

-- how far they reach into each other after the one is moved
moved_along : (ll lr hl hr s k : ℤ) → s ≤ℤ int_min (hl -ℤ lr) (hr -ℤ ll) → neg_ℤ s ≤ℤ k → k ≤ℤ s → pos 0 ≤ℤ int_min ((hl +ℤ k) -ℤ lr) (hr -ℤ (ll +ℤ k))
moved_along ll lr hl hr s k h p q = omega (arith, ints, clamps)

shift_small : (b : Bool) (by s : ℤ) → neg_ℤ s ≤ℤ by → by ≤ℤ s → (neg_ℤ s ≤ℤ cond b by (pos 0)) × (cond b by (pos 0) ≤ℤ s)
shift_small true by s p q = (p, q)
shift_small false by s p q = (omega (arith, ints), omega (arith, ints))

moved_point : (low high k : ℤ) → low ≤ℤ high → (low +ℤ k) ≤ℤ (high +ℤ k)
moved_point low high k h = omega (arith, ints)

pub moved_has_point : (box : Box3) (along : ℕ) (by : ℤ) → HasPoint box → HasPoint (moved_box box along by)
unfolding moved_box
moved_has_point box along by point d h =
    rw (
      low_with (λ direction. low_of box direction +ℤ shift_along along by direction) (λ direction. high_of box direction +ℤ shift_along along by direction) d h,
      high_with (λ direction. low_of box direction +ℤ shift_along along by direction) (λ direction. high_of box direction +ℤ shift_along along by direction) d h,
    ) (moved_point (low_of box d) (high_of box d) (shift_along along by d) (point d h))

pub moved_reach : (left right : Box3) (along : ℕ) (by : ℤ) (d : ℕ) → d < 3
    → reach_along (moved_box left along by) right d ≡ int_min ((high_of left d +ℤ shift_along along by d) -ℤ low_of right d) (high_of right d -ℤ (low_of left d +ℤ shift_along along by d))
unfolding moved_box
moved_reach left right along by d h =
    rw (
      low_with (λ direction. low_of left direction +ℤ shift_along along by direction) (λ direction. high_of left direction +ℤ shift_along along by direction) d h,
      high_with (λ direction. low_of left direction +ℤ shift_along along by direction) (λ direction. high_of left direction +ℤ shift_along along by direction) d h,
    ) refl

-- boxes with points still meet after a shift of no more than they reach into each other
pub still_meet : (left right : Box3) → HasPoint left → HasPoint right → (along : ℕ) (by : ℤ) → neg_ℤ (reach_of left right) ≤ℤ by → by ≤ℤ reach_of left right → DoMeet (moved_box left along by) right
still_meet left right own other along by p q =
    meet-from_reach (moved_box left along by) right (moved_has_point left along by own) other
    (λ d h. let small = shift_small (d == along) by (reach_of left right) p q in
    rw (moved_reach left right along by d h)
    (moved_along (low_of left d) (low_of right d) (high_of left d) (high_of right d) (reach_of left right) (shift_along along by d) (along-from_least left right (reach_of left right) (le_itself (reach_of left right)) d h) small.0 small.1))
  where
    le_itself : (a : ℤ) → a ≤ℤ a
    le_itself a = omega (arith, ints)

one_of : (a b s : ℤ) → int_min a b ≡ s → (a ≡ s) ⊎ (b ≡ s)
one_of a b s e = grind (arith, ints)

past_up : (ll lr hl hr s : ℤ) → (hl -ℤ lr) ≡ s → pos 0 ≤ℤ int_min ((hl +ℤ neg_ℤ (s +ℤ pos 1)) -ℤ lr) (hr -ℤ (ll +ℤ neg_ℤ (s +ℤ pos 1))) → ⊥
past_up ll lr hl hr s e h = omega (arith, ints, clamps)

past_down : (ll lr hl hr s : ℤ) → (hr -ℤ ll) ≡ s → pos 0 ≤ℤ int_min ((hl +ℤ (s +ℤ pos 1)) -ℤ lr) (hr -ℤ (ll +ℤ (s +ℤ pos 1))) → ⊥
past_down ll lr hl hr s e h = omega (arith, ints, clamps)

own_shift : (along : ℕ) (by : ℤ) → shift_along along by along ≡ by
own_shift along by = ap (λ (b : Bool). cond b by (pos 0)) (eq-eqb along along refl)

-- one more along a direction parts them, up or down
pub parts : (left right : Box3) (along : ℕ) (s : ℤ) → along < 3 → reach_along left right along ≡ s
    → (DoMeet (moved_box left along (s +ℤ pos 1)) right → ⊥) ⊎ (DoMeet (moved_box left along (neg_ℤ (s +ℤ pos 1))) right → ⊥)
parts left right along s h e =
    elim (one_of (high_of left along -ℤ low_of right along) (high_of right along -ℤ low_of left along) s e) [
      | inl up ↦ inr (λ meet. past_up (low_of left along) (low_of right along) (high_of left along) (high_of right along) s up (after (neg_ℤ (s +ℤ pos 1)) meet))
      | inr down ↦ inl (λ meet. past_down (low_of left along) (low_of right along) (high_of left along) (high_of right along) s down (after (s +ℤ pos 1) meet))
    ]
  where
    after : (k : ℤ) → DoMeet (moved_box left along k) right → pos 0 ≤ℤ int_min ((high_of left along +ℤ k) -ℤ low_of right along) (high_of right along -ℤ (low_of left along +ℤ k))
    after k meet = rw (moved_reach left right along k along h, own_shift along k) at (reach-from_meet (moved_box left along k) right meet along h)

-- ---- boxes that are grown

grown_min : (ll lr hl hr g : ℤ) → int_min ((hl +ℤ g) -ℤ (lr -ℤ g)) ((hr +ℤ g) -ℤ (ll -ℤ g)) ≡ int_min (hl -ℤ lr) (hr -ℤ ll) +ℤ (g *ℤ pos 2)
grown_min ll lr hl hr g = omega (arith, ints, clamps)

more_least : (a b c h : ℤ) → int_min (int_min (a +ℤ h) (b +ℤ h)) (c +ℤ h) ≡ int_min (int_min a b) c +ℤ h
more_least a b c h = omega (arith, ints, clamps)

pub grown_along : (left right : Box3) (g : ℤ) (d : ℕ) → d < 3 → reach_along (grown_box g left) (grown_box g right) d ≡ reach_along left right d +ℤ (g *ℤ pos 2)
unfolding grown_box
grown_along left right g d h =
    rw (
      low_with (λ direction. low_of left direction -ℤ g) (λ direction. high_of left direction +ℤ g) d h,
      high_with (λ direction. low_of left direction -ℤ g) (λ direction. high_of left direction +ℤ g) d h,
      low_with (λ direction. low_of right direction -ℤ g) (λ direction. high_of right direction +ℤ g) d h,
      high_with (λ direction. low_of right direction -ℤ g) (λ direction. high_of right direction +ℤ g) d h,
    ) (grown_min (low_of left d) (low_of right d) (high_of left d) (high_of right d) g)

-- both reach further by the growth of both
pub grown_reach : (left right : Box3) (g : ℤ) → reach_of (grown_box g left) (grown_box g right) ≡ reach_of left right +ℤ (g *ℤ pos 2)
unfolding reach_of
grown_reach left right g =
    rw (grown_along left right g 0 (omega arith), grown_along left right g 1 (omega arith), grown_along left right g 2 (omega arith))
    (more_least (reach_along left right 0) (reach_along left right 1) (reach_along left right 2) (g *ℤ pos 2))

-- ---- points of the common box

-- a signed number that is stored keeps its value
pub stored : (z v : ℤ) → SFits w32 z → z ≡ v → to_z w32 (of_z w32 z) ≡ v
stored z v fits e = to_z-of_z w32 z fits ∙ e

-- what is not below the greater of two bounds is below neither
above_both : (a b t : ℤ) (n : ℕ) → (int_max a b *ℤ pos n) ≤ℤ t → ((a *ℤ pos n) ≤ℤ t) × ((b *ℤ pos n) ≤ℤ t)
above_both a b t n h = (≤ℤ_trans (times_mono n a (int_max a b) (max_left a b)) h, ≤ℤ_trans (times_mono n b (int_max a b) (max_right a b)) h)

max_is : (a b : ℤ) → (int_max a b ≡ a) ⊎ (int_max a b ≡ b)
max_is a b = grind (arith, ints)

min_is : (a b : ℤ) → (int_min a b ≡ a) ⊎ (int_min a b ≡ b)
min_is a b = grind (arith, ints)

both_above : (a b t : ℤ) (n : ℕ) → (a *ℤ pos n) ≤ℤ t → (b *ℤ pos n) ≤ℤ t → (int_max a b *ℤ pos n) ≤ℤ t
both_above a b t n p q = elim (max_is a b) [
  | inl e ↦ subst (λ (m : ℤ). (m *ℤ pos n) ≤ℤ t) (sym e) p
  | inr e ↦ subst (λ (m : ℤ). (m *ℤ pos n) ≤ℤ t) (sym e) q
]

below_both : (a b t : ℤ) (n : ℕ) → t ≤ℤ (int_min a b *ℤ pos n) → (t ≤ℤ (a *ℤ pos n)) × (t ≤ℤ (b *ℤ pos n))
below_both a b t n h = (≤ℤ_trans h (times_mono n (int_min a b) a (min_left a b)), ≤ℤ_trans h (times_mono n (int_min a b) b (min_right a b)))

both_below : (a b t : ℤ) (n : ℕ) → t ≤ℤ (a *ℤ pos n) → t ≤ℤ (b *ℤ pos n) → t ≤ℤ (int_min a b *ℤ pos n)
both_below a b t n p q = elim (min_is a b) [
  | inl e ↦ subst (λ (m : ℤ). t ≤ℤ (m *ℤ pos n)) (sym e) p
  | inr e ↦ subst (λ (m : ℤ). t ≤ℤ (m *ℤ pos n)) (sym e) q
]

low_in_common : (left right : Box3) (d : ℕ) → d < 3 → low_of (common_box left right) d ≡ int_max (low_of left d) (low_of right d)
unfolding common_box
low_in_common left right d h = low_with (common_low left right) (common_high left right) d h

high_in_common : (left right : Box3) (d : ℕ) → d < 3 → high_of (common_box left right) d ≡ int_min (high_of left d) (high_of right d)
unfolding common_box
high_in_common left right d h = high_with (common_low left right) (common_high left right) d h

-- the points of the common box are those that are in both
pub points_in_common : (left right : Box3) (point : SpacePoint) → IsInBox (common_box left right) point ↔ (IsInBox left point × IsInBox right point)
points_in_common left right point = (
  λ inside. (
    record {
      fraction = inside.fraction;
      above = λ d h. (above_both (low_of left d) (low_of right d) (point.top d) point.under (rw (low_in_common left right d h) at (inside.above d h))).0;
      below = λ d h. (below_both (high_of left d) (high_of right d) (point.top d) point.under (rw (high_in_common left right d h) at (inside.below d h))).0;
    },
    record {
      fraction = inside.fraction;
      above = λ d h. (above_both (low_of left d) (low_of right d) (point.top d) point.under (rw (low_in_common left right d h) at (inside.above d h))).1;
      below = λ d h. (below_both (high_of left d) (high_of right d) (point.top d) point.under (rw (high_in_common left right d h) at (inside.below d h))).1;
    },
  ),
  λ inside. record {
    fraction = inside.0.fraction;
    above = λ d h. rw (low_in_common left right d h) (both_above (low_of left d) (low_of right d) (point.top d) point.under (inside.0.above d h) (inside.1.above d h));
    below = λ d h. rw (high_in_common left right d h) (both_below (high_of left d) (high_of right d) (point.top d) point.under (inside.0.below d h) (inside.1.below d h));
  },
)
