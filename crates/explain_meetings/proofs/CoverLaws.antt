-- Boxes that lie in covers: where they meet their covers do, and they reach no further into each other than these.
use Rattle.std.proofs.Common.{◌≡◌, ℤ, true, List, [], ◌∷◌, ◌++◌, map, All, sym, subst, arith}
use Rattle.std.specs.Prelude.{◌-ℤ◌, ◌≤ℤ◌}
use Rattle.std.specs.Int.{int_max, int_min}
use Rattle.std.proofs.lemmas.Int.{ints, clamps}
use Rattle.std.proofs.lemmas.List.Elements.{All-nil, All-cons, All-head, All-tail, All-append, All-map, All-weaker, All-contains}
use Rattle.explain_reach.proofs.LotLaws.{lots-from_test}
use Rattle.explain_reach.proofs.ShapeLaws.{along-from_least, least-from_along}
use Rattle.explain_reach.specs.Lots.{reaches}
use Rattle.explain_reach.specs.Reaches.{reach_of}
use Rattle.job_types.specs.Job.{JobView}
use Rattle.explain_meetings.specs.Nearest.{pair_reaches}
use Rattle.order_clocks.specs.Clocked.{ClocksView}
use Rattle.zone_stretches.proofs.PiecesInCovers.{pairs_in_cover, times_in_cover}
use Rattle.zone_stretches.specs.InCovers.{IsWithin, IsInCover, IsTimeInCover, ArePairsInCover}
use Rattle.zone_stretches.specs.Overlaps.{Order, Pair, compared_pairs, zone_times}
use Rattle.zone_stretches.specs.Pieces.{piece_boxes, pair_meets}
use Rattle.zone_stretches.specs.Stretches.{StretchesView}
use Rattle.zone_stretches.specs.Told.{IsTold}
use Rattle.zone_stretches.specs.ZoneBoxes.{IsFit}
use Rattle.swept_boxes.proofs.Meeting.{meet-from_touch, touch-from_meet}
use Rattle.swept_boxes.proofs.MeetTests.{meet_passes}
use Rattle.swept_boxes.specs.Boxes.{DoMeet, low_of, high_of, boxes_meet}
use Rattle.swept_boxes.specs.declared.Box3.{Box3}
use Rattle.sync_types.specs.Boards.{first_board}
use Rattle.sync_types.specs.Views.{RunView}

touches : (a b c d a' b' c' d' : ℤ) → a' ≤ℤ a → b' ≤ℤ b → c ≤ℤ c' → d ≤ℤ d' → int_max a b ≤ℤ int_min c d → int_max a' b' ≤ℤ int_min c' d'
touches a b c d a' b' c' d' p q r s h = omega (arith, ints, clamps)

further : (a b c d a' b' c' d' m : ℤ) → a' ≤ℤ a → b' ≤ℤ b → c ≤ℤ c' → d ≤ℤ d' → m ≤ℤ int_min (c -ℤ b) (d -ℤ a) → m ≤ℤ int_min (c' -ℤ b') (d' -ℤ a')
further a b c d a' b' c' d' m p q r s h = omega (arith, ints, clamps)

at_most_itself : (a : ℤ) → a ≤ℤ a
at_most_itself a = omega (arith, ints)

module _ (outer other inner met : Box3) (own : IsWithin outer inner) (later : IsWithin other met) where
  meet_within : DoMeet inner met → DoMeet outer other
  meet_within meet =
      meet-from_touch outer other
      (λ d h. touches (low_of inner d) (low_of met d) (high_of inner d) (high_of met d) (low_of outer d) (low_of other d) (high_of outer d) (high_of other d)
      (own.low d) (later.low d) (own.high d) (later.high d) (touch-from_meet inner met meet d h))

  reach_within : reach_of inner met ≤ℤ reach_of outer other
  reach_within =
      least-from_along outer other (reach_of inner met)
      (λ d h. further (low_of inner d) (low_of met d) (high_of inner d) (high_of met d) (low_of outer d) (low_of other d) (high_of outer d) (high_of other d) (reach_of inner met)
      (own.low d) (later.low d) (own.high d) (later.high d) (along-from_least inner met (reach_of inner met) (at_most_itself (reach_of inner met)) d h))

reaches_within : (outer other : Box3) (lefts rights : List Box3) → All (IsWithin outer) lefts → All (IsWithin other) rights → All (λ n. n ≤ℤ reach_of outer other) (reaches lefts rights)
reaches_within outer other [] rights own later = All-nil (λ n. n ≤ℤ reach_of outer other)
reaches_within outer other (l ∷ lefts) rights own later =
    All-append (λ n. n ≤ℤ reach_of outer other) (map (reach_of l) rights) (reaches lefts rights)
    (All-map (λ n. n ≤ℤ reach_of outer other) (reach_of l) rights
    (All-weaker (IsWithin other) (λ r. reach_of l r ≤ℤ reach_of outer other) (λ r within. reach_within outer other l r (All-head (IsWithin outer) l lefts own) within) rights later))
    (reaches_within outer other lefts rights (All-tail (IsWithin outer) l lefts own) later)

module _ (job : JobView) (run : RunView) (pair : Pair) (own : IsInCover job run pair.0) (later : IsInCover job run pair.1) where
  -- two boxes meet only where their covers do
  pub covers_meet : pair_meets job run pair ≡ true → boxes_meet pair.0.box.cover pair.1.box.cover ≡ true
  unfolding pair_meets
  covers_meet on =
      let met = lots-from_test (piece_boxes job run pair.0) (piece_boxes job run pair.1) on in
      meet_passes pair.0.box.cover pair.1.box.cover
      (meet_within pair.0.box.cover pair.1.box.cover met.0 met.1 (All-contains (IsWithin pair.0.box.cover) (piece_boxes job run pair.0) met.0 own met.2)
      (All-contains (IsWithin pair.1.box.cover) (piece_boxes job run pair.1) met.1 later met.3) met.4)

  -- they reach no further into each other than their covers
  pub pair_within : All (λ n. n ≤ℤ reach_of pair.0.box.cover pair.1.box.cover) (pair_reaches job run pair)
  pair_within = reaches_within pair.0.box.cover pair.1.box.cover (piece_boxes job run pair.0) (piece_boxes job run pair.1) own later

-- ---- pairs in two parts

module _ {X : Type 0} (P : X → Type 0) where
  pub part_left : (xs ys : List X) → All P (xs ++ ys) → All P xs
  part_left [] ys all = All-nil P
  part_left (x ∷ xs) ys all = All-cons P x xs (All-head P x (xs ++ ys) all) (part_left xs ys (All-tail P x (xs ++ ys) all))

  pub part_right : (xs ys : List X) → All P (xs ++ ys) → All P ys
  part_right [] ys all = all
  part_right (x ∷ xs) ys all = part_right xs ys (All-tail P x (xs ++ ys) all)

-- ---- all stretches of a run

pub told_in_cover : (job : JobView) (run : RunView) (stretches : StretchesView) (clocks : ClocksView) (before : Order) → IsTold job run stretches clocks → All (All IsFit) run.items
    → ArePairsInCover job run (compared_pairs before job stretches)
told_in_cover job run stretches clocks before told fit =
    pairs_in_cover job run before stretches (subst (λ (s : StretchesView). All (IsTimeInCover job run) (zone_times job s)) (sym told.told) (times_in_cover job (first_board told.start) run fit))
