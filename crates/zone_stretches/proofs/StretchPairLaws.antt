-- The stretches of two zones that may overlap, one pair after another, and the compared boxes of all such pairs.
use Rattle.std.proofs.Common.{◌≡◌, ◌∙◌, ℕ, ◌+◌, ◌<◌, ◌≤◌, ◌==◌, not, Bool, true, false, cond, List, [], ◌∷◌, ◌++◌, drop, filter, length, get_or, map, refl, sym, ap, subst, arith}
use Rattle.std.specs.List.{flat_map}
use Rattle.std.proofs.lemmas.List.{drop_all, drop_more}
use Rattle.std.proofs.lemmas.List.Concat.{flat_map-append}
use Rattle.zone_stretches.proofs.ChainLaws.{passing_at}
use Rattle.zone_stretches.specs.Ascents.{PassFirst, passes}
use Rattle.zone_stretches.specs.Overlaps.{Order, Pair, ZoneTime, box_pairs, compared_pairs, may_overlap, pairs_by_group, pairs_of_zones, stretch_pairs, zone_times}
use Rattle.zone_stretches.specs.StretchPairs.{boxes_of_pair, pairs_beside, pairs_from, boxes_with, overlapping_stretches, two_stretches}
use Rattle.zone_stretches.specs.Stretches.{StretchView, StretchesView}
use Rattle.zone_stretches.specs.TimedZones.{TimedZoneView, AreTimed, each_two}
use Rattle.job_types.specs.Job.{JobView}

-- ---- one pair after another

-- at a place of the first zone, where those of the second ascend, they pass first
pub passing_here : (before : Order) (left right one two : TimedZoneView) (place : ℕ) (own : StretchView) → one ≡ left → two ≡ right → AreTimed before (left, right)
    → place < length one.time.stretches → own ≡ get_or one.time.stretches place own → two.ascends ≡ true → (ended : Bool) → PassFirst (passes before ended own) two.time.stretches
passing_here before left right one two place own one_is two_is timed within is ascends ended =
    let here : AreTimed before (one, two) = subst (λ (z : TimedZoneView). AreTimed before (one, z)) (sym two_is) (subst (λ (z : TimedZoneView). AreTimed before (z, right)) (sym one_is) timed) in
    subst (λ (x : StretchView). PassFirst (passes before ended x) two.time.stretches) (sym is)
    (passing_at before one.time.stretches two.time.stretches place own here.timed (here.right ascends) within ended)

module _ (before : Order) (one two : ZoneTime) where
  -- the stretch of a place with those that it may overlap, and the pairs of all later places
  from_place : (place : ℕ) (own : StretchView) (near : List StretchView) → place < length one.stretches → own ≡ get_or one.stretches place own
      → filter (may_overlap before own) near ≡ filter (may_overlap before own) two.stretches
      → pairs_from before one two place ≡ pairs_beside before one two near own ++ pairs_from before one two (place + 1)
  from_place place own near within is same =
      ap (flat_map (pairs_beside before one two two.stretches))
      (drop_more one.stretches place own within ∙ ap (λ (x : StretchView). x ∷ drop (place + 1) one.stretches) (sym is))
      ∙ ap (λ (rights : List StretchView). map (two_stretches one two own) rights ++ pairs_from before one two (place + 1)) (sym same)

  pub from_found : (place : ℕ) (own other : StretchView) (near others : List StretchView) → place < length one.stretches → own ≡ get_or one.stretches place own
      → filter (may_overlap before own) near ≡ filter (may_overlap before own) two.stretches → filter (may_overlap before own) near ≡ other ∷ filter (may_overlap before own) others
      → pairs_from before one two place ≡ two_stretches one two own other ∷ (pairs_beside before one two others own ++ pairs_from before one two (place + 1))
  from_found place own other near others within is same found =
      from_place place own near within is same
      ∙ ap (λ (rights : List StretchView). map (two_stretches one two own) rights ++ pairs_from before one two (place + 1)) found

  pub from_none : (place : ℕ) (own : StretchView) (near : List StretchView) → place < length one.stretches → own ≡ get_or one.stretches place own
      → filter (may_overlap before own) near ≡ filter (may_overlap before own) two.stretches → filter (may_overlap before own) near ≡ []
      → pairs_from before one two (place + 1) ≡ pairs_from before one two place
  from_none place own near within is same none =
      sym (from_place place own near within is same
      ∙ ap (λ (rights : List StretchView). map (two_stretches one two own) rights ++ pairs_from before one two (place + 1)) none)

  pub from_past : (place : ℕ) → length one.stretches ≤ place → pairs_from before one two place ≡ []
  from_past place past = ap (flat_map (pairs_beside before one two two.stretches)) (drop_all place one.stretches past)

  -- from the start on
  pub from_start : (place : ℕ) → place ≡ cond (one.zone.group == two.zone.group) (length one.stretches) 0 → pairs_from before one two place ≡ overlapping_stretches before one two
  unfolding overlapping_stretches
  from_start place is = by_group (one.zone.group == two.zone.group) is
    where
      by_group : (b : Bool) → place ≡ cond b (length one.stretches) 0 → pairs_from before one two place ≡ cond b [] (pairs_from before one two 0)
      by_group true at = from_past place (omega (arith, at))
      by_group false at = ap (pairs_from before one two) at

  -- the rest beside a stretch
  pub beside_found : (own other : StretchView) (near others : List StretchView) (place : ℕ) → filter (may_overlap before own) near ≡ other ∷ filter (may_overlap before own) others
      → pairs_beside before one two near own ++ pairs_from before one two place ≡ two_stretches one two own other ∷ (pairs_beside before one two others own ++ pairs_from before one two place)
  beside_found own other near others place found = ap (λ (rights : List StretchView). map (two_stretches one two own) rights ++ pairs_from before one two place) found

  pub beside_none : (own : StretchView) (near : List StretchView) (place : ℕ) → filter (may_overlap before own) near ≡ []
      → pairs_beside before one two near own ++ pairs_from before one two place ≡ pairs_from before one two place
  beside_none own near place none = ap (λ (rights : List StretchView). map (two_stretches one two own) rights ++ pairs_from before one two place) none

  -- ---- their compared boxes

  beside_boxes : (left : StretchView) (rights : List StretchView) → flat_map boxes_of_pair (pairs_beside before one two rights left) ≡ flat_map (λ right. stretch_pairs before one.zone left two.zone right) rights
  beside_boxes left [] = refl
  beside_boxes left (right ∷ rights) = by_overlap (may_overlap before left right) (beside_boxes left rights)
    where
      by_overlap : (b : Bool) → flat_map boxes_of_pair (map (two_stretches one two left) (filter (may_overlap before left) rights)) ≡ flat_map (λ other. stretch_pairs before one.zone left two.zone other) rights
          → flat_map boxes_of_pair (map (two_stretches one two left) (cond b (right ∷ filter (may_overlap before left) rights) (filter (may_overlap before left) rights)))
          ≡ cond b (box_pairs one.zone left two.zone right) [] ++ flat_map (λ other. stretch_pairs before one.zone left two.zone other) rights
      by_overlap true rest = ap (λ (pairs : List Pair). box_pairs one.zone left two.zone right ++ pairs) rest
      by_overlap false rest = rest

  zone_boxes : (lefts : List StretchView) → flat_map boxes_of_pair (flat_map (pairs_beside before one two two.stretches) lefts)
      ≡ flat_map (λ left. flat_map (λ right. stretch_pairs before one.zone left two.zone right) two.stretches) lefts
  zone_boxes [] = refl
  zone_boxes (left ∷ lefts) =
      flat_map-append boxes_of_pair (pairs_beside before one two two.stretches left) (flat_map (pairs_beside before one two two.stretches) lefts)
      ∙ ap (λ (pairs : List Pair). pairs ++ flat_map boxes_of_pair (flat_map (pairs_beside before one two two.stretches) lefts)) (beside_boxes left two.stretches)
      ∙ ap (λ (pairs : List Pair). flat_map (λ right. stretch_pairs before one.zone left two.zone right) two.stretches ++ pairs) (zone_boxes lefts)

  -- the compared boxes of two zones: none of one group
  pub boxes_are : flat_map boxes_of_pair (overlapping_stretches before one two) ≡ cond (one.zone.group == two.zone.group) [] (pairs_of_zones before one two)
  unfolding overlapping_stretches pairs_of_zones
  boxes_are = by_group (one.zone.group == two.zone.group)
    where
      by_group : (b : Bool) → flat_map boxes_of_pair (cond b [] (pairs_from before one two 0))
          ≡ cond b [] (flat_map (λ left. flat_map (λ right. stretch_pairs before one.zone left two.zone right) two.stretches) one.stretches)
      by_group true = refl
      by_group false = zone_boxes one.stretches

-- ---- of all zones

module _ (before : Order) where
  abbrev of_two : ZoneTime × ZoneTime → List Pair
  of_two two = pairs_of_zones before two.0 two.1

  others_are : (one : TimedZoneView) (others : List TimedZoneView) → flat_map (boxes_with before) (map (λ two. (one, two)) others)
      ≡ flat_map of_two (map (λ two. (one.time, two)) (filter (λ two. not (one.time.zone.group == two.zone.group)) (map (λ zone. zone.time) others)))
  others_are one [] = refl
  others_are one (two ∷ others) =
      ap (λ (pairs : List Pair). pairs ++ flat_map (boxes_with before) (map (λ other. (one, other)) others)) (boxes_are before one.time two.time)
      ∙ by_group (one.time.zone.group == two.time.zone.group) (others_are one others)
    where
      times : List ZoneTime
      times = filter (λ other. not (one.time.zone.group == other.zone.group)) (map (λ (zone : TimedZoneView). zone.time) others)

      by_group : (b : Bool) → flat_map (boxes_with before) (map (λ other. (one, other)) others) ≡ flat_map of_two (map (λ other. (one.time, other)) times)
          → cond b [] (pairs_of_zones before one.time two.time) ++ flat_map (boxes_with before) (map (λ other. (one, other)) others)
          ≡ flat_map of_two (map (λ other. (one.time, other)) (cond (not b) (two.time ∷ times) times))
      by_group true rest = rest
      by_group false rest = ap (λ (pairs : List Pair). pairs_of_zones before one.time two.time ++ pairs) rest

  groups_are : (zones : List TimedZoneView) → flat_map (boxes_with before) (each_two zones) ≡ flat_map of_two (pairs_by_group (map (λ (zone : TimedZoneView). zone.time) zones))
  groups_are [] = refl
  groups_are (one ∷ others) =
      let times : List ZoneTime = map (λ (zone : TimedZoneView). zone.time) others in
      flat_map-append (boxes_with before) (map (λ two. (one, two)) others) (each_two others)
      ∙ ap (λ (pairs : List Pair). pairs ++ flat_map (boxes_with before) (each_two others)) (others_are one others)
      ∙ ap (λ (pairs : List Pair). flat_map of_two (map (λ two. (one.time, two)) (filter (λ two. not (one.time.zone.group == two.zone.group)) times)) ++ pairs) (groups_are others)
      ∙ sym (flat_map-append of_two (map (λ two. (one.time, two)) (filter (λ two. not (one.time.zone.group == two.zone.group)) times)) (pairs_by_group times))

  -- the boxes of each two zones are all that are compared
  pub all_boxes_are : (job : JobView) (stretches : StretchesView) (zones : List TimedZoneView) → map (λ (zone : TimedZoneView). zone.time) zones ≡ zone_times job stretches
      → flat_map (boxes_with before) (each_two zones) ≡ compared_pairs before job stretches
  unfolding compared_pairs
  all_boxes_are job stretches zones times = groups_are zones ∙ ap (λ (ts : List ZoneTime). flat_map of_two (pairs_by_group ts)) times
