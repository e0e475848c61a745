-- The boxes that meet, as they are found, are the compared pairs that meet.
use Rattle.std.proofs.Common.{◌≡◌, ◌∙◌, ◌&&◌, ◌||◌, Bool, true, false, cond, List, [], ◌∷◌, ◌++◌, map, filter, refl, sym, ap}
use Rattle.std.proofs.lemmas.List.{map-append}
use Rattle.std.proofs.lemmas.List.Elements.{All-head, All-tail, filter-append}
use Rattle.std.specs.List.{flat_map, list_any}
use Rattle.explain_reach.specs.Lots.{lots_meet}
use Rattle.job_types.specs.declared.job.ZoneLine.{ZoneLine}
use Rattle.zone_stretches.specs.InCovers.{IsInCover, ArePairsInCover}
use Rattle.zone_stretches.specs.Overlaps.{BoxPlace, Pair, are_compared, box_pairs}
use Rattle.zone_stretches.specs.Pieces.{pair_meets, piece_boxes}
use Rattle.zone_stretches.specs.StretchPairs.{StretchPairView, boxes_of_pair, boxes_with, pairs_with}
use Rattle.zone_stretches.specs.Stretches.{StretchView}
use Rattle.zone_stretches.specs.TimedZones.{TimedZoneView}
use Rattle.zone_stretches.specs.declared.stretches.ZoneBox.{ZoneBox}
use Rattle.explain_meetings.proofs.AddLaws.{flat_map_same}
use Rattle.explain_meetings.proofs.CoverLaws.{covers_meet}
use Rattle.explain_meetings.specs.Meetings.{told_pair}
use Rattle.explain_meetings.specs.MeetingSteps.{may_meet, met_one, met_by, met_in_boxes, met_of_pair, met_with}
use Rattle.zone_stretches.specs.Cases.{Case, place_of}
use Rattle.swept_boxes.specs.Boxes.{boxes_meet}
use Rattle.swept_boxes.specs.declared.Box3.{Box3}
use Rattle.explain_places.specs.declared.place.Meeting.{Meeting}

-- a test that passes only where another one does may be made after that one
guarded : (c x : Bool) → (x ≡ true → c ≡ true) → (c && x) ≡ x
guarded true x implies = refl
guarded false true implies = absurd (let e : false ≡ true = implies refl in cc)
guarded false false implies = refl

module _ (case : Case) where
  -- the covers first
  abbrev pub meets : Pair → Bool
  meets pair = boxes_meet pair.0.box.cover pair.1.box.cover && pair_meets case.job case.run pair

  -- what is told of those of some pairs that meet
  abbrev pub kept : List Pair → List Meeting
  kept pairs = map told_pair (filter meets pairs)

  kept_append : (xs ys : List Pair) → kept (xs ++ ys) ≡ kept xs ++ kept ys
  kept_append xs ys = ap (map told_pair) (filter-append meets xs ys) ∙ map-append told_pair (filter meets xs) (filter meets ys)

  kept_flat : {X : Type 0} (g : X → List Pair) (xs : List X) → kept (flat_map g xs) ≡ flat_map (λ x. kept (g x)) xs
  kept_flat g [] = refl
  kept_flat g (x ∷ xs) = kept_append (g x) (flat_map g xs) ∙ ap (λ (rest : List Meeting). kept (g x) ++ rest) (kept_flat g xs)

  -- a box with those of a stretch
  kept_made : (left : BoxPlace) (other : ZoneLine) (right : StretchView) (boxes : List ZoneBox)
      → kept (map (λ later. (left, place_of other right later)) (filter (are_compared left.stretch right left.box) boxes)) ≡ flat_map (met_one case left other right) boxes
  unfolding met_one
  kept_made left other right [] = refl
  kept_made left other right (x ∷ xs) = by_compared (are_compared left.stretch right left.box x) (kept_made left other right xs)
    where
      mk : ZoneBox → Pair
      mk later = (left, place_of other right later)

      by_meeting : (m : Bool) → kept (map mk (filter (are_compared left.stretch right left.box) xs)) ≡ flat_map (met_one case left other right) xs
          → map told_pair (cond m (mk x ∷ filter meets (map mk (filter (are_compared left.stretch right left.box) xs))) (filter meets (map mk (filter (are_compared left.stretch right left.box) xs))))
          ≡ cond m (told_pair (mk x) ∷ []) [] ++ flat_map (met_one case left other right) xs
      by_meeting true rest = ap (λ (list : List Meeting). told_pair (mk x) ∷ list) rest
      by_meeting false rest = rest

      by_compared : (b : Bool) → kept (map mk (filter (are_compared left.stretch right left.box) xs)) ≡ flat_map (met_one case left other right) xs
          → kept (map mk (cond b (x ∷ filter (are_compared left.stretch right left.box) xs) (filter (are_compared left.stretch right left.box) xs)))
          ≡ cond ((b && boxes_meet left.box.cover x.cover) && pair_meets case.job case.run (mk x)) (told_pair (mk x) ∷ []) [] ++ flat_map (met_one case left other right) xs
      by_compared true rest = by_meeting (meets (mk x)) rest
      by_compared false rest = rest

  -- two stretches
  boxes_are : (zone : ZoneLine) (left : StretchView) (other : ZoneLine) (right : StretchView) → kept (box_pairs zone left other right) ≡ met_in_boxes case zone left other right
  boxes_are zone left other right =
      kept_flat (λ (own : ZoneBox). map (λ later. (place_of zone left own, place_of other right later)) (filter (are_compared left right own) right.boxes)) left.boxes
      ∙ flat_map_same (λ (own : ZoneBox). kept (map (λ later. (place_of zone left own, place_of other right later)) (filter (are_compared left right own) right.boxes)))
      (λ (own : ZoneBox). met_by case other right (place_of zone left own)) (λ own. kept_made (place_of zone left own) other right right.boxes) left.boxes

  pair_is : (pair : StretchPairView) → kept (boxes_of_pair pair) ≡ met_of_pair case pair
  pair_is pair = boxes_are pair.left.zone pair.left.stretch pair.right.zone pair.right.stretch

  -- two zones
  zones_are : (zones : TimedZoneView × TimedZoneView) → kept (boxes_with case.before zones) ≡ met_with case zones
  zones_are zones =
      kept_flat boxes_of_pair (pairs_with case.before zones)
      ∙ flat_map_same (λ (pair : StretchPairView). kept (boxes_of_pair pair)) (met_of_pair case) pair_is (pairs_with case.before zones)

  -- where the boxes by which they are compared lie in their covers, the test of these leaves out none that meets
  covers_first : (pair : Pair) → IsInCover case.job case.run pair.0 → IsInCover case.job case.run pair.1 → meets pair ≡ pair_meets case.job case.run pair
  covers_first pair own later = guarded (boxes_meet pair.0.box.cover pair.1.box.cover) (pair_meets case.job case.run pair) (covers_meet case.job case.run pair own later)

  all_kept : (pairs : List Pair) → ArePairsInCover case.job case.run pairs → filter meets pairs ≡ filter (pair_meets case.job case.run) pairs
  all_kept [] all = refl
  all_kept (pair ∷ pairs) all =
      let both = All-head (λ (p : Pair). IsInCover case.job case.run p.0 × IsInCover case.job case.run p.1) pair pairs all in
      let rest = All-tail (λ (p : Pair). IsInCover case.job case.run p.0 × IsInCover case.job case.run p.1) pair pairs all in
      ap (λ (b : Bool). cond b (pair ∷ filter meets pairs) (filter meets pairs)) (covers_first pair both.0 both.1)
      ∙ ap (λ (kept_rest : List Pair). cond (pair_meets case.job case.run pair) (pair ∷ kept_rest) kept_rest) (all_kept pairs rest)

  -- all that meet, as they are found
  pub all_met : (zones : List (TimedZoneView × TimedZoneView)) → ArePairsInCover case.job case.run (flat_map (boxes_with case.before) zones)
      → map told_pair (filter (pair_meets case.job case.run) (flat_map (boxes_with case.before) zones)) ≡ flat_map (met_with case) zones
  all_met zones all =
      ap (map told_pair) (sym (all_kept (flat_map (boxes_with case.before) zones) all)) ∙ kept_flat (boxes_with case.before) zones
      ∙ flat_map_same (λ (two : TimedZoneView × TimedZoneView). kept (boxes_with case.before two)) (met_with case) zones_are zones

-- where none may meet, none is told
pub none_met : (case : Case) (left : BoxPlace) (other : ZoneLine) (right : StretchView) (boxes : List ZoneBox)
    → list_any (may_meet left.stretch left.box right) boxes ≡ false → flat_map (met_one case left other right) boxes ≡ []
unfolding met_one
none_met case left other right [] none = refl
none_met case left other right (x ∷ xs) none = by_test (may_meet left.stretch left.box right x) (none_met case left other right xs) none
  where
    by_test : (b : Bool) → (list_any (may_meet left.stretch left.box right) xs ≡ false → flat_map (met_one case left other right) xs ≡ []) → (b || list_any (may_meet left.stretch left.box right) xs) ≡ false
        → cond (b && pair_meets case.job case.run (left, place_of other right x)) (told_pair (left, place_of other right x) ∷ []) [] ++ flat_map (met_one case left other right) xs ≡ []
    by_test true rest none = absurd cc
    by_test false rest none = rest none

-- two boxes that may not meet, and two that may, by the boxes by which they are compared
pub met_off : (case : Case) (left : BoxPlace) (other : ZoneLine) (right : StretchView) (later : ZoneBox) → may_meet left.stretch left.box right later ≡ false → met_one case left other right later ≡ []
unfolding met_one
met_off case left other right later off =
    ap (λ (b : Bool). cond (b && pair_meets case.job case.run (left, place_of other right later)) (told_pair (left, place_of other right later) ∷ []) []) off

pub met_on : (case : Case) (left : BoxPlace) (other : ZoneLine) (right : StretchView) (later : ZoneBox) (pieces others : List Box3) → may_meet left.stretch left.box right later ≡ true
    → pieces ≡ piece_boxes case.job case.run left → others ≡ piece_boxes case.job case.run (place_of other right later)
    → cond (lots_meet pieces others) (told_pair (left, place_of other right later) ∷ []) [] ≡ met_one case left other right later
unfolding met_one pair_meets
met_on case left other right later pieces others on own_is later_is =
    ap (λ (xs : List Box3). cond (lots_meet xs others) (told_pair (left, place_of other right later) ∷ []) []) own_is
    ∙ ap (λ (ys : List Box3). cond (lots_meet (piece_boxes case.job case.run left) ys) (told_pair (left, place_of other right later) ∷ []) []) later_is
    ∙ ap (λ (b : Bool). cond (b && lots_meet (piece_boxes case.job case.run left) (piece_boxes case.job case.run (place_of other right later))) (told_pair (left, place_of other right later) ∷ []) []) (sym on)
