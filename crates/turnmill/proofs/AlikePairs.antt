-- Where the times of zones are alike in two runs, the compared pairs are alike one by one: as many, and alike those that meet.
use Rattle.std.proofs.Common.{◌≡◌, ◌∙◌, ◌==◌, ◌||◌, not, Bool, true, false, cond, List, [], ◌∷◌, map, filter, find, zip, Option, Some, refl, ap, ap₂}
use Rattle.std.specs.List.{flat_map, list_any}
use Rattle.clash_check.specs.Verdicts.{name_of, no_by}
use Rattle.job_types.specs.Job.{JobView}
use Rattle.job_types.specs.Zones.{zones_in_order}
use Rattle.job_types.specs.declared.job.ZoneLine.{ZoneLine}
use Rattle.path_geometry.specs.declared.motion.Motion.{Motion}
use Rattle.zone_stretches.specs.Overlaps.{BoxPlace, Order, Pair, ZoneTime, are_compared, box_pairs, compared_pairs, may_overlap, pairs_by_group, pairs_of_zones, share_channel, share_place, stretch_pairs, zone_times}
use Rattle.zone_stretches.specs.Pieces.{boxes_in_pieces, motion_at, pair_meets, piece_boxes}
use Rattle.zone_stretches.specs.Stretches.{StretchView, StretchesView}
use Rattle.zone_stretches.specs.declared.stretches.ZoneBox.{ZoneBox}
use Rattle.swept_boxes.specs.Boxes.{boxes_meet}
use Rattle.swept_boxes.specs.declared.Box3.{Box3}
use Rattle.sync_types.specs.Views.{RunView}
use Rattle.sync_types.specs.declared.verdicts.PlaceName.{PlaceName}
use Rattle.sync_types.specs.declared.verdicts.Verdict.TheVariants as verdicts
use Rattle.speed_laws.specs.AlikeRuns.{AllAlike, AllZonesAlike, AreAlike}
use Rattle.turnmill.proofs.Matches.{Match, match-append, match-filter, match-flat_map, match-if, match-map, match-own}

-- ---- the lists of stretches match

alike_match : (run other : RunView) (xs ys : List StretchView) → AllAlike run other xs ys → Match (AreAlike run other) xs ys
alike_match run other [] [] m = tt
alike_match run other (x ∷ xs) (y ∷ ys) m = (m.0, alike_match run other xs ys m.1)
alike_match run other [] (y ∷ ys) m = absurd m
alike_match run other (x ∷ xs) [] m = absurd m

pub zones_match : (run other : RunView) (xs ys : List (List StretchView)) → AllZonesAlike run other xs ys → Match (Match (AreAlike run other)) xs ys
zones_match run other [] [] m = tt
zones_match run other (x ∷ xs) (y ∷ ys) m = (alike_match run other x y m.0, zones_match run other xs ys m.1)
zones_match run other [] (y ∷ ys) m = absurd m
zones_match run other (x ∷ xs) [] m = absurd m

-- ---- boxes of stretches

-- a box of the one run is named as one of the other and has the same pieces
pub record IsSamePlace (run other : RunView) (left right : BoxPlace) : Type 0 where
  pub zone : left.zone ≡ right.zone
  pub box : left.box ≡ right.box
  pub name : left.stretch.name ≡ right.stretch.name
  pub motion : motion_at run left.stretch.entry left.box.motion ≡ motion_at other right.stretch.entry right.box.motion

pub record IsSamePair (run other : RunView) (left right : Pair) : Type 0 where
  pub first : IsSamePlace run other left.0 right.0
  pub second : IsSamePlace run other left.1 right.1

-- in two stretches that are alike
abbrev IsSameBox : RunView → RunView → StretchView → StretchView → ZoneBox → ZoneBox → Type 0
IsSameBox run other left right own same = (own ≡ same) × (motion_at run left.entry own.motion ≡ motion_at other right.entry own.motion)

boxes_match : (run other : RunView) (left right : StretchView) → AreAlike run other left right → Match (IsSameBox run other left right) left.boxes right.boxes
boxes_match run other left right alike =
    match-own (λ box. motion_at run left.entry box.motion ≡ motion_at other right.entry box.motion) left.boxes right.boxes alike.boxes alike.motions

module _ (run other : RunView) where
  same_place : (zone zone' : ZoneLine) (left right : StretchView) (own same : ZoneBox) → zone ≡ zone' → AreAlike run other left right → IsSameBox run other left right own same
      → IsSamePlace run other (record { zone = zone; stretch = left; box = own }) (record { zone = zone'; stretch = right; box = same })
  same_place zone zone' left right own same zones alike is = record {
    zone = zones;
    box = is.0;
    name = alike.name;
    motion = is.1 ∙ ap (λ (box : ZoneBox). motion_at other right.entry box.motion) is.0;
  }

  -- ---- what is said of a pair

  same_pieces : (job : JobView) (left right : BoxPlace) → IsSamePlace run other left right → piece_boxes job run left ≡ piece_boxes job other right
  unfolding piece_boxes
  same_pieces job left right is =
      ap (λ (zone : ZoneLine). boxes_in_pieces job.margin job.depth zone.sides left.box.cover (motion_at run left.stretch.entry left.box.motion)) is.zone
      ∙ ap (λ (box : ZoneBox). boxes_in_pieces job.margin job.depth right.zone.sides box.cover (motion_at run left.stretch.entry left.box.motion)) is.box
      ∙ ap (λ (motion : Option Motion). boxes_in_pieces job.margin job.depth right.zone.sides right.box.cover motion) is.motion

  same_meeting : (job : JobView) (left right : Pair) → IsSamePair run other left right → pair_meets job run left ≡ pair_meets job other right
  unfolding pair_meets
  same_meeting job left right is =
      ap₂ (λ (later first : List Box3). list_any (λ one. list_any (boxes_meet one) later) first)
      (same_pieces job left.1 right.1 is.second) (same_pieces job left.0 right.0 is.first)

  same_name : (left right : BoxPlace) → IsSamePlace run other left right → name_of left ≡ name_of right
  unfolding name_of
  same_name left right is = ap₂ (λ (name : PlaceName) (box : ZoneBox). record name { line = box.line }) is.name is.box

  same_no : (left right : Pair) → IsSamePair run other left right → no_by (Some left) ≡ no_by (Some right)
  same_no left right is =
      ap₂ (λ (first second : PlaceName). Some (verdicts.No first second)) (same_name left.0 right.0 is.first) (same_name left.1 right.1 is.second)

  either_no : (b c : Bool) (p q : Pair) (later rest : Option Pair) → b ≡ c → no_by (Some p) ≡ no_by (Some q) → no_by later ≡ no_by rest
      → no_by (cond b (Some p) later) ≡ no_by (cond c (Some q) rest)
  either_no true true p q later rest same here there = here
  either_no false false p q later rest same here there = there
  either_no true false p q later rest same here there = absurd cc
  either_no false true p q later rest same here there = absurd cc

  -- the first pair that meets is named alike
  pub same_first : (job : JobView) (ps qs : List Pair) → Match (IsSamePair run other) ps qs → no_by (find (pair_meets job run) ps) ≡ no_by (find (pair_meets job other) qs)
  same_first job [] [] m = refl
  same_first job (p ∷ ps) (q ∷ qs) m =
      either_no (pair_meets job run p) (pair_meets job other q) p q (find (pair_meets job run) ps) (find (pair_meets job other) qs)
      (same_meeting job p q m.0) (same_no p q m.0) (same_first job ps qs m.1)
  same_first job [] (q ∷ qs) m = absurd m
  same_first job (p ∷ ps) [] m = absurd m

  -- ---- the pairs

  same_compared : (left right same_left same_right : StretchView) (own later same_own same_later : ZoneBox) → left.name ≡ same_left.name → right.name ≡ same_right.name
      → own ≡ same_own → later ≡ same_later → are_compared left right own later ≡ are_compared same_left same_right same_own same_later
  same_compared left right same_left same_right own later same_own same_later left_name right_name own_is later_is =
      ap₂ (λ (one two : PlaceName). not (share_channel one.channel two.channel) || share_place own later) left_name right_name
      ∙ ap₂ (λ (one two : ZoneBox). not (share_channel same_left.name.channel same_right.name.channel) || share_place one two) own_is later_is

  same_boxes : (zone zone' two two' : ZoneLine) (left right same_left same_right : StretchView) → zone ≡ zone' → two ≡ two' → AreAlike run other left same_left → AreAlike run other right same_right
      → Match (IsSamePair run other) (box_pairs zone left two right) (box_pairs zone' same_left two' same_right)
  same_boxes zone zone' two two' left right same_left same_right zones twos alike_left alike_right =
      match-flat_map (IsSameBox run other left same_left) (IsSamePair run other)
      (λ own. map (pair_of own) (filter (are_compared left right own) right.boxes))
      (λ own. map (pair_of' own) (filter (are_compared same_left same_right own) same_right.boxes))
      (λ own same is.
      match-map (IsSameBox run other right same_right) (IsSamePair run other) (pair_of own) (pair_of' same)
      (λ later rest r. record { first = same_place zone zone' left same_left own same zones alike_left is; second = same_place two two' right same_right later rest twos alike_right r })
      (filter (are_compared left right own) right.boxes) (filter (are_compared same_left same_right same) same_right.boxes)
      (match-filter (IsSameBox run other right same_right) (are_compared left right own) (are_compared same_left same_right same)
      (λ later rest r. same_compared left right same_left same_right own later same rest alike_left.name alike_right.name is.0 r.0)
      right.boxes same_right.boxes (boxes_match run other right same_right alike_right)))
      left.boxes same_left.boxes (boxes_match run other left same_left alike_left)
    where
      pair_of : ZoneBox → ZoneBox → Pair
      pair_of own later = (record { zone = zone; stretch = left; box = own }, record { zone = two; stretch = right; box = later })

      pair_of' : ZoneBox → ZoneBox → Pair
      pair_of' own later = (record { zone = zone'; stretch = same_left; box = own }, record { zone = two'; stretch = same_right; box = later })

  -- what is so of the same stretches: they are alike, and where two may overlap the same two may
  module _ (before after : Order) (IsSame : StretchView → StretchView → Type 0) (alike : (left right : StretchView) → IsSame left right → AreAlike run other left right)
      (overlap : (left right same_left same_right : StretchView) → IsSame left same_left → IsSame right same_right → may_overlap before left right ≡ may_overlap after same_left same_right) where
    abbrev IsSameTime : ZoneTime → ZoneTime → Type 0
    IsSameTime one two = (one.zone ≡ two.zone) × Match IsSame one.stretches two.stretches

    abbrev AreSameTimes : ZoneTime × ZoneTime → ZoneTime × ZoneTime → Type 0
    AreSameTimes one two = IsSameTime one.0 two.0 × IsSameTime one.1 two.1

    same_zones : (one two same_one same_two : ZoneTime) → IsSameTime one same_one → IsSameTime two same_two
        → Match (IsSamePair run other) (pairs_of_zones before one two) (pairs_of_zones after same_one same_two)
    unfolding pairs_of_zones
    same_zones one two same_one same_two is are =
        match-flat_map IsSame (IsSamePair run other)
        (λ left. flat_map (λ right. stretch_pairs before one.zone left two.zone right) two.stretches)
        (λ left. flat_map (λ right. stretch_pairs after same_one.zone left same_two.zone right) same_two.stretches)
        (λ left same_left l.
        match-flat_map IsSame (IsSamePair run other)
        (λ right. stretch_pairs before one.zone left two.zone right) (λ right. stretch_pairs after same_one.zone same_left same_two.zone right)
        (λ right same_right r.
        match-if (IsSamePair run other) (may_overlap before left right) (may_overlap after same_left same_right)
        (box_pairs one.zone left two.zone right) (box_pairs same_one.zone same_left same_two.zone same_right)
        (overlap left right same_left same_right l r)
        (same_boxes one.zone same_one.zone two.zone same_two.zone left right same_left same_right is.0 are.0 (alike left same_left l) (alike right same_right r)))
        two.stretches same_two.stretches are.1)
        one.stretches same_one.stretches is.1

    same_times : (zones : List ZoneLine) (xs ys : List (List StretchView)) → Match (Match IsSame) xs ys
        → Match IsSameTime (map (λ p. record { zone = p.0; stretches = p.1 }) (zip zones xs)) (map (λ p. record { zone = p.0; stretches = p.1 }) (zip zones ys))
    same_times [] xs ys m = tt
    same_times (zone ∷ zones) [] [] m = tt
    same_times (zone ∷ zones) (x ∷ xs) (y ∷ ys) m = ((refl, m.0), same_times zones xs ys m.1)
    same_times (zone ∷ zones) [] (y ∷ ys) m = absurd m
    same_times (zone ∷ zones) (x ∷ xs) [] m = absurd m

    same_groups : (xs ys : List ZoneTime) → Match IsSameTime xs ys → Match AreSameTimes (pairs_by_group xs) (pairs_by_group ys)
    same_groups [] [] m = tt
    same_groups (x ∷ xs) (y ∷ ys) m =
        match-append AreSameTimes (map (λ two. (x, two)) (filter (λ two. not (x.zone.group == two.zone.group)) xs)) (map (λ two. (y, two)) (filter (λ two. not (y.zone.group == two.zone.group)) ys))
        (pairs_by_group xs) (pairs_by_group ys)
        (match-map IsSameTime AreSameTimes (λ two. (x, two)) (λ two. (y, two)) (λ one two r. (m.0, r))
        (filter (λ two. not (x.zone.group == two.zone.group)) xs) (filter (λ two. not (y.zone.group == two.zone.group)) ys)
        (match-filter IsSameTime (λ two. not (x.zone.group == two.zone.group)) (λ two. not (y.zone.group == two.zone.group))
        (λ one two r. ap₂ (λ (a b : ZoneLine). not (a.group == b.group)) m.0.0 r.0) xs ys m.1))
        (same_groups xs ys m.1)
    same_groups [] (y ∷ ys) m = absurd m
    same_groups (x ∷ xs) [] m = absurd m

    pub same_pairs : (job : JobView) (xs ys : StretchesView) → Match (Match IsSame) xs.zones ys.zones → Match (IsSamePair run other) (compared_pairs before job xs) (compared_pairs after job ys)
    unfolding compared_pairs zone_times
    same_pairs job xs ys m =
        match-flat_map AreSameTimes (IsSamePair run other) (λ pair. pairs_of_zones before pair.0 pair.1) (λ pair. pairs_of_zones after pair.0 pair.1)
        (λ p q r. same_zones p.0 p.1 q.0 q.1 r.0 r.1)
        (pairs_by_group (zone_times job xs)) (pairs_by_group (zone_times job ys))
        (same_groups (zone_times job xs) (zone_times job ys) (same_times (zones_in_order job) xs.zones ys.zones m))
