-- The count by the numbers of boxes is the number of the compared pairs.
use Rattle.std.proofs.Common.{◌≡◌, ◌∙◌, ℕ, ◌+◌, ◌*◌, ◌==◌, ◌||◌, not, cond, Bool, true, false, List, [], ◌∷◌, map, filter, length, refl, sym, ap, arith, zero-add}
use Rattle.std.specs.List.{sum_by, count_by, flat_map}
use Rattle.std.proofs.lemmas.Bool.{ne_eqb}
use Rattle.std.proofs.lemmas.List.{length-map}
use Rattle.std.proofs.lemmas.List.Concat.{length-flat_map}
use Rattle.std.proofs.lemmas.List.Sums.{sum_by-append, sum_by-cons, length-filter}
use Rattle.clash_check.specs.Counts.{count_of}
use Rattle.clash_check.specs.PairCounts.{count_sharing, count_in_boxes, count_in_stretches, count_against, count_of_zones, count_with}
use Rattle.job_types.specs.Job.{JobView}
use Rattle.job_types.specs.declared.job.ZoneLine.{ZoneLine}
use Rattle.zone_stretches.specs.Overlaps.{Order, Pair, ZoneTime, may_overlap, share_channel, share_place, are_compared, box_pairs, stretch_pairs, pairs_of_zones, pairs_by_group, zone_times, compared_pairs}
use Rattle.zone_stretches.specs.Stretches.{StretchView, StretchesView}
use Rattle.zone_stretches.specs.TimedZones.{TimedZoneView, each_two}
use Rattle.zone_stretches.specs.declared.stretches.ZoneBox.{ZoneBox}

-- ---- sums

sum_by-map : {X Y : Type 0} (f : Y → ℕ) (g : X → Y) (xs : List X) → sum_by f (map g xs) ≡ sum_by (λ x. f (g x)) xs
sum_by-map f g [] = refl
sum_by-map f g (x ∷ xs) =
    sum_by-cons f (g x) (map g xs) ∙ ap (λ (n : ℕ). f (g x) + n) (sum_by-map f g xs) ∙ sym (sum_by-cons (λ y. f (g y)) x xs)

sum_by-same : {X : Type 0} (f g : X → ℕ) → ((x : X) → f x ≡ g x) → (xs : List X) → sum_by f xs ≡ sum_by g xs
sum_by-same f g same [] = refl
sum_by-same f g same (x ∷ xs) =
    sum_by-cons f x xs ∙ ap (λ (n : ℕ). n + sum_by f xs) (same x) ∙ ap (λ (n : ℕ). g x + n) (sum_by-same f g same xs) ∙ sym (sum_by-cons g x xs)

filter_step : {X : Type 0} (f : X → ℕ) (b : Bool) (x : X) (xs : List X) → sum_by f (cond b (x ∷ xs) xs) ≡ cond b (f x) 0 + sum_by f xs
filter_step f true x xs = sum_by-cons f x xs
filter_step f false x xs = sym (zero-add (sum_by f xs))

sum_by-filter : {X : Type 0} (f : X → ℕ) (test : X → Bool) (xs : List X) → sum_by f (filter test xs) ≡ sum_by (λ x. cond (test x) (f x) 0) xs
sum_by-filter f test [] = refl
sum_by-filter f test (x ∷ xs) =
    filter_step f (test x) x (filter test xs) ∙ ap (λ (n : ℕ). cond (test x) (f x) 0 + n) (sum_by-filter f test xs)
    ∙ sym (sum_by-cons (λ y. cond (test y) (f y) 0) x xs)

sum_by-constant : {X : Type 0} (n : ℕ) (xs : List X) → sum_by (λ x. n) xs ≡ length xs * n
sum_by-constant n [] = omega arith
sum_by-constant {X = X} n (x ∷ xs) = let rest = sum_by-constant n xs in let first = sum_by-cons {X = X} (λ y. n) x xs in omega arith

kept_all : {X : Type 0} (xs : List X) → length (filter (λ x. true) xs) ≡ length xs
kept_all [] = refl
kept_all (x ∷ xs) = let rest = kept_all xs in omega arith

-- where an empty list counts nothing, it may be looked at first
unless_empty : {X : Type 0} (xs : List X) (n : ℕ) → (xs ≡ [] → n ≡ 0) → n ≡ cond (length xs == 0) 0 n
unless_empty [] n none = none refl
unless_empty (x ∷ xs) n none = let some : (length (x ∷ xs) == 0) ≡ false = ne_eqb (length (x ∷ xs)) 0 (λ e. omega arith) in rw some refl

unless : (b : Bool) (m n : ℕ) → m ≡ n → cond (not b) m 0 ≡ cond b 0 n
unless true m n e = refl
unless false m n e = e

-- ---- two stretches

count_boxes : (zone : ZoneLine) (left : StretchView) (other : ZoneLine) (right : StretchView) → length (box_pairs zone left other right) ≡ count_in_boxes left right
unfolding count_in_boxes count_sharing
count_boxes zone left other right =
    length-flat_map (λ (own : ZoneBox). map (pair own) (filter (are_compared left right own) right.boxes)) left.boxes
    ∙ sum_by-same (λ (own : ZoneBox). length (map (pair own) (filter (are_compared left right own) right.boxes))) (λ own. length (filter (are_compared left right own) right.boxes))
    (λ own. length-map (filter (are_compared left right own) right.boxes) (pair own)) left.boxes
    ∙ by_channel (share_channel left.name.channel right.name.channel)
  where
    pair : ZoneBox → ZoneBox → Pair
    pair own later = (record { zone = zone; stretch = left; box = own }, record { zone = other; stretch = right; box = later })

    by_channel : (b : Bool) → sum_by (λ (own : ZoneBox). length (filter (λ (later : ZoneBox). not b || share_place own later) right.boxes)) left.boxes
        ≡ cond b (sum_by (λ (own : ZoneBox). count_by (share_place own) right.boxes) left.boxes) (length left.boxes * length right.boxes)
    by_channel true = sum_by-same (λ (own : ZoneBox). length (filter (share_place own) right.boxes)) (λ own. count_by (share_place own) right.boxes)
        (λ own. length-filter (share_place own) right.boxes) left.boxes
    by_channel false =
        sum_by-same (λ (own : ZoneBox). length (filter (λ (later : ZoneBox). true) right.boxes)) (λ own. length right.boxes) (λ own. kept_all right.boxes) left.boxes
        ∙ sum_by-constant (length right.boxes) left.boxes

no_boxes_right : (left right : StretchView) → right.boxes ≡ [] → count_in_boxes left right ≡ 0
unfolding count_in_boxes count_sharing
no_boxes_right left right none = rw none (by_channel (share_channel left.name.channel right.name.channel))
  where
    by_channel : (b : Bool) → cond b (sum_by (λ (own : ZoneBox). 0) left.boxes) (length left.boxes * 0) ≡ 0
    by_channel true = let all = sum_by-constant 0 left.boxes in omega arith
    by_channel false = omega arith

no_boxes_left : (left right : StretchView) → left.boxes ≡ [] → count_in_boxes left right ≡ 0
unfolding count_in_boxes count_sharing
no_boxes_left left right none = rw none (by_channel (share_channel left.name.channel right.name.channel))
  where
    by_channel : (b : Bool) → cond b 0 (0 * length right.boxes) ≡ 0
    by_channel true = refl
    by_channel false = omega arith

unless_apart : (b : Bool) (n : ℕ) → n ≡ 0 → cond b n 0 ≡ 0
unless_apart true n none = none
unless_apart false n none = refl

count_stretches : (before : Order) (zone : ZoneLine) (left : StretchView) (other : ZoneLine) (right : StretchView)
    → length (stretch_pairs before zone left other right) ≡ count_in_stretches before left right
unfolding count_in_stretches
count_stretches before zone left other right =
    by_overlap (may_overlap before left right)
    ∙ unless_empty right.boxes (cond (may_overlap before left right) (count_in_boxes left right) 0)
    (λ none. unless_apart (may_overlap before left right) (count_in_boxes left right) (no_boxes_right left right none))
  where
    by_overlap : (b : Bool) → length (cond b (box_pairs zone left other right) []) ≡ cond b (count_in_boxes left right) 0
    by_overlap true = count_boxes zone left other right
    by_overlap false = refl

-- ---- two zones

none_against : (before : Order) (left right : StretchView) → left.boxes ≡ [] → count_in_stretches before left right ≡ 0
unfolding count_in_stretches
none_against before left right none = by_empty (length right.boxes == 0)
  where
    by_empty : (b : Bool) → cond b 0 (cond (may_overlap before left right) (count_in_boxes left right) 0) ≡ 0
    by_empty true = refl
    by_empty false = unless_apart (may_overlap before left right) (count_in_boxes left right) (no_boxes_left left right none)

count_with_all : (before : Order) (one two : ZoneTime) (left : StretchView)
    → length (flat_map (λ right. stretch_pairs before one.zone left two.zone right) two.stretches) ≡ count_against before two.stretches left
unfolding count_against
count_with_all before one two left =
    length-flat_map (λ (right : StretchView). stretch_pairs before one.zone left two.zone right) two.stretches
    ∙ sum_by-same (λ (right : StretchView). length (stretch_pairs before one.zone left two.zone right)) (count_in_stretches before left) (count_stretches before one.zone left two.zone) two.stretches
    ∙ unless_empty left.boxes (sum_by (count_in_stretches before left) two.stretches)
    (λ none. sum_by-same (count_in_stretches before left) (λ right. 0) (λ right. none_against before left right none) two.stretches ∙ nothing two.stretches)
  where
    nothing : (rights : List StretchView) → sum_by (λ (right : StretchView). 0) rights ≡ 0
    nothing rights = let all = sum_by-constant 0 rights in omega arith

pub count_zones : (before : Order) (one two : ZoneTime) → length (pairs_of_zones before one two) ≡ sum_by (count_against before two.stretches) one.stretches
unfolding pairs_of_zones
count_zones before one two =
    length-flat_map (λ (left : StretchView). flat_map (λ right. stretch_pairs before one.zone left two.zone right) two.stretches) one.stretches
    ∙ sum_by-same (λ (left : StretchView). length (flat_map (λ right. stretch_pairs before one.zone left two.zone right) two.stretches)) (count_against before two.stretches)
    (count_with_all before one two) one.stretches

-- ---- all zones

of_pair : Order → ZoneTime × ZoneTime → ℕ
of_pair before pair = length (pairs_of_zones before pair.0 pair.1)

count_groups : (before : Order) (zones : List TimedZoneView) → sum_by (of_pair before) (pairs_by_group (map (λ (zone : TimedZoneView). zone.time) zones)) ≡ sum_by (count_with before) (each_two zones)
unfolding of_pair count_of_zones
count_groups before [] = refl
count_groups before (one ∷ others) =
    let times : List ZoneTime = map (λ (zone : TimedZoneView). zone.time) others in
    sum_by-append (of_pair before) (map (λ (two : ZoneTime). (one.time, two)) (filter (λ two. not (one.time.zone.group == two.zone.group)) times)) (pairs_by_group times)
    ∙ ap (λ (n : ℕ). n + sum_by (of_pair before) (pairs_by_group times))
    (sum_by-map (of_pair before) (λ (two : ZoneTime). (one.time, two)) (filter (λ two. not (one.time.zone.group == two.zone.group)) times)
    ∙ sum_by-filter (λ (two : ZoneTime). of_pair before (one.time, two)) (λ two. not (one.time.zone.group == two.zone.group)) times
    ∙ sum_by-same (λ (two : ZoneTime). cond (not (one.time.zone.group == two.zone.group)) (of_pair before (one.time, two)) 0) (count_of_zones before one.time)
    (λ two. unless (one.time.zone.group == two.zone.group) _ _ (count_zones before one.time two)) times
    ∙ sum_by-map (count_of_zones before one.time) (λ (zone : TimedZoneView). zone.time) others
    ∙ sym (sum_by-map (count_with before) (λ (two : TimedZoneView). (one, two)) others))
    ∙ ap (λ (n : ℕ). sum_by (count_with before) (map (λ (two : TimedZoneView). (one, two)) others) + n) (count_groups before others)
    ∙ sym (sum_by-append (count_with before) (map (λ (two : TimedZoneView). (one, two)) others) (each_two others))

pub count_is : (before : Order) (job : JobView) (stretches : StretchesView) (zones : List TimedZoneView) → map (λ (zone : TimedZoneView). zone.time) zones ≡ zone_times job stretches
    → sum_by (count_with before) (each_two zones) ≡ count_of before job stretches
unfolding count_of compared_pairs of_pair
count_is before job stretches zones times =
    sym (length-flat_map (λ (pair : ZoneTime × ZoneTime). pairs_of_zones before pair.0 pair.1) (pairs_by_group (zone_times job stretches))
    ∙ ap (λ (ts : List ZoneTime). sum_by (of_pair before) (pairs_by_group ts)) (sym times) ∙ count_groups before zones)
