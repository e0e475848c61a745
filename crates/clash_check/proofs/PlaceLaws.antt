-- Boxes that begin and end one after another: those with a place in common with a box stand side by side.
use Rattle.std.proofs.Common.{◌≡◌, ◌∙◌, ℕ, suc, ◌-◌, ◌^◌, ◌<◌, ◌≤◌, ◌&&◌, not, nat_le, Bool, true, false, cond, List, [], ◌∷◌, drop, take, filter, length, Option, None, All, refl, sym, ap, arith}
use Rattle.std.specs.List.{count_by}
use Rattle.clash_check.specs.PairCounts.{capped}
use Rattle.std.specs.Option.{option_or}
use Rattle.std.proofs.lemmas.Bool.{and_parts, leb-true, leb-false, le-leb, lt-leb}
use Rattle.std.proofs.lemmas.List.Sums.{length-filter}
use Rattle.std.proofs.lemmas.List.Elements.{All-nil, All-cons, All-head, All-tail, All-weaker}
use Rattle.zone_stretches.proofs.ChainLaws.{part_is}
use Rattle.clash_check.proofs.MeetLaws.{far_none}
use Rattle.zone_stretches.specs.Ascents.{leading, PassFirst}
use Rattle.clash_check.specs.FirstAnswer.{first_some}
use Rattle.clash_check.specs.Meetings.{Names, names_where_met, first_touched_among}
use Rattle.zone_stretches.specs.Cases.{Case, place_of}
use Rattle.clash_check.specs.PlaceRanges.{passes_place, is_by_first, do_boxes_ascend}
use Rattle.job_types.specs.declared.job.ZoneLine.{ZoneLine}
use Rattle.zone_stretches.specs.Overlaps.{BoxPlace, share_place}
use Rattle.zone_stretches.specs.Stretches.{StretchView}
use Rattle.zone_stretches.specs.declared.stretches.ZoneBox.{ZoneBox}

-- a box past the end
abbrev pub no_box : ZoneBox
no_box = record { line = 0; motion = None; from = 0; to = 0; cover = record { lo = []; hi = [] } }

-- ---- boxes that ascend

record IsBy (x y : ZoneBox) : Type 0 where
  pub first : x.from ≤ y.from
  pub last : x.to ≤ y.to

all_after : (x : ZoneBox) (xs : List ZoneBox) → do_boxes_ascend (x ∷ xs) ≡ true → All (IsBy x) xs
all_after x [] ascend = All-nil (IsBy x)
all_after x (y ∷ ys) ascend =
    let parts = and_parts (nat_le x.from y.from && nat_le x.to y.to) _ ascend in
    let ends = and_parts (nat_le x.from y.from) _ parts.0 in
    let one : IsBy x y = record { first = leb-true x.from y.from ends.0; last = leb-true x.to y.to ends.1 } in
    All-cons (IsBy x) y ys one
    (All-weaker (IsBy y) (IsBy x) (λ z later. let low = later.first in let high = later.last in let low' = one.first in let high' = one.last in
    record { first = omega (arith, low, low'); last = omega (arith, high, high') }) ys (all_after y ys parts.1))

twice_not : (b : Bool) → not b ≡ false → b ≡ true
twice_not true e = refl
twice_not false e = absurd cc

ended_first : (own : ZoneBox) (xs : List ZoneBox) → do_boxes_ascend xs ≡ true → PassFirst (passes_place true own) xs
ended_first own [] ascend = tt
ended_first own (x ∷ xs) ascend = (
  λ still. All-weaker (IsBy x) (λ y. passes_place true own y ≡ false) (λ y later. holds y later (leb-true own.from x.to (twice_not (nat_le own.from x.to) still))) xs (all_after x xs ascend),
  ended_first own xs (let parts = and_parts (is_by_first x xs) _ ascend in parts.1),
)
  where
    holds : (y : ZoneBox) → IsBy x y → own.from ≤ x.to → not (nat_le own.from y.to) ≡ false
    holds y later low = let high = later.last in let on : nat_le own.from y.to ≡ true = le-leb own.from y.to (omega (arith, high, low)) in ap (λ (b : Bool). not b) on

begun_first : (own : ZoneBox) (xs : List ZoneBox) → do_boxes_ascend xs ≡ true → PassFirst (passes_place false own) xs
begun_first own [] ascend = tt
begun_first own (x ∷ xs) ascend = (
  λ over. All-weaker (IsBy x) (λ y. passes_place false own y ≡ false) (λ y later. holds y later (leb-false x.from own.to over)) xs (all_after x xs ascend),
  begun_first own xs (let parts = and_parts (is_by_first x xs) _ ascend in parts.1),
)
  where
    holds : (y : ZoneBox) → IsBy x y → own.to < x.from → nat_le y.from own.to ≡ false
    holds y later low = let first = later.first in lt-leb y.from own.to (omega (arith, first, low))

pub passing_places : (own : ZoneBox) (xs : List ZoneBox) → do_boxes_ascend xs ≡ true → (ended : Bool) → PassFirst (passes_place ended own) xs
passing_places own xs ascend true = ended_first own xs ascend
passing_places own xs ascend false = begun_first own xs ascend

-- ---- counts

module _ (own : ZoneBox) where
  none_shared : (xs : List ZoneBox) → All (λ y. passes_place false own y ≡ false) xs → length (filter (share_place own) xs) ≡ 0
  none_shared [] all = refl
  none_shared (x ∷ xs) all = by_late (nat_le own.from x.to) (nat_le x.from own.to) (All-head (λ y. passes_place false own y ≡ false) x xs all) (none_shared xs (All-tail (λ y. passes_place false own y ≡ false) x xs all))
    where
      by_late : (e l : Bool) → l ≡ false → length (filter (share_place own) xs) ≡ 0 → length (cond (e && l) (x ∷ filter (share_place own) xs) (filter (share_place own) xs)) ≡ 0
      by_late true true off rest = absurd cc
      by_late false true off rest = rest
      by_late true false off rest = rest
      by_late false false off rest = rest

  no_leading : (xs : List ZoneBox) → All (λ y. passes_place true own y ≡ false) xs → leading (passes_place true own) xs ≡ 0
  no_leading [] all = refl
  no_leading (x ∷ xs) all = let first : passes_place true own x ≡ false = All-head (λ y. passes_place true own y ≡ false) x xs all in rw first refl

  count_places : (xs : List ZoneBox) → PassFirst (passes_place true own) xs → PassFirst (passes_place false own) xs
      → length (filter (share_place own) xs) ≡ leading (passes_place false own) xs - leading (passes_place true own) xs
  count_places [] first_e first_l = omega arith
  count_places (x ∷ xs) first_e first_l = by_tests (nat_le own.from x.to) (nat_le x.from own.to) first_e.0 first_l.0 (count_places xs first_e.1 first_l.1)
    where
      by_tests : (e l : Bool) → (not e ≡ false → All (λ y. passes_place true own y ≡ false) xs) → (l ≡ false → All (λ y. passes_place false own y ≡ false) xs)
          → length (filter (share_place own) xs) ≡ leading (passes_place false own) xs - leading (passes_place true own) xs
          → length (cond (e && l) (x ∷ filter (share_place own) xs) (filter (share_place own) xs))
          ≡ cond l (suc (leading (passes_place false own) xs)) 0 - cond (not e) (suc (leading (passes_place true own) xs)) 0
      by_tests true true all_e all_l rest = let none : leading (passes_place true own) xs ≡ 0 = no_leading xs (all_e refl) in omega (arith, rest, none)
      by_tests false true all_e all_l rest = omega (arith, rest)
      by_tests true false all_e all_l rest = let none = none_shared xs (all_l refl) in omega (arith, none)
      by_tests false false all_e all_l rest = let none = none_shared xs (all_l refl) in omega (arith, none)

-- so many of the boxes hold a place in common with a box
pub counted_places : (own : ZoneBox) (xs : List ZoneBox) (from upto n : ℕ) → ((ended : Bool) → PassFirst (passes_place ended own) xs) → from ≡ leading (passes_place true own) xs
    → upto ≡ leading (passes_place false own) xs → n ≡ upto - from → n < 2 ^ 64 → n ≡ capped (count_by (share_place own) xs)
counted_places own xs from upto n passing from_is upto_is n_is small =
    let all : count_by (share_place own) xs ≡ leading (passes_place false own) xs - leading (passes_place true own) xs =
    sym (length-filter (share_place own) xs) ∙ count_places own xs (passing true) (passing false) in
    omega (arith, all, from_is, upto_is, n_is, small)

-- ---- first answers

not_early : (e l : Bool) → not e ≡ true → (e && l) ≡ false
not_early true l on = absurd cc
not_early false l on = refl

not_late : (e l : Bool) → l ≡ false → (e && l) ≡ false
not_late true l off = off
not_late false l off = refl

module _ (case : Case) (left : BoxPlace) (other : ZoneLine) (right : StretchView) where
  abbrev found : ZoneBox → Option Names
  found later = names_where_met case true left (place_of other right later)

  apart_none : (later : ZoneBox) → share_place left.box later ≡ false → found later ≡ None
  apart_none later apart = far_none case true left (place_of other right later) (rw apart refl)

  -- of all boxes, those between two places
  pub first_between : (boxes part : List ZoneBox) (from upto : ℕ) → PassFirst (passes_place false left.box) boxes → from ≡ leading (passes_place true left.box) boxes
      → upto ≡ leading (passes_place false left.box) boxes → part ≡ drop from (take upto boxes) → first_touched_among case true left other right part ≡ first_touched_among case true left other right boxes
  unfolding first_touched_among
  first_between boxes part from upto first from_is upto_is part_is' =
      ap (first_some found) (part_is' ∙ ap (λ (n : ℕ). drop n (take upto boxes)) from_is ∙ ap (λ (n : ℕ). drop (leading (passes_place true left.box) boxes) (take n boxes)) upto_is)
      ∙ part_is (first_some found) (passes_place true left.box) (passes_place false left.box) (λ x xs ys same. ap (λ (r : Option Names). option_or (found x) r) same)
      (λ x xs over. ap (λ (r : Option Names). option_or r (first_some found xs)) (apart_none x (not_early (nat_le left.box.from x.to) (nat_le x.from left.box.to) over)))
      (λ x xs over. ap (λ (r : Option Names). option_or r (first_some found xs)) (apart_none x (not_late (nat_le left.box.from x.to) (nat_le x.from left.box.to) over))) boxes first
