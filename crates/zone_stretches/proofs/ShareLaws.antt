-- The boxes of a zone share out the places of a span at which it is on.
use Rattle.std.proofs.Common.{◌≡◌, ◌⊎◌, ◌∙◌, ℕ, zero, suc, ℤ, ◌+◌, ◌-◌, ◌<◌, ◌≤◌, ◌&&◌, nat_le, Bool, true, false, cond, List, [], ◌∷◌, ◌++◌, length, take, drop, slice_get, sum_by, count_by, All, Option, None, Some, inl, inr, refl, sym, ap, subst, arith, zero-add}
use Rattle.std.proofs.lemmas.Bool.{and_parts, cases_lt, le-leb, lt-leb, leb-true}
use Rattle.std.proofs.lemmas.List.Elements.{All-nil, All-cons, All-weaker}
use Rattle.std.proofs.lemmas.List.Sums.{sum_by-append}
use Rattle.job_types.specs.Job.{JobView}
use Rattle.job_types.specs.declared.job.ZoneLine.{ZoneLine}
use Rattle.order_clocks.specs.Clocked.{moves_in}
use Rattle.sync_types.specs.Boards.{Board}
use Rattle.sync_types.specs.Views.{RunView}
use Rattle.sync_types.specs.declared.Item.{Item}
use Rattle.sync_types.specs.declared.runs.EventId.{EventId}
use Rattle.zone_stretches.proofs.CoverLaws.{HasItems, all_alike, spans_have_items}
use Rattle.zone_stretches.proofs.StretchLaws.{HoldsOf, each_stretch, each_time}
use Rattle.zone_stretches.specs.ActiveParts.{ZoneSpan, is_on_at, IsMotionAt, IsLineAt, stand_after_all, stand_before, IsActivePart, IsPartBox, does_hold, DoAscend, ShareOutPlaces, boxes_in, HasSpan, StretchesShareOutPlaces}
use Rattle.zone_stretches.specs.Occurrences.{OccurrenceView, occurrences_of}
use Rattle.zone_stretches.specs.Spans.{SpanStartView, entry_of_beginning, spans_of}
use Rattle.zone_stretches.specs.Stretches.{free_stretch, stretch_between, stretches_of_zone}
use Rattle.zone_stretches.specs.Tenures.{tenures_of}
use Rattle.zone_stretches.specs.ZoneBoxes.{stand_after, seen, turned, on_after, PlaceBox, Opened, Shut, Waiting, Moving, closed, closed_before, next_open, walk, boxes_of}
use Rattle.zone_stretches.specs.declared.sights.ZoneEffect.{ZoneEffect}
use Rattle.zone_stretches.specs.declared.sights.ZoneEffect.TheVariants.{Nothing, Turns, Moves}

-- ---- what is open

-- the first place of what is open
abbrev pub from_of : Opened → ℕ
from_of Shut = 0
from_of (Waiting from line began) = from
from_of (Moving from place item began) = from

-- a box is open where the zone is on
abbrev pub is_open : Opened → Bool
is_open Shut = false
is_open other = true

pub next_from : (place : ℕ) (at : ℕ → ℤ) (item : Item) (o : Opened) (s : ZoneEffect) → from_of o ≤ place → from_of (next_open (suc place) at item o s) ≤ suc place
next_from place at item Shut Nothing low = omega arith
next_from place at item Shut (Turns true) low = omega arith
next_from place at item Shut (Turns false) low = omega arith
next_from place at item Shut Moves low = omega arith
next_from place at item (Waiting from line began) Nothing low = omega arith
next_from place at item (Waiting from line began) (Turns true) low = omega arith
next_from place at item (Waiting from line began) (Turns false) low = omega arith
next_from place at item (Waiting from line began) Moves low = omega arith
next_from place at item (Moving from of before began) Nothing low = omega arith
next_from place at item (Moving from of before began) (Turns true) low = omega arith
next_from place at item (Moving from of before began) (Turns false) low = omega arith
next_from place at item (Moving from of before began) Moves low = omega arith

pub next_is_open : (place : ℕ) (at : ℕ → ℤ) (item : Item) (o : Opened) (s : ZoneEffect) → is_open (next_open (suc place) at item o s) ≡ turned (is_open o) s
next_is_open place at item Shut Nothing = refl
next_is_open place at item Shut (Turns true) = refl
next_is_open place at item Shut (Turns false) = refl
next_is_open place at item Shut Moves = refl
next_is_open place at item (Waiting from line began) Nothing = refl
next_is_open place at item (Waiting from line began) (Turns true) = refl
next_is_open place at item (Waiting from line began) (Turns false) = refl
next_is_open place at item (Waiting from line began) Moves = refl
next_is_open place at item (Moving from of before began) Nothing = refl
next_is_open place at item (Moving from of before began) (Turns true) = refl
next_is_open place at item (Moving from of before began) (Turns false) = refl
next_is_open place at item (Moving from of before began) Moves = refl

-- ---- how many boxes hold a place

abbrev weight : ℕ → PlaceBox → ℕ
weight k box = cond (does_hold k box) 1 0

abbrev count : ℕ → List PlaceBox → ℕ
count k boxes = sum_by (weight k) boxes

-- what is open holds the places from its first on
abbrev held : ℕ → Opened → ℕ
held k Shut = 0
held k (Waiting from line began) = cond (nat_le from k) 1 0
held k (Moving from of item began) = cond (nat_le from k) 1 0

held_all : (k : ℕ) (o : Opened) → from_of o ≤ k → held k o ≡ cond (is_open o) 1 0
held_all k Shut low = refl
held_all k (Waiting from line began) low = rw (le-leb from k low) refl
held_all k (Moving from of item began) low = rw (le-leb from k low) refl

upto_last : (b c : Bool) → c ≡ true → cond {A = ℕ} (b && c) 1 0 ≡ cond {A = ℕ} b 1 0
upto_last true c on = rw on refl
upto_last false c on = refl

past_last : (b c : Bool) → c ≡ false → cond {A = ℕ} (b && c) 1 0 ≡ 0
past_last true c off = rw off refl
past_last false c off = refl

closed_count : (k to : ℕ) (o : Opened) → k ≤ to → count k (closed to o) ≡ held k o
closed_count k to Shut high = refl
closed_count k to (Waiting from line began) high = zero-add (cond (nat_le from k && nat_le k to) 1 0) ∙ upto_last (nat_le from k) (nat_le k to) (le-leb k to high)
closed_count k to (Moving from of item began) high = zero-add (cond (nat_le from k && nat_le k to) 1 0) ∙ upto_last (nat_le from k) (nat_le k to) (le-leb k to high)

closed_past : (k to : ℕ) (o : Opened) → to < k → count k (closed to o) ≡ 0
closed_past k to Shut past = refl
closed_past k to (Waiting from line began) past = zero-add (cond (nat_le from k && nat_le k to) 1 0) ∙ past_last (nat_le from k) (nat_le k to) (lt-leb k to past)
closed_past k to (Moving from of item began) past = zero-add (cond (nat_le from k && nat_le k to) 1 0) ∙ past_last (nat_le from k) (nat_le k to) (lt-leb k to past)

before_past : (k to : ℕ) (o : Opened) (s : ZoneEffect) → to < k → count k (closed_before to o s) ≡ 0
before_past k to Shut Nothing past = refl
before_past k to Shut (Turns true) past = refl
before_past k to Shut (Turns false) past = refl
before_past k to Shut Moves past = refl
before_past k to (Waiting from line began) Nothing past = refl
before_past k to (Waiting from line began) (Turns true) past = refl
before_past k to (Waiting from line began) (Turns false) past = closed_past k to (Waiting from line began) past
before_past k to (Waiting from line began) Moves past = refl
before_past k to (Moving from of item began) Nothing past = refl
before_past k to (Moving from of item began) (Turns true) past = refl
before_past k to (Moving from of item began) (Turns false) past = closed_past k to (Moving from of item began) past
before_past k to (Moving from of item began) Moves past = closed_past k to (Moving from of item began) past

-- a place that is there already is held by what is open, or by no box to come
count_there : (zone : ZoneLine) (k place : ℕ) (o : Opened) (at : ℕ → ℤ) (items : List Item) → k ≤ place → count k (walk zone place o at items) ≡ held k o
count_there zone k place o at [] high = closed_count k place o high
count_there zone k place o at (item ∷ items) high =
    by_sight o (seen zone item) (λ o'. count_there zone k (suc place) o' (stand_after item at) items (omega (arith, high)))
  where
    Later : Type 0
    Later = (o' : Opened) → count k (walk zone (suc place) o' (stand_after item at) items) ≡ held k o'

    not_yet : cond {A = ℕ} (nat_le (suc place) k) 1 0 ≡ 0
    not_yet = rw (lt-leb (suc place) k (omega (arith, high))) refl

    ends : (o o' : Opened) → held k o' ≡ 0 → Later → count k (closed place o ++ walk zone (suc place) o' (stand_after item at) items) ≡ held k o
    ends o o' none later =
        let whole = sum_by-append (weight k) (closed place o) (walk zone (suc place) o' (stand_after item at) items) in
        let own = closed_count k place o high in
        let rest = later o' in
        omega (arith, whole, own, rest, none)

    by_sight : (o : Opened) (s : ZoneEffect) → Later
        → count k (closed_before place o s ++ walk zone (suc place) (next_open (suc place) at item o s) (stand_after item at) items) ≡ held k o
    by_sight Shut Nothing later = later Shut
    by_sight Shut (Turns true) later = later (Waiting (suc place) item.line at) ∙ not_yet
    by_sight Shut (Turns false) later = later Shut
    by_sight Shut Moves later = later Shut
    by_sight (Waiting from line began) Nothing later = later (Waiting from line began)
    by_sight (Waiting from line began) (Turns true) later = later (Waiting from line began)
    by_sight (Waiting from line began) (Turns false) later = ends (Waiting from line began) Shut refl later
    by_sight (Waiting from line began) Moves later = later (Moving from (suc place) item at)
    by_sight (Moving from of before began) Nothing later = later (Moving from of before began)
    by_sight (Moving from of before began) (Turns true) later = later (Moving from of before began)
    by_sight (Moving from of before began) (Turns false) later = ends (Moving from of before began) Shut refl later
    by_sight (Moving from of before began) Moves later = ends (Moving from of before began) (Moving (suc place) (suc place) item at) not_yet later

-- a place to come is held by one box where the zone is on there
count_on : (zone : ZoneLine) (place : ℕ) (o : Opened) (at : ℕ → ℤ) (items : List Item) → from_of o ≤ place → (m k : ℕ) → k ≡ suc (place + m) → m < length items
    → count k (walk zone place o at items) ≡ cond (on_after zone (is_open o) (take (suc m) items)) 1 0
count_on zone place o at [] low m k is within = absurd (omega (arith, within))
count_on zone place o at (item ∷ items) low zero k is within =
    by_next (next_open (suc place) at item o (seen zone item)) (next_is_open place at item o (seen zone item)) (next_from place at item o (seen zone item) low)
  where
    by_next : (o' : Opened) → is_open o' ≡ turned (is_open o) (seen zone item) → from_of o' ≤ suc place
        → count k (closed_before place o (seen zone item) ++ walk zone (suc place) o' (stand_after item at) items) ≡ cond (turned (is_open o) (seen zone item)) 1 0
    by_next o' opened first =
        let whole = sum_by-append (weight k) (closed_before place o (seen zone item)) (walk zone (suc place) o' (stand_after item at) items) in
        let none = before_past k place o (seen zone item) (omega (arith, is)) in
        let rest = count_there zone k (suc place) o' (stand_after item at) items (omega (arith, is)) in
        let all = held_all k o' (omega (arith, is, first)) in
        let turns = ap (λ (b : Bool). cond {A = ℕ} b 1 0) opened in
        omega (arith, whole, none, rest, all, turns)
count_on zone place o at (item ∷ items) low (suc m) k is within =
    by_next (next_open (suc place) at item o (seen zone item)) (next_is_open place at item o (seen zone item))
    (count_on zone (suc place) (next_open (suc place) at item o (seen zone item)) (stand_after item at) items (next_from place at item o (seen zone item) low) m k (omega (arith, is)) (omega (arith, within)))
  where
    by_next : (o' : Opened) → is_open o' ≡ turned (is_open o) (seen zone item)
        → count k (walk zone (suc place) o' (stand_after item at) items) ≡ cond (on_after zone (is_open o') (take (suc m) items)) 1 0
        → count k (closed_before place o (seen zone item) ++ walk zone (suc place) o' (stand_after item at) items) ≡ cond (on_after zone (turned (is_open o) (seen zone item)) (take (suc m) items)) 1 0
    by_next o' opened rest =
        let whole = sum_by-append (weight k) (closed_before place o (seen zone item)) (walk zone (suc place) o' (stand_after item at) items) in
        let none = before_past k place o (seen zone item) (omega (arith, is)) in
        let turns = ap (λ (b : Bool). cond {A = ℕ} (on_after zone b (take (suc m) items)) 1 0) opened in
        omega (arith, whole, none, rest, turns)

-- past the last place no box holds
count_past : (zone : ZoneLine) (place : ℕ) (o : Opened) (at : ℕ → ℤ) (items : List Item) (k : ℕ) → place + length items < k → count k (walk zone place o at items) ≡ 0
count_past zone place o at [] k past = closed_past k place o (omega (arith, past))
count_past zone place o at (item ∷ items) k past =
    let whole = sum_by-append (weight k) (closed_before place o (seen zone item)) (walk zone (suc place) (next_open (suc place) at item o (seen zone item)) (stand_after item at) items) in
    let none = before_past k place o (seen zone item) (omega (arith, past)) in
    let rest = count_past zone (suc place) (next_open (suc place) at item o (seen zone item)) (stand_after item at) items k (omega (arith, past)) in
    omega (arith, whole, none, rest)

one_holds : (span : ZoneSpan) (place : ℕ) → count_by (does_hold place) (boxes_in span) ≡ cond (is_on_at span place) 1 0
unfolding boxes_of
one_holds span zero = count_there span.zone 0 0 (cond span.on (Waiting 0 span.line span.at) Shut) span.at span.items (omega arith) ∙ by_on span.on
  where
    by_on : (b : Bool) → held 0 (cond b (Waiting 0 span.line span.at) Shut) ≡ cond (nat_le 0 (length span.items) && b) 1 0
    by_on true = rw (le-leb 0 (length span.items) (omega arith)) refl
    by_on false = rw (le-leb 0 (length span.items) (omega arith)) refl
one_holds span (suc m) = by_order (cases_lt m (length span.items))
  where
    by_on : (b : Bool) → m < length span.items
        → count (suc m) (walk span.zone 0 (cond b (Waiting 0 span.line span.at) Shut) span.at span.items) ≡ cond (on_after span.zone b (take (suc m) span.items)) 1 0
    by_on true within = count_on span.zone 0 (Waiting 0 span.line span.at) span.at span.items (omega arith) m (suc m) (omega arith) within
    by_on false within = count_on span.zone 0 Shut span.at span.items (omega arith) m (suc m) (omega arith) within

    by_order : (m < length span.items) ⊎ (length span.items ≤ m)
        → count (suc m) (walk span.zone 0 (cond span.on (Waiting 0 span.line span.at) Shut) span.at span.items)
        ≡ cond (nat_le (suc m) (length span.items) && on_after span.zone span.on (take (suc m) span.items)) 1 0
    by_order (inl within) = rw (le-leb (suc m) (length span.items) (omega (arith, within))) (by_on span.on within)
    by_order (inr past) =
        rw (lt-leb (suc m) (length span.items) (omega (arith, past)))
        (count_past span.zone 0 (cond span.on (Waiting 0 span.line span.at) Shut) span.at span.items (suc m) (omega (arith, past)))

-- ---- the boxes stand in order

-- what is open begins with this place or later
abbrev BeginsPast : ℕ → ℕ → Opened → Type 0
BeginsPast low place Shut = low ≤ suc place
BeginsPast low place (Waiting from line began) = (low ≤ from) × (from ≤ place)
BeginsPast low place (Moving from of item began) = (low ≤ from) × (from ≤ place)

walk_ascends : (zone : ZoneLine) (low place : ℕ) (o : Opened) (at : ℕ → ℤ) (items : List Item) → BeginsPast low place o → DoAscend low (walk zone place o at items)
walk_ascends zone low place Shut at [] begins = tt
walk_ascends zone low place (Waiting from line began) at [] begins = (begins.0, begins.1, tt)
walk_ascends zone low place (Moving from of item began) at [] begins = (begins.0, begins.1, tt)
walk_ascends zone low place o at (item ∷ items) begins =
    by_sight o (seen zone item) begins (λ low' o' begins'. walk_ascends zone low' (suc place) o' (stand_after item at) items begins')
  where
    Later : Type 0
    Later = (low' : ℕ) (o' : Opened) → BeginsPast low' (suc place) o' → DoAscend low' (walk zone (suc place) o' (stand_after item at) items)

    by_sight : (o : Opened) (s : ZoneEffect) → BeginsPast low place o → Later
        → DoAscend low (closed_before place o s ++ walk zone (suc place) (next_open (suc place) at item o s) (stand_after item at) items)
    by_sight Shut Nothing begins later = later low Shut (omega (arith, begins))
    by_sight Shut (Turns true) begins later = later low (Waiting (suc place) item.line at) (begins, omega arith)
    by_sight Shut (Turns false) begins later = later low Shut (omega (arith, begins))
    by_sight Shut Moves begins later = later low Shut (omega (arith, begins))
    by_sight (Waiting from line began) Nothing begins later = let high = begins.1 in later low (Waiting from line began) (begins.0, omega (arith, high))
    by_sight (Waiting from line began) (Turns true) begins later = let high = begins.1 in later low (Waiting from line began) (begins.0, omega (arith, high))
    by_sight (Waiting from line began) (Turns false) begins later = (begins.0, begins.1, later (suc place) Shut (omega arith))
    by_sight (Waiting from line began) Moves begins later = let high = begins.1 in later low (Moving from (suc place) item at) (begins.0, omega (arith, high))
    by_sight (Moving from of before began) Nothing begins later = let high = begins.1 in later low (Moving from of before began) (begins.0, omega (arith, high))
    by_sight (Moving from of before began) (Turns true) begins later = let high = begins.1 in later low (Moving from of before began) (begins.0, omega (arith, high))
    by_sight (Moving from of before began) (Turns false) begins later = (begins.0, begins.1, later (suc place) Shut (omega arith))
    by_sight (Moving from of before began) Moves begins later = (begins.0, begins.1, later (suc place) (Moving (suc place) (suc place) item at) (omega arith, omega arith))

boxes_ascend : (span : ZoneSpan) → DoAscend 0 (boxes_in span)
unfolding boxes_of
boxes_ascend span = by_on span.on
  where
    by_on : (b : Bool) → DoAscend 0 (walk span.zone 0 (cond b (Waiting 0 span.line span.at) Shut) span.at span.items)
    by_on true = walk_ascends span.zone 0 0 (Waiting 0 span.line span.at) span.at span.items (omega arith, omega arith)
    by_on false = walk_ascends span.zone 0 0 Shut span.at span.items (omega arith)

-- ---- lists of items

split_next : (xs : List Item) (n : ℕ) (y : Item) (ys : List Item) → drop n xs ≡ y ∷ ys → (slice_get xs n ≡ Some y) × (drop (suc n) xs ≡ ys)
split_next [] zero y ys e = absurd cc
split_next [] (suc n) y ys e = absurd cc
split_next (x ∷ xs) zero y ys e = let head : x ≡ y = cc in let tail : xs ≡ ys = cc in (ap Some head, tail)
split_next (x ∷ xs) (suc n) y ys e = split_next xs n y ys e

none_left : (xs : List Item) (n : ℕ) → drop n xs ≡ [] → length xs ≤ n
none_left [] n e = omega arith
none_left (x ∷ xs) zero e = absurd cc
none_left (x ∷ xs) (suc n) e = let few = none_left xs n e in omega (arith, few)

get_within : (xs : List Item) (n : ℕ) (y : Item) → slice_get xs n ≡ Some y → n < length xs
get_within [] n y e = absurd cc
get_within (x ∷ xs) zero y e = omega arith
get_within (x ∷ xs) (suc n) y e = let less = get_within xs n y e in omega (arith, less)

same_item : (x y : Item) (o : Option Item) → o ≡ Some x → o ≡ Some y → x ≡ y
same_item x y o p q = cc

on_step : (zone : ZoneLine) (on : Bool) (items : List Item) (n : ℕ) (item : Item) → slice_get items n ≡ Some item
    → on_after zone on (take (suc n) items) ≡ turned (on_after zone on (take n items)) (seen zone item)
on_step zone on [] n item is = absurd cc
on_step zone on (first ∷ items) zero item is = let same : first ≡ item = cc in ap (λ (i : Item). turned on (seen zone i)) same
on_step zone on (first ∷ items) (suc n) item is = on_step zone (turned on (seen zone first)) items n item is

stand_step : (items : List Item) (n : ℕ) (item : Item) (at : ℕ → ℤ) → slice_get items n ≡ Some item
    → stand_after_all (take (suc n) items) at ≡ stand_after item (stand_after_all (take n items) at)
stand_step [] n item at is = absurd cc
stand_step (first ∷ items) zero item at is = let same : first ≡ item = cc in ap (λ (i : Item). stand_after i at) same
stand_step (first ∷ items) (suc n) item at is = stand_step items n item (stand_after first at) is

-- ---- a motion with an axis of the zone

unfoldable pub is_motion : ZoneEffect → Bool
is_motion Moves = true
is_motion other = false

no_motion : (s : ZoneEffect) → is_motion s ≡ false → s ≡ Moves → ⊥
unfolding is_motion
no_motion s still e = let moves : is_motion s ≡ true = ap is_motion e in absurd cc

clash : (b : Bool) → b ≡ true → b ≡ false → ⊥
clash b on off = absurd cc

less_one : (n : ℕ) → suc n - 1 ≡ n
less_one n = omega arith

module _ (span : ZoneSpan) where
  -- ---- places

  on_is : (place : ℕ) → place ≤ length span.items → is_on_at span place ≡ on_after span.zone span.on (take place span.items)
  on_is place within = rw (le-leb place (length span.items) within) refl

  off_past : (place : ℕ) → length span.items < place → is_on_at span place ≡ false
  off_past place past = rw (lt-leb place (length span.items) past) refl

  on_within : (place : ℕ) → is_on_at span place ≡ true → place ≤ length span.items
  on_within place on = leb-true place (length span.items) (and_parts (nat_le place (length span.items)) (on_after span.zone span.on (take place span.items)) on).0

  on_next : (place : ℕ) (item : Item) → slice_get span.items place ≡ Some item → is_on_at span (suc place) ≡ turned (is_on_at span place) (seen span.zone item)
  on_next place item there =
      let less = get_within span.items place item there in
      on_is (suc place) (omega (arith, less)) ∙ on_step span.zone span.on span.items place item there
      ∙ ap (λ (b : Bool). turned b (seen span.zone item)) (sym (on_is place (omega (arith, less))))

  motion_at : (place : ℕ) (item : Item) → slice_get span.items place ≡ Some item → seen span.zone item ≡ Moves → IsMotionAt span (suc place) item
  motion_at place item there moves = record {
    counted = omega arith;
    there = subst (λ (k : ℕ). slice_get span.items k ≡ Some item) (sym (less_one place)) there;
    moves = moves;
  }

  sees_motion : (place : ℕ) (item other : Item) → slice_get span.items place ≡ Some item → IsMotionAt span (suc place) other → seen span.zone item ≡ Moves
  sees_motion place item other there motion =
      ap (seen span.zone) (same_item item other (slice_get span.items place) there (subst (λ (k : ℕ). slice_get span.items k ≡ Some other) (less_one place) motion.there)) ∙ motion.moves

  -- ---- rows of places

  abbrev IsRow : ℕ → ℕ → Type 0
  IsRow first last = (place : ℕ) → first ≤ place → place ≤ last → is_on_at span place ≡ true

  abbrev IsStill : ℕ → ℕ → Type 0
  IsStill first last = (place : ℕ) (item : Item) → first ≤ place → place ≤ last → IsMotionAt span place item → ⊥

  abbrev IsBeginning : ℕ → Type 0
  IsBeginning first = (place : ℕ) → suc place ≡ first → is_on_at span place ≡ false

  row_one : (place : ℕ) → is_on_at span place ≡ true → IsRow place place
  row_one place on k low high = let same : place ≡ k = omega (arith, low, high) in subst (λ (n : ℕ). is_on_at span n ≡ true) same on

  row_more : (first last : ℕ) → IsRow first last → is_on_at span (suc last) ≡ true → IsRow first (suc last)
  row_more first last row on k low high = by_order (cases_lt last k)
    where
      by_order : (last < k) ⊎ (k ≤ last) → is_on_at span k ≡ true
      by_order (inl past) = let same : suc last ≡ k = omega (arith, past, high) in subst (λ (n : ℕ). is_on_at span n ≡ true) same on
      by_order (inr upto) = row k low upto

  row_join : (first middle last : ℕ) → IsRow first middle → IsRow middle last → IsRow first last
  row_join first middle last row row' k low high = by_order (cases_lt middle k)
    where
      by_order : (middle < k) ⊎ (k ≤ middle) → is_on_at span k ≡ true
      by_order (inl past) = row' k (omega (arith, past)) high
      by_order (inr upto) = row k low upto

  row_before : (first last : ℕ) → is_on_at span first ≡ true → IsRow (suc first) last → IsRow first last
  row_before first last on row k low high = by_order (cases_lt first k)
    where
      by_order : (first < k) ⊎ (k ≤ first) → is_on_at span k ≡ true
      by_order (inl past) = row k (omega (arith, past)) high
      by_order (inr upto) = let same : first ≡ k = omega (arith, upto, low) in subst (λ (n : ℕ). is_on_at span n ≡ true) same on

  still_more : (first last : ℕ) → IsStill first last → ((item : Item) → IsMotionAt span (suc last) item → ⊥) → IsStill first (suc last)
  still_more first last still next k item low high motion = by_order (cases_lt last k)
    where
      by_order : (last < k) ⊎ (k ≤ last) → ⊥
      by_order (inl past) = let same : k ≡ suc last = omega (arith, past, high) in next item (subst (λ (n : ℕ). IsMotionAt span n item) same motion)
      by_order (inr upto) = still k item low upto motion

  -- ---- the part of a place

  -- the first place of the part, and the last, of so many that are left
  abbrev HasFirst : ℕ → Type 0
  HasFirst place = (first : ℕ) × (first ≤ place) × IsRow first place × IsBeginning first

  abbrev HasLast : ℕ → Type 0
  HasLast place = (last : ℕ) × (place ≤ last) × IsRow place last × (is_on_at span (suc last) ≡ false)

  first_of : (place : ℕ) → is_on_at span place ≡ true → HasFirst place
  first_of zero on = (0, omega arith, row_one 0 on, λ k is. absurd (omega (arith, is)))
  first_of (suc place) on = by_before (is_on_at span place) refl (first_of place)
    where
      by_before : (b : Bool) → is_on_at span place ≡ b → (is_on_at span place ≡ true → HasFirst place) → HasFirst (suc place)
      by_before false off earlier = (
        suc place,
        omega arith,
        row_one (suc place) on,
        λ k is. let same : place ≡ k = omega (arith, is) in subst (λ (n : ℕ). is_on_at span n ≡ false) same off,
      )
      by_before true before earlier =
          let found = earlier before in
          let low = found.1 in
          (found.0, omega (arith, low), row_more found.0 place found.2 on, found.3)

  last_of : (left place : ℕ) → place + left ≡ length span.items → is_on_at span place ≡ true → HasLast place
  last_of zero place all on = (place, omega arith, row_one place on, off_past (suc place) (omega (arith, all)))
  last_of (suc left) place all on = by_next (is_on_at span (suc place)) refl (last_of left (suc place) (omega (arith, all)))
    where
      by_next : (b : Bool) → is_on_at span (suc place) ≡ b → (is_on_at span (suc place) ≡ true → HasLast (suc place)) → HasLast place
      by_next false off later = (place, omega arith, row_one place on, off)
      by_next true next later =
          let found = later next in
          let high = found.1 in
          (found.0, omega (arith, high), row_before place found.0 on found.2, found.3)

  part_of : (place : ℕ) → is_on_at span place ≡ true → (first : ℕ) × (last : ℕ) × (first ≤ place) × (place ≤ last) × IsActivePart span first last
  part_of place on =
      let within = on_within place on in
      let begun = first_of place on in
      let ended = last_of (length span.items - place) place (omega (arith, within)) on in
      let low = begun.1 in
      let high = ended.1 in
      (begun.0, ended.0, low, high, record { some = omega (arith, low, high); on_there = row_join begun.0 place ended.0 begun.2 ended.2; off_before = begun.3; off_after = ended.3 })

  -- a row that meets a part lies in it
  no_lower : (first last from to place : ℕ) → IsActivePart span first last → IsRow from to → from ≤ place → place ≤ to → first ≤ place → first ≤ from
  no_lower first last from to place part row low high first_low = by_order (cases_lt from first)
    where
      by_order : (from < first) ⊎ (first ≤ from) → first ≤ from
      by_order (inl less) =
          absurd (clash (is_on_at span (first - 1)) (row (first - 1) (omega (arith, less)) (omega (arith, less, high, first_low))) (part.off_before (first - 1) (omega (arith, less))))
      by_order (inr upto) = upto

  no_higher : (first last from to place : ℕ) → IsActivePart span first last → IsRow from to → from ≤ place → place ≤ to → place ≤ last → to ≤ last
  no_higher first last from to place part row low high last_high = by_order (cases_lt last to)
    where
      by_order : (last < to) ⊎ (to ≤ last) → to ≤ last
      by_order (inl less) = absurd (clash (is_on_at span (suc last)) (row (suc last) (omega (arith, low, last_high)) (omega (arith, less))) part.off_after)
      by_order (inr upto) = upto

  first_is : (first last from : ℕ) → IsActivePart span first last → IsBeginning from → first ≤ from → from ≤ last → from ≡ first
  first_is first last from part begins low high = by_order (cases_lt first from)
    where
      by_order : (first < from) ⊎ (from ≤ first) → from ≡ first
      by_order (inl less) =
          absurd (clash (is_on_at span (from - 1)) (part.on_there (from - 1) (omega (arith, less)) (omega (arith, high))) (begins (from - 1) (omega (arith, less))))
      by_order (inr upto) = omega (arith, upto, low)

  last_is : (first last to : ℕ) → IsActivePart span first last → is_on_at span (suc to) ≡ false → first ≤ to → to ≤ last → to ≡ last
  last_is first last to part off low high = by_order (cases_lt to last)
    where
      by_order : (to < last) ⊎ (last ≤ to) → to ≡ last
      by_order (inl less) = absurd (clash (is_on_at span (suc to)) (part.on_there (suc to) (omega (arith, low)) (omega (arith, less))) off)
      by_order (inr upto) = omega (arith, upto, high)

  -- ---- what is open at a place

  record WaitingRow (from line place : ℕ) (began : ℕ → ℤ) : Type 0 where
    pub low : from ≤ place
    pub row : IsRow from place
    pub begins : IsBeginning from
    pub still : IsStill from place
    pub line_is : IsLineAt span from line
    pub stands : began ≡ stand_before span from

  record MovingRow (from of place : ℕ) (item : Item) (began : ℕ → ℤ) : Type 0 where
    pub low : from ≤ of
    pub high : of ≤ place
    pub row : IsRow from place
    pub begins : IsBeginning from ⊎ (from ≡ of)
    pub motion : IsMotionAt span of item
    pub alone : (other : ℕ) (later : Item) → from ≤ other → other ≤ place → IsMotionAt span other later → other ≡ of
    pub stands : began ≡ stand_before span of

  abbrev IsOpenAt : ℕ → Opened → Type 0
  IsOpenAt place Shut = is_on_at span place ≡ false
  IsOpenAt place (Waiting from line began) = WaitingRow from line place began
  IsOpenAt place (Moving from of item began) = MovingRow from of place item began

  abbrev waiting_box : ℕ → ℕ → ℕ → (ℕ → ℤ) → PlaceBox
  waiting_box from line to began = record { from = from; to = to; motion = None; line = line; at = began }

  abbrev moving_box : ℕ → ℕ → ℕ → Item → (ℕ → ℤ) → PlaceBox
  moving_box from of to item began = record { from = from; to = to; motion = Some (of, item); line = item.line; at = began }

  close_waiting : (from line place : ℕ) (began : ℕ → ℤ) → WaitingRow from line place began → is_on_at span (suc place) ≡ false → IsPartBox span (waiting_box from line place began)
  close_waiting from line place began waits off = record {
    first = from;
    last = place;
    part = record { some = waits.low; on_there = waits.row; off_before = waits.begins; off_after = off };
    low = omega arith;
    high = omega arith;
    share = record { from = refl; to = refl; still = waits.still; line = waits.line_is; stands = waits.stands };
  }

  begins_by : (first last from of : ℕ) → IsActivePart span first last → first ≤ from → from ≤ last → IsBeginning from ⊎ (from ≡ of) → (from ≡ first) ⊎ (from ≡ of)
  begins_by first last from of part low high (inl begins) = inl (first_is first last from part begins low high)
  begins_by first last from of part low high (inr own) = inr own

  -- the zone is off at a place, or the place is that of a motion of it
  abbrev Ends : ℕ → Type 0
  Ends place = (is_on_at span place ≡ false) ⊎ ((next : Item) × IsMotionAt span place next)

  ends_by : (first last to : ℕ) → IsActivePart span first last → first ≤ to → to ≤ last → Ends (suc to) → (to ≡ last) ⊎ ((next : Item) × IsMotionAt span (suc to) next)
  ends_by first last to part low high (inl off) = inl (last_is first last to part off low high)
  ends_by first last to part low high (inr next) = inr next

  close_moving : (from of place : ℕ) (item : Item) (began : ℕ → ℤ) → MovingRow from of place item began → Ends (suc place) → IsPartBox span (moving_box from of place item began)
  close_moving from of place item began moves ends = of_part (part_of of (moves.row of moves.low moves.high))
    where
      of_part : (first : ℕ) × (last : ℕ) × (first ≤ of) × (of ≤ last) × IsActivePart span first last → IsPartBox span (moving_box from of place item began)
      of_part (first, last, before, past, part) =
          let own_low = moves.low in
          let own_high = moves.high in
          let low = no_lower first last from place of part moves.row own_low own_high before in
          let high = no_higher first last from place of part moves.row own_low own_high past in
          record {
            first = first;
            last = last;
            part = part;
            low = low;
            high = high;
            share = record {
              motion = moves.motion;
              low = own_low;
              high = own_high;
              alone = moves.alone;
              begins = begins_by first last from of part low (omega (arith, own_low, past)) moves.begins;
              ends = ends_by first last place part (omega (arith, own_high, before)) high ends;
              line = refl;
              stands = moves.stands;
            };
          }

  -- ---- one item

  module _ (place : ℕ) (item : Item) (there : slice_get span.items place ≡ Some item) where
    turns : (s : ZoneEffect) → seen span.zone item ≡ s → (b : Bool) → is_on_at span place ≡ b → is_on_at span (suc place) ≡ turned b s
    turns s is b on = on_next place item there ∙ ap (λ (c : Bool). turned c (seen span.zone item)) on ∙ ap (turned b) is

    no_motion_there : (s : ZoneEffect) → seen span.zone item ≡ s → is_motion s ≡ false → (other : Item) → IsMotionAt span (suc place) other → ⊥
    no_motion_there s is still other motion = no_motion s still (sym is ∙ sees_motion place item other there motion)

    stands_there : (at : ℕ → ℤ) → at ≡ stand_after_all (take place span.items) span.at → at ≡ stand_before span (suc place)
    stands_there at stands = stands ∙ ap (λ (n : ℕ). stand_after_all (take n span.items) span.at) (sym (less_one place))

    waits_first : (at : ℕ → ℤ) → at ≡ stand_after_all (take place span.items) span.at → seen span.zone item ≡ Turns true → is_on_at span place ≡ false
        → WaitingRow (suc place) item.line (suc place) at
    unfolding is_motion
    waits_first at stands is off = record {
      low = omega arith;
      row = row_one (suc place) (turns (Turns true) is false off);
      begins = λ k e. let same : place ≡ k = omega (arith, e) in subst (λ (n : ℕ). is_on_at span n ≡ false) same off;
      still = λ k other low high motion. let same : k ≡ suc place = omega (arith, low, high) in
          no_motion_there (Turns true) is refl other (subst (λ (n : ℕ). IsMotionAt span n other) same motion);
      line_is = (item, there, refl);
      stands = stands_there at stands;
    }

    waits_on : (from line : ℕ) (began : ℕ → ℤ) (s : ZoneEffect) → seen span.zone item ≡ s → is_motion s ≡ false → turned true s ≡ true
        → WaitingRow from line place began → WaitingRow from line (suc place) began
    waits_on from line began s is still stays waits =
        let low = waits.low in
        record {
          low = omega (arith, low);
          row = row_more from place waits.row (turns s is true (waits.row place low (omega arith)) ∙ stays);
          begins = waits.begins;
          still = still_more from place waits.still (no_motion_there s is still);
          line_is = waits.line_is;
          stands = waits.stands;
        }

    moves_first : (from line : ℕ) (began at : ℕ → ℤ) → at ≡ stand_after_all (take place span.items) span.at → seen span.zone item ≡ Moves
        → WaitingRow from line place began → MovingRow from (suc place) (suc place) item at
    moves_first from line began at stands is waits =
        let low = waits.low in
        record {
          low = omega (arith, low);
          high = omega arith;
          row = row_more from place waits.row (turns Moves is true (waits.row place low (omega arith)));
          begins = inl waits.begins;
          motion = motion_at place item there is;
          alone = λ other later from_low high motion. by_order other later from_low high motion (cases_lt place other);
          stands = stands_there at stands;
        }
      where
        by_order : (other : ℕ) (later : Item) → from ≤ other → other ≤ suc place → IsMotionAt span other later → (place < other) ⊎ (other ≤ place) → other ≡ suc place
        by_order other later from_low high motion (inl past) = omega (arith, past, high)
        by_order other later from_low high motion (inr upto) = absurd (waits.still other later from_low upto motion)

    moves_on : (from of : ℕ) (before : Item) (began : ℕ → ℤ) (s : ZoneEffect) → seen span.zone item ≡ s → is_motion s ≡ false → turned true s ≡ true
        → MovingRow from of place before began → MovingRow from of (suc place) before began
    moves_on from of before began s is still stays moves =
        let low = moves.low in
        let high = moves.high in
        record {
          low = low;
          high = omega (arith, high);
          row = row_more from place moves.row (turns s is true (moves.row place (omega (arith, low, high)) (omega arith)) ∙ stays);
          begins = moves.begins;
          motion = moves.motion;
          alone = λ other later from_low last motion. by_order other later from_low last motion (cases_lt place other);
          stands = moves.stands;
        }
      where
        by_order : (other : ℕ) (later : Item) → from ≤ other → other ≤ suc place → IsMotionAt span other later → (place < other) ⊎ (other ≤ place) → other ≡ of
        by_order other later from_low last motion (inl past) =
            let same : other ≡ suc place = omega (arith, past, last) in
            absurd (no_motion_there s is still later (subst (λ (n : ℕ). IsMotionAt span n later) same motion))
        by_order other later from_low last motion (inr upto) = moves.alone other later from_low upto motion

    moves_next : (at : ℕ → ℤ) → at ≡ stand_after_all (take place span.items) span.at → seen span.zone item ≡ Moves → is_on_at span (suc place) ≡ true
        → MovingRow (suc place) (suc place) (suc place) item at
    moves_next at stands is on = record {
      low = omega arith;
      high = omega arith;
      row = row_one (suc place) on;
      begins = inr refl;
      motion = motion_at place item there is;
      alone = λ other later low high motion. omega (arith, low, high);
      stands = stands_there at stands;
    }

    -- the boxes that end before the item's place, and those to come
    walk_step : (o : Opened) (s : ZoneEffect) (at : ℕ → ℤ) (items : List Item) → seen span.zone item ≡ s → at ≡ stand_after_all (take place span.items) span.at → IsOpenAt place o
        → ((o' : Opened) → IsOpenAt (suc place) o' → All (IsPartBox span) (walk span.zone (suc place) o' (stand_after item at) items))
        → All (IsPartBox span) (closed_before place o s ++ walk span.zone (suc place) (next_open (suc place) at item o s) (stand_after item at) items)
    unfolding is_motion
    walk_step Shut Nothing at items is stands opened later = later Shut (turns Nothing is false opened)
    walk_step Shut (Turns true) at items is stands opened later = later (Waiting (suc place) item.line at) (waits_first at stands is opened)
    walk_step Shut (Turns false) at items is stands opened later = later Shut (turns (Turns false) is false opened)
    walk_step Shut Moves at items is stands opened later = later Shut (turns Moves is false opened)
    walk_step (Waiting from line began) Nothing at items is stands opened later = later (Waiting from line began) (waits_on from line began Nothing is refl refl opened)
    walk_step (Waiting from line began) (Turns true) at items is stands opened later = later (Waiting from line began) (waits_on from line began (Turns true) is refl refl opened)
    walk_step (Waiting from line began) (Turns false) at items is stands opened later =
        let off : is_on_at span (suc place) ≡ false = turns (Turns false) is true (opened.row place opened.low (omega arith)) in
        All-cons (IsPartBox span) (waiting_box from line place began) (walk span.zone (suc place) Shut (stand_after item at) items) (close_waiting from line place began opened off) (later Shut off)
    walk_step (Waiting from line began) Moves at items is stands opened later = later (Moving from (suc place) item at) (moves_first from line began at stands is opened)
    walk_step (Moving from of before began) Nothing at items is stands opened later = later (Moving from of before began) (moves_on from of before began Nothing is refl refl opened)
    walk_step (Moving from of before began) (Turns true) at items is stands opened later = later (Moving from of before began) (moves_on from of before began (Turns true) is refl refl opened)
    walk_step (Moving from of before began) (Turns false) at items is stands opened later =
        let low = opened.low in
        let high = opened.high in
        let off : is_on_at span (suc place) ≡ false = turns (Turns false) is true (opened.row place (omega (arith, low, high)) (omega arith)) in
        All-cons (IsPartBox span) (moving_box from of place before began) (walk span.zone (suc place) Shut (stand_after item at) items)
        (close_moving from of place before began opened (inl off)) (later Shut off)
    walk_step (Moving from of before began) Moves at items is stands opened later =
        let low = opened.low in
        let high = opened.high in
        let on : is_on_at span (suc place) ≡ true = turns Moves is true (opened.row place (omega (arith, low, high)) (omega arith)) in
        All-cons (IsPartBox span) (moving_box from of place before began) (walk span.zone (suc place) (Moving (suc place) (suc place) item at) (stand_after item at) items)
        (close_moving from of place before began opened (inr (item, motion_at place item there is)))
        (later (Moving (suc place) (suc place) item at) (moves_next at stands is on))

  -- ---- the walk

  walk_parts : (place : ℕ) (o : Opened) (at : ℕ → ℤ) (items : List Item) → drop place span.items ≡ items → at ≡ stand_after_all (take place span.items) span.at → IsOpenAt place o
      → All (IsPartBox span) (walk span.zone place o at items)
  walk_parts place Shut at [] rest stands opened = All-nil (IsPartBox span)
  walk_parts place (Waiting from line began) at [] rest stands opened =
      let few = none_left span.items place rest in
      All-cons (IsPartBox span) (waiting_box from line place began) [] (close_waiting from line place began opened (off_past (suc place) (omega (arith, few)))) (All-nil (IsPartBox span))
  walk_parts place (Moving from of item began) at [] rest stands opened =
      let few = none_left span.items place rest in
      All-cons (IsPartBox span) (moving_box from of place item began) [] (close_moving from of place item began opened (inl (off_past (suc place) (omega (arith, few))))) (All-nil (IsPartBox span))
  walk_parts place o at (item ∷ items) rest stands opened =
      let next = split_next span.items place item items rest in
      walk_step place item next.0 o (seen span.zone item) at items refl stands opened
      (λ o' opened'. walk_parts (suc place) o' (stand_after item at) items next.1 (ap (stand_after item) stands ∙ sym (stand_step span.items place item span.at next.0)) opened')

  boxes_are_shares : All (IsPartBox span) (boxes_in span)
  unfolding boxes_of
  boxes_are_shares = by_on span.on refl
    where
      by_on : (b : Bool) → span.on ≡ b → All (IsPartBox span) (walk span.zone 0 (cond b (Waiting 0 span.line span.at) Shut) span.at span.items)
      by_on true is = walk_parts 0 (Waiting 0 span.line span.at) span.at span.items refl refl (record {
        low = omega arith;
        row = row_one 0 (on_is 0 (omega arith) ∙ is);
        begins = λ k e. absurd (omega (arith, e));
        still = λ k item low high motion. let some = motion.counted in absurd (omega (arith, some, high));
        line_is = refl;
        stands = refl;
      })
      by_on false is = walk_parts 0 Shut span.at span.items refl refl (on_is 0 (omega arith) ∙ is)

pub boxes_share_out_places : (span : ZoneSpan) → ShareOutPlaces span (boxes_in span)
boxes_share_out_places span = record { one = one_holds span; parts = boxes_are_shares span; in_order = boxes_ascend span }

-- ---- stretches

stretch_has_span : (job : JobView) (run : RunView) (zone : ZoneLine) (channel : Option ℕ) (begins : SpanStartView) (last : Option EventId) (entry : ℕ) (items : List Item) → HasItems run.items entry items
    → HasSpan job run zone (stretch_between job zone channel begins last entry items)
stretch_has_span job run zone channel begins last entry items has = record {
  span = record { zone = zone; on = begins.on zone.zone; line = begins.line; at = begins.at; items = items };
  of_zone = refl;
  line = refl;
  items = has;
  boxes = refl;
  shared = boxes_share_out_places (record { zone = zone; on = begins.on zone.zone; line = begins.line; at = begins.at; items = items });
}

zone_shared : (job : JobView) (run : RunView) (occurrences : List OccurrenceView) (zone : ZoneLine) → All (HasSpan job run zone) (stretches_of_zone job run.items occurrences zone)
zone_shared job run occurrences zone =
    each_stretch job run.items occurrences zone (HasSpan job run zone)
    (λ c. All-weaker (λ span. HasItems run.items span.entry span.items) (HoldsOf job zone (HasSpan job run zone) c)
    (λ span has. (
      stretch_has_span job run zone (Some c) span.begins span.last span.entry span.items has,
      λ t free. stretch_has_span job run zone (Some c) span.begins t.last span.entry span.items has,
    ))
    (spans_of job run.items occurrences c) (spans_have_items job run.items occurrences c))
    (all_alike (λ t. HasSpan job run zone (free_stretch job zone t)) (λ t. stretch_has_span job run zone None t.begins t.last (entry_of_beginning t.begins) [] (inl refl)) (tenures_of job occurrences zone))

pub stretches_share_out_places : (job : JobView) (b : Board) (run : RunView) → StretchesShareOutPlaces job b run
stretches_share_out_places job b run =
    each_time job b run (λ time. All (HasSpan job run time.zone) time.stretches) (λ zone. zone_shared job run (occurrences_of b (moves_in run.entries)) zone)
