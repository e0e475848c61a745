-- The zones of a job with their stretches, place by place, and each two of them.
use Rattle.std.proofs.Common.{◌≡◌, ◌∙◌, ℕ, zero, suc, ◌+◌, ◌<◌, ◌≤◌, List, [], ◌∷◌, ◌++◌, Bool, true, false, drop, length, get_or, map, slice_get, Option, None, Some, All, refl, sym, ap, subst, arith}
use Rattle.std.proofs.lemmas.List.Elements.{All-nil, All-cons, All-head, All-tail, All-append}
use Rattle.job_types.specs.Job.{JobView}
use Rattle.job_types.specs.declared.job.ZoneLine.{ZoneLine}
use Rattle.order_clocks.specs.Clocked.{ClocksView, IsOrderOf, moves_in}
use Rattle.order_clocks.specs.Tells.{is_before_in}
use Rattle.sync_types.specs.Boards.{Board, first_board}
use Rattle.sync_types.specs.Turns.{Move}
use Rattle.sync_types.specs.Views.{RunView}
use Rattle.zone_stretches.proofs.NameLaws.{ends_are_lowest_names}
use Rattle.zone_stretches.specs.Ascents.{AreAscents, is_chain}
use Rattle.zone_stretches.specs.Overlaps.{Order, ZoneTime, zone_times}
use Rattle.zone_stretches.specs.SoundStretches.{HasLowNames, HaveLowNames}
use Rattle.zone_stretches.specs.Stretches.{StretchView, StretchesView}
use Rattle.zone_stretches.specs.TimedZones.{TimedZoneView, AreTimed, IsMarked, each_two, pairs_left, timed_from, two_from}
use Rattle.zone_stretches.specs.Times.{times_in}
use Rattle.zone_stretches.specs.Told.{IsTold}

-- ---- the zones, one by one

pub zone_at_place : (zones : List ZoneLine) (lists : List (List StretchView)) (marks : List Bool) (from place at : ℕ) (zone : ZoneLine) → at ≡ from + place → place < length lists
    → slice_get zones place ≡ Some zone
    → slice_get (timed_from zones lists marks from) place ≡ Some (record { time = record { zone = zone; stretches = get_or lists place [] }; ascends = get_or marks at false })
zone_at_place [] lists marks from place at zone at_is within found = absurd cc
zone_at_place (z ∷ zones) [] marks from place at zone at_is within found = absurd (omega arith)
zone_at_place (z ∷ zones) (l ∷ lists) marks from zero at zone at_is within found =
    let same : z ≡ zone = cc in
    let here : at ≡ from = omega arith in
    rw (same, here) refl
zone_at_place (z ∷ zones) (l ∷ lists) marks from (suc place) at zone at_is within found = zone_at_place zones lists marks (suc from) place at zone (omega arith) (omega arith) found

pub no_zone : (zones : List ZoneLine) (lists : List (List StretchView)) (marks : List Bool) (from place : ℕ) → slice_get zones place ≡ None → slice_get (timed_from zones lists marks from) place ≡ None
no_zone [] lists marks from place none = refl
no_zone (z ∷ zones) [] marks from place none = refl
no_zone (z ∷ zones) (l ∷ lists) marks from zero none = absurd cc
no_zone (z ∷ zones) (l ∷ lists) marks from (suc place) none = no_zone zones lists marks (suc from) place none

pub past_zones : (zones : List ZoneLine) (lists : List (List StretchView)) (marks : List Bool) (from place : ℕ) → length lists ≤ place → slice_get (timed_from zones lists marks from) place ≡ None
past_zones [] lists marks from place past = refl
past_zones (z ∷ zones) [] marks from place past = refl
past_zones (z ∷ zones) (l ∷ lists) marks from zero past = absurd (omega arith)
past_zones (z ∷ zones) (l ∷ lists) marks from (suc place) past = past_zones zones lists marks (suc from) place (omega arith)

-- they are the zones with their stretches
pub times_are : (zones : List ZoneLine) (lists : List (List StretchView)) (marks : List Bool) (from : ℕ) → map (λ (zone : TimedZoneView). zone.time) (timed_from zones lists marks from) ≡ times_in zones lists
times_are [] lists marks from = refl
times_are (z ∷ zones) [] marks from = refl
times_are (z ∷ zones) (l ∷ lists) marks from = ap (λ (times : List ZoneTime). record { zone = z; stretches = l } ∷ times) (times_are zones lists marks (suc from))

-- each is marked only where it ascends
marked_from : (before : Order) (zones : List ZoneLine) (lists : List (List StretchView)) (marks : List Bool) (from : ℕ)
    → ((place at : ℕ) → at ≡ from + place → get_or marks at false ≡ true → is_chain before (get_or lists place []) ≡ true) → All (IsMarked before) (timed_from zones lists marks from)
marked_from before [] lists marks from ascend = All-nil (IsMarked before)
marked_from before (z ∷ zones) [] marks from ascend = All-nil (IsMarked before)
marked_from before (z ∷ zones) (l ∷ lists) marks from ascend =
    All-cons (IsMarked before) (record { time = record { zone = z; stretches = l }; ascends = get_or marks from false }) (timed_from zones lists marks (suc from)) (ascend 0 from (omega arith))
    (marked_from before zones lists marks (suc from) (λ place at is. ascend (suc place) at (omega (arith, is))))

pub all_marked : (before : Order) (zones : List ZoneLine) (lists : List (List StretchView)) (marks : List Bool) → AreAscents before lists marks → All (IsMarked before) (timed_from zones lists marks 0)
all_marked before zones lists marks ascents =
    marked_from before zones lists marks 0
    (λ place at is on. let same : at ≡ place = omega (arith, is) in ascents place (subst (λ (k : ℕ). get_or marks k false ≡ true) same on))

-- ---- each two may be compared

module _ (before : Order) (board : Board) (moves : List Move) (order : IsOrderOf board moves before) where
  abbrev IsLow : TimedZoneView → Type 0
  IsLow zone = All (HasLowNames board moves) zone.time.stretches

  abbrev Low : List StretchView → Type 0
  Low stretches = All (HasLowNames board moves) stretches

  two_timed : (one two : TimedZoneView) → IsLow one → IsLow two → IsMarked before one → IsMarked before two → AreTimed before (one, two)
  two_timed one two low_one low_two left right = record {
    timed = record {
      board = board;
      moves = moves;
      order = order;
      names = All-cons Low one.time.stretches (two.time.stretches ∷ []) low_one (All-cons Low two.time.stretches [] low_two (All-nil Low));
    };
    left = left;
    right = right;
  }

  with_others : (one : TimedZoneView) (others : List TimedZoneView) → IsLow one → IsMarked before one → All IsLow others → All (IsMarked before) others
      → All (AreTimed before) (map (λ other. (one, other)) others)
  with_others one [] low left lows rights = All-nil (AreTimed before)
  with_others one (two ∷ others) low left lows rights =
      All-cons (AreTimed before) (one, two) (map (λ other. (one, other)) others)
      (two_timed one two low (All-head IsLow two others lows) left (All-head (IsMarked before) two others rights))
      (with_others one others low left (All-tail IsLow two others lows) (All-tail (IsMarked before) two others rights))

  each_two_timed : (zones : List TimedZoneView) → All IsLow zones → All (IsMarked before) zones → All (AreTimed before) (each_two zones)
  each_two_timed [] lows marks = All-nil (AreTimed before)
  each_two_timed (one ∷ others) lows marks =
      All-append (AreTimed before) (map (λ other. (one, other)) others) (each_two others)
      (with_others one others (All-head IsLow one others lows) (All-head (IsMarked before) one others marks) (All-tail IsLow one others lows) (All-tail (IsMarked before) one others marks))
      (each_two_timed others (All-tail IsLow one others lows) (All-tail (IsMarked before) one others marks))

  low_zones : (zones : List TimedZoneView) → All (λ (time : ZoneTime). All (HasLowNames board moves) time.stretches) (map (λ (zone : TimedZoneView). zone.time) zones) → All IsLow zones
  low_zones [] lows = All-nil IsLow
  low_zones (one ∷ others) lows =
      All-cons IsLow one others
      (All-head (λ (time : ZoneTime). All (HasLowNames board moves) time.stretches) one.time (map (λ (zone : TimedZoneView). zone.time) others) lows)
      (low_zones others (All-tail (λ (time : ZoneTime). All (HasLowNames board moves) time.stretches) one.time (map (λ (zone : TimedZoneView). zone.time) others) lows))

pub zones_timed : (job : JobView) (run : RunView) (stretches : StretchesView) (clocks : ClocksView) (zones : List TimedZoneView) → IsTold job run stretches clocks
    → map (λ (zone : TimedZoneView). zone.time) zones ≡ zone_times job stretches → All (IsMarked (is_before_in clocks.rows)) zones → All (AreTimed (is_before_in clocks.rows)) (each_two zones)
zones_timed job run stretches clocks zones told times marks =
    let board : Board = first_board told.start in
    let low : HaveLowNames job board (moves_in run.entries) stretches =
    subst (λ (s : StretchesView). HaveLowNames job board (moves_in run.entries) s) (sym told.told) (ends_are_lowest_names job board run) in
    each_two_timed (is_before_in clocks.rows) board (moves_in run.entries) told.order zones
    (low_zones (is_before_in clocks.rows) board (moves_in run.entries) told.order zones
    (subst (λ (ts : List ZoneTime). All (λ (time : ZoneTime). All (HasLowNames board (moves_in run.entries)) time.stretches) ts) (sym times) low)) marks

-- ---- each two, one after another

module _ {X : Type 0} where
  -- what is left from a place on, where there is something, and where there is nothing
  some_left : (xs : List X) (i : ℕ) (x : X) → slice_get xs i ≡ Some x → drop i xs ≡ x ∷ drop (suc i) xs
  some_left [] i x found = absurd cc
  some_left (y ∷ ys) zero x found = let same : y ≡ x = cc in rw same refl
  some_left (y ∷ ys) (suc i) x found = some_left ys i x found

  none_left : (xs : List X) (i : ℕ) → slice_get xs i ≡ None → drop i xs ≡ []
  none_left [] zero none = refl
  none_left [] (suc i) none = refl
  none_left (x ∷ xs) zero none = absurd cc
  none_left (x ∷ xs) (suc i) none = none_left xs i none

  pub from_start : (xs : List X) → pairs_left xs 0 1 ≡ each_two xs
  from_start [] = refl
  from_start (x ∷ xs) = refl

  pub no_left : (xs : List X) (left right : ℕ) → slice_get xs left ≡ None → pairs_left xs left right ≡ []
  no_left xs left right none = ap (λ (x : Option X). two_from x (drop right xs) (drop (suc left) xs)) none

  -- the two of these places, and those that are left after them
  pub two_more : (xs : List X) (left right next : ℕ) (x y : X) → next ≡ right + 1 → slice_get xs left ≡ Some x → slice_get xs right ≡ Some y
      → pairs_left xs left right ≡ (x, y) ∷ pairs_left xs left next
  two_more xs left right next x y next_is is_x is_y =
      let on : next ≡ suc right = omega (arith, next_is) in
      rw (on, is_x, some_left xs right y is_y) refl

  -- none is left for the first, so those come of the elements after it
  after_first : (xs : List X) (left right : ℕ) (x : X) → slice_get xs left ≡ Some x → slice_get xs right ≡ None → pairs_left xs left right ≡ each_two (drop (suc left) xs)
  after_first xs left right x is_x none = rw (is_x, none_left xs right none) refl

  pub no_second : (xs : List X) (left right next : ℕ) (x : X) → next ≡ left + 1 → slice_get xs left ≡ Some x → slice_get xs right ≡ None → slice_get xs next ≡ None → pairs_left xs left right ≡ []
  no_second xs left right next x next_is is_x none end =
      let on : next ≡ suc left = omega (arith, next_is) in
      after_first xs left right x is_x none ∙ ap (λ (k : ℕ). each_two (drop k xs)) (sym on) ∙ ap each_two (none_left xs next end)

  pub no_third : (xs : List X) (left right next last : ℕ) (x y : X) → next ≡ left + 1 → last ≡ left + 2 → slice_get xs left ≡ Some x → slice_get xs right ≡ None
      → slice_get xs next ≡ Some y → slice_get xs last ≡ None → pairs_left xs left right ≡ []
  no_third xs left right next last x y next_is last_is is_x none is_y end =
      let on : next ≡ suc left = omega (arith, next_is) in
      let past : last ≡ suc next = omega (arith, next_is, last_is) in
      after_first xs left right x is_x none ∙ ap (λ (k : ℕ). each_two (drop k xs)) (sym on) ∙ ap each_two (some_left xs next y is_y)
      ∙ ap (λ (k : ℕ). each_two (y ∷ drop k xs)) (sym past) ∙ ap (λ (rest : List X). each_two (y ∷ rest)) (none_left xs last end)

  pub next_two : (xs : List X) (left right next last after : ℕ) (x y z : X) → next ≡ left + 1 → last ≡ left + 2 → after ≡ next + 2 → slice_get xs left ≡ Some x → slice_get xs right ≡ None
      → slice_get xs next ≡ Some y → slice_get xs last ≡ Some z → pairs_left xs left right ≡ (y, z) ∷ pairs_left xs next after
  next_two xs left right next last after x y z next_is last_is after_is is_x none is_y is_z =
      let on : next ≡ suc left = omega (arith, next_is) in
      let past : last ≡ suc next = omega (arith, next_is, last_is) in
      let beyond : after ≡ suc last = omega (arith, next_is, last_is, after_is) in
      let rest : drop (suc next) xs ≡ z ∷ drop after xs = ap (λ (k : ℕ). drop k xs) (sym past) ∙ some_left xs last z is_z ∙ ap (λ (k : ℕ). z ∷ drop k xs) (sym beyond) in
      after_first xs left right x is_x none ∙ ap (λ (k : ℕ). each_two (drop k xs)) (sym on) ∙ ap each_two (some_left xs next y is_y)
      ∙ ap (λ (ys : List X). each_two (y ∷ ys)) rest
      ∙ ap (λ (ys : List X). (y, z) ∷ (map (λ other. (y, other)) (drop after xs) ++ each_two ys)) (sym rest)
      ∙ ap (λ (o : Option X). (y, z) ∷ two_from o (drop after xs) (drop (suc next) xs)) (sym is_y)
