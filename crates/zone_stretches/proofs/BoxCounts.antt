-- How many boxes zones have, and how many pairs are compared.
use Rattle.std.proofs.Common.{◌≡◌, ◌∙◌, ℕ, zero, suc, ℤ, ◌+◌, ◌-◌, ◌*◌, ◌^◌, ◌<◌, ◌≤◌, ◌==◌, not, Bool, true, false, cond, List, [], ◌∷◌, ◌++◌, map, length, length-append, take, drop, filter, find, Option, None, Some, All, refl, sym, ap, subst, arith}
use Rattle.std.specs.Prelude.{slice_index_or}
use Rattle.std.specs.List.{cons_option, filter_map, flat_map, range_with_len, sum_by, zip}
use Rattle.std.proofs.Math.Nat.{mul-le-mul}
use Rattle.std.proofs.lemmas.List.{drop-map, take-map, length-map}
use Rattle.std.proofs.lemmas.List.Elements.{All-nil, All-cons, All-head, All-tail, All-append, All-map}
use Rattle.std.proofs.lemmas.List.Sums.{sum_by-cons, sum_by-append}
use mathlib.Core.Path.{fun_ext}
use Rattle.axis_sets.specs.declared.limits.TheConstants.{CHANNEL_LIMIT, CHANNEL_PLACES, ZONE_LIMIT}
use Rattle.job_types.specs.Job.{JobView}
use Rattle.job_types.specs.Zones.{zones_in_order}
use Rattle.job_types.specs.declared.job.ZoneLine.{ZoneLine}
use Rattle.order_clocks.specs.Clocked.{moves_in}
use Rattle.sync_types.specs.Boards.{Board, first_board}
use Rattle.sync_types.specs.GoingOn.{Going, go_of}
use Rattle.sync_types.specs.Turns.{AreEntries, after_step, goings_in_step}
use Rattle.sync_types.specs.Views.{EntryView, RunView, StartView}
use Rattle.sync_types.specs.declared.Item.{Item}
use Rattle.sync_types.specs.declared.runs.EventId.{EventId}
use Rattle.zone_stretches.proofs.CostLaws.{cost, cost_of_all, events_cost, tenure_cost, tenures_cost, weights, weights_are, weights_between}
use Rattle.zone_stretches.proofs.StretchLaws.{each_time}
use Rattle.zone_stretches.specs.Occurrences.{OccurrenceView, going_on_of, occurrences_from, occurrences_of}
use Rattle.zone_stretches.specs.Overlaps.{Order, Pair, ZoneTime, are_compared, box_pairs, compared_pairs, may_overlap, pairs_by_group, pairs_of_zones, stretch_pairs, zone_times}
use Rattle.zone_stretches.specs.SoundStretches.{BOX_LIMIT, BoxesAreFew, PairsAreFew, box_count}
use Rattle.zone_stretches.specs.Spans.{SpanStartView, Span, first_beginning, spans_of}
use Rattle.zone_stretches.specs.Stretches.{StretchView, StretchesView, all_stretches, free_stretch, spans_between, spans_in, spans_until, stretch_between, stretch_of_span, stretches_held_by, stretches_in_tenure, stretches_of_zone}
use Rattle.zone_stretches.specs.Tenures.{TenureView, first_tenure, tenures_of}
use Rattle.zone_stretches.specs.ZoneBoxes.{boxes_of, closed, closed_before, next_open, seen, shown_box, stand_after, walk, Opened, Shut, Waiting, Moving}
use Rattle.zone_stretches.specs.declared.sights.ZoneEffect.{ZoneEffect}
use Rattle.zone_stretches.specs.declared.sights.ZoneEffect.TheVariants.{Nothing, Turns, Moves}

-- ---- a span

closed_few : (to : ℕ) (o : Opened) → length (closed to o) ≤ 1
closed_few to Shut = omega arith
closed_few to (Waiting from line at) = omega arith
closed_few to (Moving from place item at) = omega arith

before_few : (to : ℕ) (o : Opened) (s : ZoneEffect) → length (closed_before to o s) ≤ 1
before_few to Shut Nothing = omega arith
before_few to Shut (Turns true) = omega arith
before_few to Shut (Turns false) = omega arith
before_few to Shut Moves = omega arith
before_few to (Waiting from line at) Nothing = omega arith
before_few to (Waiting from line at) (Turns true) = omega arith
before_few to (Waiting from line at) (Turns false) = omega arith
before_few to (Waiting from line at) Moves = omega arith
before_few to (Moving from place item at) Nothing = omega arith
before_few to (Moving from place item at) (Turns true) = omega arith
before_few to (Moving from place item at) (Turns false) = omega arith
before_few to (Moving from place item at) Moves = omega arith

walk_few : (zone : ZoneLine) (place : ℕ) (o : Opened) (at : ℕ → ℤ) (items : List Item) → length (walk zone place o at items) ≤ suc (length items)
walk_few zone place o at [] = closed_few place o
walk_few zone place o at (item ∷ items) =
    omega (
      arith,
      length-append (closed_before place o (seen zone item)) (walk zone (suc place) (next_open (suc place) at item o (seen zone item)) (stand_after item at) items),
      before_few place o (seen zone item),
      walk_few zone (suc place) (next_open (suc place) at item o (seen zone item)) (stand_after item at) items,
    )

boxes_few : (zone : ZoneLine) (on : Bool) (line : ℕ) (at : ℕ → ℤ) (items : List Item) → length (boxes_of zone on line at items) ≤ suc (length items)
unfolding boxes_of
boxes_few zone true line at items = walk_few zone 0 (Waiting 0 line at) at items
boxes_few zone false line at items = walk_few zone 0 Shut at items

stretch_few : (job : JobView) (zone : ZoneLine) (channel : Option ℕ) (begins : SpanStartView) (last : Option EventId) (entry : ℕ) (items : List Item)
    → length (stretch_between job zone channel begins last entry items).boxes ≤ suc (length items)
stretch_few job zone channel begins last entry items =
    omega (
      arith,
      length-map (boxes_of zone (begins.on zone.zone) begins.line begins.at items) (shown_box job.margin zone),
      boxes_few zone (begins.on zone.zone) begins.line begins.at items,
    )

-- ---- the stretches of a zone

spans_few : (job : JobView) (zone : ZoneLine) (c : ℕ) (spans : List Span) → box_count (map (stretch_of_span job zone c) spans) ≤ cost (map (λ span. length span.items) spans)
spans_few job zone c [] = omega arith
spans_few job zone c (span ∷ spans) =
    omega (
      arith,
      sum_by-cons (λ stretch. length stretch.boxes) (stretch_of_span job zone c span) (map (stretch_of_span job zone c) spans),
      stretch_few job zone (Some c) span.begins span.last span.entry span.items,
      spans_few job zone c spans,
    )

between_alike : (spans : List Span) (from : ℕ) (upto : Option ℕ) → map (λ span. length span.items) (spans_between spans from upto) ≡ weights_between (map (λ span. length span.items) spans) from upto
between_alike spans from None = sym (drop-map (λ span. length span.items) from spans)
between_alike spans from (Some upto) =
    sym (take-map (λ span. length span.items) (suc upto - from) (drop from spans)) ∙ ap (take (suc upto - from)) (sym (drop-map (λ span. length span.items) from spans))

-- where a span ends does not change what is done in it
until_alike : (last : Option EventId) (spans : List Span) → map (λ span. length span.items) (spans_until last spans) ≡ map (λ span. length span.items) spans
until_alike last [] = refl
until_alike last (span ∷ []) = refl
until_alike last (span ∷ next ∷ spans) = ap (λ (ws : List ℕ). length span.items ∷ ws) (until_alike last (next ∷ spans))

held_few : (job : JobView) (zone : ZoneLine) (spans : ℕ → List Span) (t : TenureView) (owner : Option ℕ)
    → box_count (stretches_held_by job zone spans t owner) ≤ tenure_cost (λ c. map (λ span. length span.items) (spans c)) t owner
held_few job zone spans t None =
    omega (arith, sum_by-cons (λ stretch. length stretch.boxes) (free_stretch job zone t) [], stretch_few job zone None t.begins t.last (free_stretch job zone t).entry [])
held_few job zone spans t (Some c) =
    subst (λ (ws : List ℕ). box_count (map (stretch_of_span job zone c) (spans_in (spans c) t)) ≤ cost ws)
    (until_alike t.last (spans_between (spans c) t.from t.upto) ∙ between_alike (spans c) t.from t.upto)
    (spans_few job zone c (spans_in (spans c) t))

all_held_few : (job : JobView) (zone : ZoneLine) (spans : ℕ → List Span) (ts : List TenureView)
    → box_count (flat_map (stretches_in_tenure job zone spans) ts) ≤ cost_of_all (λ c. map (λ span. length span.items) (spans c)) ts
all_held_few job zone spans [] = omega arith
all_held_few job zone spans (t ∷ ts) =
    omega (
      arith,
      sum_by-append (λ stretch. length stretch.boxes) (stretches_in_tenure job zone spans t) (flat_map (stretches_in_tenure job zone spans) ts),
      held_few job zone spans t t.owner,
      all_held_few job zone spans ts,
    )

zone_few : (job : JobView) (items : List (List Item)) (occurrences : List OccurrenceView) (zone : ZoneLine)
    → box_count (stretches_of_zone job items occurrences zone) ≤ events_cost items occurrences + suc (length occurrences)
unfolding stretches_of_zone spans_of tenures_of
zone_few job items occurrences zone =
    let alike : (λ c. map (λ span. length span.items) (spans_of job items occurrences c)) ≡ (λ c. weights items c occurrences) = fun_ext (λ c. weights_are items c (first_beginning job c) occurrences) in
    omega (
      arith,
      all_held_few job zone (spans_of job items occurrences) (tenures_of job occurrences zone),
      ap (λ (ws : ℕ → List ℕ). cost_of_all ws (tenures_of job occurrences zone)) alike,
      tenures_cost items zone (first_tenure job zone) occurrences refl refl,
    )

-- ---- the events of a run

going_cost : (items : List (List Item)) (i : ℕ) (all goings : List Going) → events_cost items (map (going_on_of i all) goings) ≡ length goings
going_cost items i all [] = refl
going_cost items i all (g ∷ goings) = omega (arith, going_cost items i all goings)

cost-append : (items : List (List Item)) (os ps : List OccurrenceView) → events_cost items (os ++ ps) ≡ events_cost items os + events_cost items ps
cost-append items [] ps = omega arith
cost-append items (o ∷ os) ps = omega (arith, cost-append items os ps)

-- the items from an entry on
rest_of_items : (items : List (List Item)) (i : ℕ) → length (slice_index_or items i []) + sum_by length (drop (suc i) items) ≤ sum_by length (drop i items)
rest_of_items [] zero = omega arith
rest_of_items [] (suc i) = omega arith
rest_of_items (x ∷ xs) zero = omega (arith, sum_by-cons length x xs)
rest_of_items (x ∷ xs) (suc i) = rest_of_items xs i

-- how many events and items the steps from a place on have
record AreFewFrom (items : List (List Item)) (i : ℕ) (es : List EntryView) (os : List OccurrenceView) : Type 0 where
  events : length os ≤ CHANNEL_PLACES * length es
  cost : events_cost items os ≤ CHANNEL_PLACES * length es + sum_by length (drop i items)

events_few : (items : List (List Item)) (es : List EntryView) (b : Board) (i : ℕ) → AreEntries b es → All (λ e. length e.goes ≤ CHANNEL_LIMIT) es
    → AreFewFrom items i es (occurrences_from b i (moves_in es))
events_few items [] b i are few = record { events = omega arith; cost = omega arith }
events_few items (e ∷ es) b i are few =
    let rest = events_few items es (after_step b e.channel e.step) (suc i) are.2 (All-tail (λ e. length e.goes ≤ CHANNEL_LIMIT) e es few) in
    let goings : List Going = goings_in_step b e.channel e.step in
    let same : length e.goes ≡ length goings = ap (λ (x : EntryView). length x.goes) are.1 ∙ length-map goings go_of in
    let here : length e.goes ≤ CHANNEL_LIMIT = All-head (λ e. length e.goes ≤ CHANNEL_LIMIT) e es few in
    let later : List OccurrenceView = occurrences_from (after_step b e.channel e.step) (suc i) (moves_in es) in
    let now : List OccurrenceView = map (going_on_of i goings) goings in
    record {
      events = omega (arith, rest.events, same, here, length-append now later, length-map goings (going_on_of i goings));
      cost = omega (arith, rest.cost, same, here, cost-append items now later, going_cost items i goings goings, rest_of_items items i);
    }

pub boxes_are_few : (job : JobView) (start : StartView) (run : RunView) → BoxesAreFew job start run
unfolding occurrences_of
boxes_are_few job start run size comes =
    each_time job (first_board start) run (λ time. box_count time.stretches < BOX_LIMIT)
    (λ zone.
    let few = events_few run.items run.entries (first_board start) 0 comes.entries size.goes in
    omega (arith, zone_few job run.items (occurrences_of (first_board start) (moves_in run.entries)) zone, few.events, few.cost, size.entries, size.items))

-- ---- pairs

filter_few : {A : Type 0} (test : A → Bool) (xs : List A) → length (filter test xs) ≤ length xs
filter_few test [] = omega arith
filter_few test (x ∷ xs) = by_test (test x) (filter_few test xs)
  where
    by_test : (b : Bool) → length (filter test xs) ≤ length xs → length (cond b (x ∷ filter test xs) (filter test xs)) ≤ suc (length xs)
    by_test true rest = omega (arith, rest)
    by_test false rest = omega (arith, rest)

-- as many as each may give, together
flat_few : {A C : Type 0} (f : A → List C) (g : A → ℕ) (m : ℕ) → ((x : A) → length (f x) ≤ g x * m) → (xs : List A) → length (flat_map f xs) ≤ sum_by g xs * m
flat_few f g m each [] = omega arith
flat_few f g m each (x ∷ xs) =
    omega (arith, length-append (f x) (flat_map f xs), each x, flat_few f g m each xs, ap (λ (n : ℕ). n * m) (sum_by-cons g x xs))

box_pairs_few : (zone other : ZoneLine) (left right : StretchView) → length (box_pairs zone left other right) ≤ length left.boxes * length right.boxes
box_pairs_few zone other left right =
    subst (λ (n : ℕ). length (box_pairs zone left other right) ≤ n * length right.boxes) (ones left.boxes)
    (flat_few (λ own. map (λ later. (record { zone = zone; stretch = left; box = own }, record { zone = other; stretch = right; box = later })) (filter (are_compared left right own) right.boxes))
    (λ own. 1) (length right.boxes)
    (λ own. omega (
      arith,
      length-map {B = Pair} (filter (are_compared left right own) right.boxes) (λ later. (record { zone = zone; stretch = left; box = own }, record { zone = other; stretch = right; box = later })),
      filter_few (are_compared left right own) right.boxes,
    )) left.boxes)
  where
    ones : {A : Type 0} (xs : List A) → sum_by (λ x. 1) xs ≡ length xs
    ones [] = refl
    ones (x ∷ xs) = omega (arith, sum_by-cons (λ y. 1) x xs, ones xs)

stretch_pairs_few : (before : Order) (zone other : ZoneLine) (left right : StretchView) → length (stretch_pairs before zone left other right) ≤ length left.boxes * length right.boxes
stretch_pairs_few before zone other left right = by_test (may_overlap before left right) (box_pairs_few zone other left right)
  where
    by_test : (b : Bool) → length (box_pairs zone left other right) ≤ length left.boxes * length right.boxes
        → length (cond b (box_pairs zone left other right) []) ≤ length left.boxes * length right.boxes
    by_test true few = few
    by_test false few = omega arith

-- two zones have at most the product of their boxes
pub zone_pairs_few : (before : Order) (one two : ZoneTime) → length (pairs_of_zones before one two) ≤ box_count one.stretches * box_count two.stretches
unfolding pairs_of_zones
zone_pairs_few before one two =
    flat_few (λ left. flat_map (λ right. stretch_pairs before one.zone left two.zone right) two.stretches) (λ left. length left.boxes) (box_count two.stretches)
    (λ left. with_left left) one.stretches
  where
    turned : (a b : ℕ) → a * b ≡ b * a
    turned a b = omega arith

    with_left : (left : StretchView) → length (flat_map (λ right. stretch_pairs before one.zone left two.zone right) two.stretches) ≤ length left.boxes * box_count two.stretches
    with_left left =
        omega (
          arith,
          flat_few (λ right. stretch_pairs before one.zone left two.zone right) (λ right. length right.boxes) (length left.boxes)
              (λ right. omega (arith, stretch_pairs_few before one.zone two.zone left right, turned (length left.boxes) (length right.boxes))) two.stretches,
          turned (length left.boxes) (box_count two.stretches),
        )

-- what holds of each zone holds of both of a pair
pub each_pair : (P : ZoneTime → Type 0) (times : List ZoneTime) → All P times → All (λ pair. P pair.0 × P pair.1) (pairs_by_group times)
each_pair P [] all = All-nil (λ pair. P pair.0 × P pair.1)
each_pair P (one ∷ others) all =
    All-append (λ pair. P pair.0 × P pair.1) (map (λ two. (one, two)) (filter (λ two. not (one.zone.group == two.zone.group)) others)) (pairs_by_group others)
    (All-map (λ pair. P pair.0 × P pair.1) (λ two. (one, two)) (filter (λ two. not (one.zone.group == two.zone.group)) others)
    (kept others (All-tail P one others all)))
    (each_pair P others (All-tail P one others all))
  where
    kept : (twos : List ZoneTime) → All P twos → All (λ two. P one × P two) (filter (λ two. not (one.zone.group == two.zone.group)) twos)
    kept [] all' = All-nil (λ two. P one × P two)
    kept (two ∷ twos) all' = by_test (not (one.zone.group == two.zone.group)) (kept twos (All-tail P two twos all'))
      where
        by_test : (b : Bool) → All (λ two. P one × P two) (filter (λ two. not (one.zone.group == two.zone.group)) twos)
            → All (λ two. P one × P two) (cond b (two ∷ filter (λ two. not (one.zone.group == two.zone.group)) twos) (filter (λ two. not (one.zone.group == two.zone.group)) twos))
        by_test true rest = All-cons (λ two. P one × P two) two _ (All-head P one others all, All-head P two twos all') rest
        by_test false rest = rest

group_few : (times : List ZoneTime) → length (pairs_by_group times) ≤ length times * length times
group_few [] = omega arith
group_few (one ∷ others) =
    let some : List ZoneTime = filter (λ two. not (one.zone.group == two.zone.group)) others in
    omega (
      arith,
      length-append (map (λ two. (one, two)) some) (pairs_by_group others),
      length-map {B = ZoneTime × ZoneTime} some (λ two. (one, two)),
      filter_few (λ two. not (one.zone.group == two.zone.group)) others,
      group_few others,
    )

-- the zones of a job
found_few : {A C : Type 0} (f : A → Option C) (xs : List A) → length (filter_map f xs) ≤ length xs
found_few f [] = omega arith
found_few {C = C} f (x ∷ xs) = by_found (f x) (found_few f xs)
  where
    by_found : (o : Option C) → length (filter_map f xs) ≤ length xs → length (cons_option o (filter_map f xs)) ≤ suc (length xs)
    by_found None rest = omega (arith, rest)
    by_found (Some y) rest = omega (arith, rest)

zip_few : {A C : Type 0} (xs : List A) (ys : List C) → length (zip xs ys) ≤ length xs
zip_few [] ys = omega arith
zip_few (x ∷ xs) [] = omega arith
zip_few (x ∷ xs) (y ∷ ys) = omega (arith, zip_few xs ys)

times_few : (job : JobView) (stretches : StretchesView) → length (zone_times job stretches) ≤ ZONE_LIMIT
unfolding zone_times zones_in_order
times_few job stretches =
    omega (
      arith,
      length-map {B = ZoneTime} (zip (zones_in_order job) stretches.zones) (λ p. record { zone = p.0; stretches = p.1 }),
      zip_few (zones_in_order job) stretches.zones,
      found_few (λ number. find (λ zone. zone.zone == number) job.zones) (range_with_len 1 ZONE_LIMIT),
    )

-- pairs of few each are few
pub pairs_few : (before : Order) (pairs : List (ZoneTime × ZoneTime)) → All (λ pair. (box_count pair.0.stretches < BOX_LIMIT) × (box_count pair.1.stretches < BOX_LIMIT)) pairs
    → length (flat_map (λ pair. pairs_of_zones before pair.0 pair.1) pairs) ≤ length pairs * 2 ^ 50
pairs_few before [] all = omega arith
pairs_few before (pair ∷ pairs) all =
    let here = All-head (λ pair. (box_count pair.0.stretches < BOX_LIMIT) × (box_count pair.1.stretches < BOX_LIMIT)) pair pairs all in
    omega (
      arith,
      length-append (pairs_of_zones before pair.0 pair.1) (flat_map (λ pair. pairs_of_zones before pair.0 pair.1) pairs),
      zone_pairs_few before pair.0 pair.1,
      product (box_count pair.0.stretches) (box_count pair.1.stretches) here.0 here.1,
      pairs_few before pairs (All-tail (λ pair. (box_count pair.0.stretches < BOX_LIMIT) × (box_count pair.1.stretches < BOX_LIMIT)) pair pairs all),
    )
  where
    product : (a b : ℕ) → a < 2 ^ 25 → b < 2 ^ 25 → a * b ≤ 2 ^ 50
    product a b one two =
        let left : a ≤ 2 ^ 25 = omega (arith, one) in
        let right : b ≤ 2 ^ 25 = omega (arith, two) in
        omega (arith, mul-le-mul left right)

pub pairs_are_few : (before : Order) (job : JobView) (start : StartView) (run : RunView) → PairsAreFew before job start run
unfolding compared_pairs
pairs_are_few before job start run size comes =
    let times : List ZoneTime = zone_times job (all_stretches job (first_board start) run) in
    omega (
      arith,
      pairs_few before (pairs_by_group times) (each_pair (λ time. box_count time.stretches < BOX_LIMIT) times (boxes_are_few job start run size comes)),
      group_few times,
      squared (length times) (times_few job (all_stretches job (first_board start) run)),
    )
  where
    squared : (n : ℕ) → n ≤ ZONE_LIMIT → n * n ≤ 1024
    squared n few = omega (arith, mul-le-mul few few)
