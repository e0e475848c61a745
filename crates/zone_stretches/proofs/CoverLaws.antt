-- The cover of each box is that of the motion of its place.
use Rattle.std.proofs.Common.{◌≡◌, ◌⊎◌, ◌∙◌, inl, inr, ℕ, zero, suc, ℤ, ◌+◌, ◌-◌, ◌<◌, ◌==◌, Bool, true, false, cond, List, [], ◌∷◌, slice_get, slice_index_or, Option, None, Some, All, zero-add, refl, ap, arith}
use Rattle.std.specs.Prelude.{⊤}
use Rattle.std.specs.Option.{option_map}
use Rattle.std.proofs.lemmas.List.Elements.{All-nil, All-cons, All-append, All-map, All-weaker}
use Rattle.job_types.specs.Job.{JobView}
use Rattle.job_types.specs.declared.job.ZoneLine.{ZoneLine}
use Rattle.zone_stretches.proofs.StretchLaws.{HoldsOf, each_stretch, each_time}
use Rattle.zone_stretches.specs.Occurrences.{OccurrenceView, occurrences_of}
use Rattle.zone_stretches.specs.SoundStretches.{IsCoverBy, HasCover, BoxesHaveCovers}
use Rattle.zone_stretches.specs.Spans.{SpanStartView, beginning_after, entry_of_beginning, first_beginning, span_to_end, span_until, spans_from, spans_of}
use Rattle.zone_stretches.specs.Stretches.{stretch_between, free_stretch, stretches_of_zone}
use Rattle.zone_stretches.specs.Tenures.{tenures_of}
use Rattle.zone_stretches.specs.ZoneBoxes.{IsFit, stand_after, sight_of, seen, PlaceBox, Opened, Shut, Waiting, Moving, closed, closed_before, next_open, walk, boxes_of, cover_during, shown_box}
use Rattle.zone_stretches.specs.declared.sights.ZoneEffect.{ZoneEffect}
use Rattle.zone_stretches.specs.declared.sights.ZoneEffect.TheVariants.{Nothing, Turns, Moves}
use Rattle.order_clocks.specs.Clocked.{moves_in}
use Rattle.swept_boxes.specs.declared.Box3.{Box3}
use Rattle.sync_types.specs.Boards.{Board}
use Rattle.sync_types.specs.Items.{motion_of, movement_of}
use Rattle.sync_types.specs.Views.{RunView}
use Rattle.sync_types.specs.declared.Item.{Item}
use Rattle.sync_types.specs.declared.Part.{Part}
use Rattle.sync_types.specs.declared.Part.TheVariants.{Move, Switch}
use Rattle.sync_types.specs.declared.runs.EventId.{EventId}

-- ---- what is seen as a motion

abbrev is_motion : ZoneEffect → Bool
is_motion Moves = true
is_motion other = false

-- what is seen as a motion is one
pub motion_seen : (zone : ZoneLine) (item : Item) → seen zone item ≡ Moves → motion_of item ≡ Some (movement_of item)
motion_seen zone item is = by_part item.part refl is
  where
    by_number : (b on : Bool) → cond b (Turns on) Nothing ≡ Moves → ⊥
    by_number true on e = let no : false ≡ true = ap is_motion e in absurd cc
    by_number false on e = let no : false ≡ true = ap is_motion e in absurd cc

    by_part : (p : Part) → item.part ≡ p → sight_of zone item p ≡ Moves → motion_of item ≡ Some (movement_of item)
    by_part (Switch number on) is e = absurd (by_number (number == zone.zone) on e)
    by_part (Move motion) is e = rw is refl

-- ---- the boxes of a walk

-- the motion of a box is that of its place among these items
abbrev IsNamed : List Item → Option (ℕ × Item) → Type 0
IsNamed all None = ⊤
IsNamed all (Some (place, item)) = (0 < place) × (slice_get all (place - 1) ≡ Some item) × (motion_of item ≡ Some (movement_of item))

abbrev IsNamedBox : List Item → PlaceBox → Type 0
IsNamedBox all box = IsNamed all box.motion

abbrev IsNamedOpen : List Item → Opened → Type 0
IsNamedOpen all Shut = ⊤
IsNamedOpen all (Waiting from line at) = ⊤
IsNamedOpen all (Moving from place item at) = IsNamed all (Some (place, item))

closed_named : (all : List Item) (to : ℕ) (o : Opened) → IsNamedOpen all o → All (IsNamedBox all) (closed to o)
closed_named all to Shut named = All-nil (IsNamedBox all)
closed_named all to (Waiting from line at) named = All-cons (IsNamedBox all) (record { from = from; to = to; motion = None; line = line; at = at }) [] tt (All-nil (IsNamedBox all))
closed_named all to (Moving from place item at) named =
    All-cons (IsNamedBox all) (record { from = from; to = to; motion = Some (place, item); line = item.line; at = at }) [] named (All-nil (IsNamedBox all))

closed_before_named : (all : List Item) (to : ℕ) (o : Opened) (s : ZoneEffect) → IsNamedOpen all o → All (IsNamedBox all) (closed_before to o s)
closed_before_named all to Shut Nothing named = All-nil (IsNamedBox all)
closed_before_named all to Shut (Turns true) named = All-nil (IsNamedBox all)
closed_before_named all to Shut (Turns false) named = closed_named all to Shut named
closed_before_named all to Shut Moves named = All-nil (IsNamedBox all)
closed_before_named all to (Waiting from line at) Nothing named = All-nil (IsNamedBox all)
closed_before_named all to (Waiting from line at) (Turns true) named = All-nil (IsNamedBox all)
closed_before_named all to (Waiting from line at) (Turns false) named = closed_named all to (Waiting from line at) named
closed_before_named all to (Waiting from line at) Moves named = All-nil (IsNamedBox all)
closed_before_named all to (Moving from place item at) Nothing named = All-nil (IsNamedBox all)
closed_before_named all to (Moving from place item at) (Turns true) named = All-nil (IsNamedBox all)
closed_before_named all to (Moving from place item at) (Turns false) named = closed_named all to (Moving from place item at) named
closed_before_named all to (Moving from place item at) Moves named = closed_named all to (Moving from place item at) named

is_named : (zone : ZoneLine) (all : List Item) (place : ℕ) (item : Item) → slice_get all place ≡ Some item → seen zone item ≡ Moves → IsNamed all (Some (suc place, item))
is_named zone all place item there is =
    let less : suc place - 1 ≡ place = omega arith in
    (omega arith, ap (slice_get all) less ∙ there, motion_seen zone item is)

next_named : (zone : ZoneLine) (all : List Item) (place : ℕ) (at : ℕ → ℤ) (item : Item) (o : Opened) (s : ZoneEffect) → seen zone item ≡ s → slice_get all place ≡ Some item → IsNamedOpen all o
    → IsNamedOpen all (next_open (suc place) at item o s)
next_named zone all place at item Shut Nothing is there named = tt
next_named zone all place at item Shut (Turns true) is there named = tt
next_named zone all place at item Shut (Turns false) is there named = tt
next_named zone all place at item Shut Moves is there named = tt
next_named zone all place at item (Waiting from line began) Nothing is there named = tt
next_named zone all place at item (Waiting from line began) (Turns true) is there named = tt
next_named zone all place at item (Waiting from line began) (Turns false) is there named = tt
next_named zone all place at item (Waiting from line began) Moves is there named = is_named zone all place item there is
next_named zone all place at item (Moving from of before began) Nothing is there named = named
next_named zone all place at item (Moving from of before began) (Turns true) is there named = named
next_named zone all place at item (Moving from of before began) (Turns false) is there named = tt
next_named zone all place at item (Moving from of before began) Moves is there named = is_named zone all place item there is

walk_named : (zone : ZoneLine) (all items : List Item) (place : ℕ) (o : Opened) (at : ℕ → ℤ) → ((k : ℕ) → slice_get all (place + k) ≡ slice_get items k) → IsNamedOpen all o
    → All (IsNamedBox all) (walk zone place o at items)
walk_named zone all [] place o at same named = closed_named all place o named
walk_named zone all (item ∷ items) place o at same named =
    let first : place ≡ place + 0 = omega arith in
    let here : slice_get all place ≡ Some item = ap (slice_get all) first ∙ same 0 in
    All-append (IsNamedBox all) (closed_before place o (seen zone item)) (walk zone (suc place) (next_open (suc place) at item o (seen zone item)) (stand_after item at) items)
    (closed_before_named all place o (seen zone item) named)
    (walk_named zone all items (suc place) (next_open (suc place) at item o (seen zone item)) (stand_after item at)
    (λ k. let past : suc place + k ≡ place + suc k = omega arith in ap (slice_get all) past ∙ same (suc k))
    (next_named zone all place at item o (seen zone item) refl here named))

boxes_named : (zone : ZoneLine) (on : Bool) (line : ℕ) (at : ℕ → ℤ) (items : List Item) → All (IsNamedBox items) (boxes_of zone on line at items)
unfolding boxes_of
boxes_named zone true line at items = walk_named zone items items 0 (Waiting 0 line at) at (λ k. ap (slice_get items) (zero-add k)) tt
boxes_named zone false line at items = walk_named zone items items 0 Shut at (λ k. ap (slice_get items) (zero-add k)) tt

-- ---- the boxes as they are compared

shown_covered : (margin : ℤ) (zone : ZoneLine) (items : List Item) (box : PlaceBox) → IsNamedBox items box
    → IsCoverBy margin zone items (shown_box margin zone box).cover (shown_box margin zone box).motion
unfolding shown_box
shown_covered margin zone items box named = by_motion box.motion named
  where
    by_motion : (o : Option (ℕ × Item)) → IsNamed items o → IsCoverBy margin zone items (cover_during margin zone box.at o) (option_map (λ moved. moved.0) o)
    by_motion None named = (box.at, refl)
    by_motion (Some (place, item)) named = record { item = item; at = box.at; counted = named.0; there = named.1; moves = named.2; covers = refl }

-- what has the cover of no item stands
of_none : (margin : ℤ) (zone : ZoneLine) (items : List Item) (cover : Box3) (motion : Option ℕ) → IsCoverBy margin zone [] cover motion → IsCoverBy margin zone items cover motion
of_none margin zone items cover None covered = covered
of_none margin zone items cover (Some place) covered = let bad : None ≡ Some covered.item = covered.there in absurd cc

-- the items of a span are those of its entry, or none
abbrev pub HasItems : List (List Item) → ℕ → List Item → Type 0
HasItems all entry items = (items ≡ []) ⊎ (items ≡ slice_index_or all entry [])

stretch_covered : (job : JobView) (run : RunView) (zone : ZoneLine) (channel : Option ℕ) (begins : SpanStartView) (last : Option EventId) (entry : ℕ) (items : List Item) → HasItems run.items entry items
    → All (HasCover job run zone (stretch_between job zone channel begins last entry items)) (stretch_between job zone channel begins last entry items).boxes
stretch_covered job run zone channel begins last entry items has =
    All-map (HasCover job run zone (stretch_between job zone channel begins last entry items)) (shown_box job.margin zone) (boxes_of zone (begins.on zone.zone) begins.line begins.at items)
    (All-weaker (IsNamedBox items) (λ box. HasCover job run zone (stretch_between job zone channel begins last entry items) (shown_box job.margin zone box))
    (λ box named. of_entry has (shown_box job.margin zone box).cover (shown_box job.margin zone box).motion (shown_covered job.margin zone items box named))
    (boxes_of zone (begins.on zone.zone) begins.line begins.at items) (boxes_named zone (begins.on zone.zone) begins.line begins.at items))
  where
    of_entry : HasItems run.items entry items → (cover : Box3) (motion : Option ℕ) → IsCoverBy job.margin zone items cover motion
        → IsCoverBy job.margin zone (slice_index_or run.items entry []) cover motion
    of_entry (inl none) cover motion covered = of_none job.margin zone (slice_index_or run.items entry []) cover motion (rw none at covered)
    of_entry (inr same) cover motion covered = rw same at covered

-- ---- the spans

span_items : (all : List (List Item)) (begins : SpanStartView) (os : List OccurrenceView) → All (λ span. HasItems all span.entry span.items) (spans_from all begins os)
span_items all begins [] = All-cons (λ span. HasItems all span.entry span.items) (span_to_end begins) [] (inl refl) (All-nil (λ span. HasItems all span.entry span.items))
span_items all begins (o ∷ os) =
    All-cons (λ span. HasItems all span.entry span.items) (span_until all begins o.name) (spans_from all (beginning_after begins o) os) (by_go o.name.go) (span_items all (beginning_after begins o) os)
  where
    by_go : (b : Bool) → HasItems all (cond b (entry_of_beginning begins) o.name.step) (cond b [] (slice_index_or all o.name.step []))
    by_go true = inl refl
    by_go false = inr refl

pub all_alike : {X : Type 0} (P : X → Type 0) → ((x : X) → P x) → (xs : List X) → All P xs
all_alike P each [] = All-nil P
all_alike P each (x ∷ xs) = All-cons P x xs (each x) (all_alike P each xs)

pub spans_have_items : (job : JobView) (items : List (List Item)) (occurrences : List OccurrenceView) (c : ℕ) → All (λ span. HasItems items span.entry span.items) (spans_of job items occurrences c)
unfolding spans_of
spans_have_items job items occurrences c = span_items items (first_beginning job c) _

zone_covered : (job : JobView) (run : RunView) (occurrences : List OccurrenceView) (zone : ZoneLine)
    → All (λ stretch. All (HasCover job run zone stretch) stretch.boxes) (stretches_of_zone job run.items occurrences zone)
zone_covered job run occurrences zone =
    each_stretch job run.items occurrences zone (λ stretch. All (HasCover job run zone stretch) stretch.boxes)
    (λ c. All-weaker (λ span. HasItems run.items span.entry span.items) (HoldsOf job zone (λ stretch. All (HasCover job run zone stretch) stretch.boxes) c)
    (λ span has. (
      stretch_covered job run zone (Some c) span.begins span.last span.entry span.items has,
      λ t free. stretch_covered job run zone (Some c) span.begins t.last span.entry span.items has,
    ))
    (spans_of job run.items occurrences c) (spans_have_items job run.items occurrences c))
    (all_alike (λ t. All (HasCover job run zone (free_stretch job zone t)) (free_stretch job zone t).boxes)
    (λ t. stretch_covered job run zone None t.begins t.last (entry_of_beginning t.begins) [] (inl refl)) (tenures_of job occurrences zone))

pub boxes_have_covers : (job : JobView) (b : Board) (run : RunView) → BoxesHaveCovers job b run
boxes_have_covers job b run =
    each_time job b run (λ time. All (λ stretch. All (HasCover job run time.zone stretch) stretch.boxes) time.stretches)
    (λ zone. zone_covered job run (occurrences_of b (moves_in run.entries)) zone)

-- ---- for the comparison

-- the items of sound runs are fit
pub item_is_fit : (items : List (List Item)) (entry place : ℕ) (item : Item) → All (All IsFit) items → slice_get (slice_index_or items entry []) place ≡ Some item → IsFit item
item_is_fit [] entry place item all there = absurd cc
item_is_fit (x ∷ xs) zero place item all there = within x place (all 0 x (omega arith)) there
  where
    within : (ys : List Item) (k : ℕ) → All IsFit ys → slice_get ys k ≡ Some item → IsFit item
    within [] k fit is = absurd cc
    within (y ∷ ys) zero fit is = let same : y ≡ item = cc in rw same at (fit 0 y (omega arith))
    within (y ∷ ys) (suc k) fit is = within ys k (λ j d below. fit (suc j) d (omega arith)) is
item_is_fit (x ∷ xs) (suc entry) place item all there = item_is_fit xs entry place item (λ j d below. all (suc j) d (omega arith)) there
