-- Wherever a channel is in a span, and a zone of it is on there, some box of the zone holds that place and covers the zone's axes.
use Rattle.std.proofs.Common.{◌≡◌, ◌⊎◌, ◌∙◌, ℕ, zero, suc, ℤ, pos, ◌+◌, ◌-◌, ◌*ℤ◌, ◌<◌, ◌≤◌, Bool, true, false, cond, ◌||◌, ◌==◌, List, [], ◌∷◌, ◌++◌, take, find, Option, None, Some, option_and_then, unwrap_or, slice_get, All, IsSomeAnd, IsNone, inl, inr, refl, sym, ap, subst, arith}
use Rattle.std.proofs.lemmas.Bool.{ne_eqb, cases_eq}
use Rattle.std.proofs.lemmas.List.Elements.{All-weaker}
use Rattle.std.specs.Prelude.{⊤}
use Rattle.std.specs.List.{list_any}
use Rattle.job_types.specs.Zones.{has_axis}
use Rattle.job_types.specs.declared.job.ZoneLine.{ZoneLine}
use Rattle.number_laws.proofs.Lists.{SomeOf, SomeOf-append_left, SomeOf-append_right}
use Rattle.path_geometry.proofs.PathEnds.{start_on_path, end_on_path}
use Rattle.path_geometry.specs.Motions.{axes_of, IsSound, axis_end}
use Rattle.path_geometry.specs.Path.{Point, IsOnPath}
use Rattle.path_geometry.specs.declared.motion.Motion.{Motion}
use Rattle.path_geometry.specs.declared.motion.Motion.TheVariants.{Line, Rapid}
use Rattle.path_geometry.specs.declared.motion.Motion.TheVariants as Kind
use Rattle.zone_stretches.proofs.ShareLaws.{from_of, is_motion, is_open, next_from, next_is_open}
use Rattle.zone_stretches.specs.ZoneBoxes.{stand_after, moves_zone, sight_of, seen, PlaceBox, Opened, Shut, Waiting, Moving, closed, closed_before, next_open, walk, boxes_of}
use Rattle.zone_stretches.specs.declared.sights.ZoneEffect.{ZoneEffect}
use Rattle.zone_stretches.specs.declared.sights.ZoneEffect.TheVariants.{Nothing, Turns, Moves}
use Rattle.speed_laws.proofs.Positions.{after_is, left_at-cons}
use Rattle.speed_laws.specs.Doings.{turned, on_after}
use Rattle.speed_laws.specs.JoinedItems.{Joins, AllJoin}
use Rattle.speed_laws.specs.Places.{StandsAt, IsAlong, IsAtPlace}
use Rattle.sync_types.proofs.Positions.{left_at-nil, end_moved}
use Rattle.sync_types.specs.Items.{end_in, left_at, motion_of, movement_of}
use Rattle.sync_types.specs.declared.Item.{Item}
use Rattle.sync_types.specs.declared.Part.{Part}
use Rattle.sync_types.specs.declared.Part.TheVariants.{Move, Switch}

-- ---- the ends of a path

-- all axes at these positions, over this number
abbrev pub standing : (ℕ → ℤ) → ℕ → Point
standing positions under = record { top = λ axis. positions axis *ℤ pos under; under = under }

-- an axis that a motion has not stays
pub stays_there : (item : Item) (at : ℕ → ℤ) (axis : ℕ) → IsNone (end_in axis item) → stand_after item at axis ≡ at axis
stays_there item at axis none = after_is item at axis ∙ by_end (end_in axis item) none
  where
    by_end : (o : Option ℤ) → IsNone o → unwrap_or o (at axis) ≡ at axis
    by_end None none = refl
    by_end (Some to) none = absurd cc

-- the start and the end of a motion that joins are points of its path
pub along_at_start : (at : ℕ → ℤ) (item : Item) (under : ℕ) → Joins at item → 0 < under → IsAlong at item (standing at under)
along_at_start at item under joins some = record { path = start_on_path (movement_of item) (standing at under) joins.0 some starts; others = λ axis none. refl }
  where
    starts : All (λ e. at e.0 *ℤ pos under ≡ e.1 *ℤ pos under) (axes_of (movement_of item))
    starts = All-weaker (λ e. (e.1 ≡ at e.0) × (e.2 ≡ stand_after item at e.0)) (λ e. at e.0 *ℤ pos under ≡ e.1 *ℤ pos under)
        (λ e joined. ap (λ x. x *ℤ pos under) (sym joined.0)) (axes_of (movement_of item)) joins.1

pub along_at_end : (at : ℕ → ℤ) (item : Item) (under : ℕ) → Joins at item → 0 < under → IsAlong at item (standing (stand_after item at) under)
along_at_end at item under joins some = record {
  path = end_on_path (movement_of item) (standing (stand_after item at) under) joins.0 some ends_there;
  others = λ axis none. ap (λ x. x *ℤ pos under) (stays_there item at axis none);
}
  where
    ends_there : All (λ e. stand_after item at e.0 *ℤ pos under ≡ e.2 *ℤ pos under) (axes_of (movement_of item))
    ends_there = All-weaker (λ e. (e.1 ≡ at e.0) × (e.2 ≡ stand_after item at e.0)) (λ e. stand_after item at e.0 *ℤ pos under ≡ e.2 *ℤ pos under)
        (λ e joined. ap (λ x. x *ℤ pos under) (sym joined.1)) (axes_of (movement_of item)) joins.1

-- ---- what an item is to a zone

-- a motion with an axis of the zone is seen as one, and nothing else is
seen_moves : (zone : ZoneLine) (item : Item) → moves_zone zone item ≡ is_motion (seen zone item)
unfolding is_motion moves_zone
seen_moves zone item = by_part item.part refl
  where
    by_number : (b on : Bool) → false ≡ is_motion (cond b (Turns on) Nothing)
    by_number true on = refl
    by_number false on = refl

    by_motion : (b : Bool) → b ≡ is_motion (cond b Moves Nothing)
    by_motion true = refl
    by_motion false = refl

    by_part : (p : Part) → item.part ≡ p → moves_zone zone item ≡ is_motion (sight_of zone item p)
    by_part (Switch number on) is = rw is (by_number (number == zone.zone) on)
    by_part (Move motion) is = by_motion (moves_zone zone item)

still_of : (zone : ZoneLine) (item : Item) (s : ZoneEffect) → seen zone item ≡ s → is_motion s ≡ false → moves_zone zone item ≡ false
still_of zone item s is still = seen_moves zone item ∙ ap is_motion is ∙ still

-- what is seen as a motion is one
motion_seen : (zone : ZoneLine) (item : Item) → seen zone item ≡ Moves → motion_of item ≡ Some (movement_of item)
unfolding is_motion
motion_seen zone item is = by_part item.part refl is
  where
    by_number : (b on : Bool) → cond b (Turns on) Nothing ≡ Moves → ⊥
    by_number true on e = let no : false ≡ true = ap is_motion e in absurd cc
    by_number false on e = let no : false ≡ true = ap is_motion e in absurd cc

    by_part : (p : Part) → item.part ≡ p → sight_of zone item p ≡ Moves → motion_of item ≡ Some (movement_of item)
    by_part (Switch number on) is e = absurd (by_number (number == zone.zone) on e)
    by_part (Move motion) is e = rw is refl

-- ---- motions that do not move the zone

not_found : {X : Type 0} (test : X → Bool) (xs : List X) → list_any test xs ≡ false → find test xs ≡ None
not_found test [] none = refl
not_found test (x ∷ xs) none = by_test (test x) refl none (not_found test xs)
  where
    by_test : (b : Bool) → test x ≡ b → (b || list_any test xs) ≡ false → (list_any test xs ≡ false → find test xs ≡ None) → cond b (Some x) (find test xs) ≡ None
    by_test true is none rest = absurd cc
    by_test false is none rest = rest none

-- none of the motion's axes is one of the zone's, so an axis of the zone is none of the motion's
apart_axes : (zone : ZoneLine) (axis : ℕ) → has_axis zone axis ≡ true → (ends : List (ℕ × ℤ × ℤ)) → list_any (λ e. has_axis zone e.0) ends ≡ false
    → list_any (λ e. e.0 == axis) ends ≡ false
apart_axes zone axis has [] none = refl
apart_axes zone axis has (e ∷ ends) none = by_test (has_axis zone e.0) refl none (cases_eq e.0 axis) (apart_axes zone axis has ends)
  where
    by_test : (b : Bool) → has_axis zone e.0 ≡ b → (b || list_any (λ f. has_axis zone f.0) ends) ≡ false → (e.0 ≡ axis) ⊎ (e.0 ≡ axis → ⊥)
        → (list_any (λ f. has_axis zone f.0) ends ≡ false → list_any (λ f. f.0 == axis) ends ≡ false) → list_any (λ f. f.0 == axis) (e ∷ ends) ≡ false
    by_test true is none order rest = absurd cc
    by_test false is none (inl same) rest = let other : has_axis zone axis ≡ false = subst (λ a. has_axis zone a ≡ false) same is in absurd cc
    by_test false is none (inr other) rest = rw (ne_eqb e.0 axis other) (rest none)

not_moved : (zone : ZoneLine) (item : Item) (axis : ℕ) → moves_zone zone item ≡ false → has_axis zone axis ≡ true → IsNone (end_in axis item)
unfolding moves_zone axis_end
not_moved zone item axis none has =
    let nothing : find (λ (e : ℕ × ℤ × ℤ). e.0 == axis) (axes_of (movement_of item)) ≡ None =
    not_found (λ e. e.0 == axis) (axes_of (movement_of item)) (apart_axes zone axis has (axes_of (movement_of item)) none) in
    subst (λ (o : Option ℤ). IsNone o) (sym (end_moved axis item)) (rw nothing refl)

-- ---- boxes that cover a point

-- the zone's axes are at the point where a box has them: at its positions where it stands, or as at some point of its motion, which is sound and begins there
abbrev pub IsCovered : ZoneLine → (ℕ → ℤ) → Option (ℕ × Item) → Point → Type 0
IsCovered zone at None point = (axis : ℕ) → has_axis zone axis ≡ true → StandsAt point axis (at axis)
IsCovered zone at (Some (place, item)) point = IsSound (movement_of item) × (other : Point) × IsAlong at item other × (other.under ≡ point.under) × ((axis : ℕ) → has_axis zone axis ≡ true → other.top axis ≡ point.top axis)

-- the motion of a box is that of its place among these items
abbrev pub IsNamed : List Item → Option (ℕ × Item) → Type 0
IsNamed all None = ⊤
IsNamed all (Some (place, item)) = option_and_then motion_of (slice_get all (place - 1)) ≡ Some (movement_of item)

-- the box holds the place and covers the point
pub record Covers (zone : ZoneLine) (all : List Item) (place : ℕ) (point : Point) (box : PlaceBox) : Type 0 where
  pub from : box.from ≤ place
  pub upto : place ≤ box.to
  pub named : IsNamed all box.motion
  pub covered : IsCovered zone box.at box.motion point

module _ (zone : ZoneLine) (all : List Item) where
  -- the same of what is open
  abbrev OpenCovers : Opened → Point → Type 0
  OpenCovers Shut point = ⊥
  OpenCovers (Waiting from line began) point = IsCovered zone began None point
  OpenCovers (Moving from place item began) point = IsCovered zone began (Some (place, item)) point

  -- the zone's axes stand where the open box leaves them
  abbrev Fits : Opened → (ℕ → ℤ) → Type 0
  Fits Shut at = ⊤
  Fits (Waiting from line began) at = (axis : ℕ) → has_axis zone axis ≡ true → at axis ≡ began axis
  Fits (Moving from place item began) at = IsNamed all (Some (place, item)) × Joins began item × ((axis : ℕ) → has_axis zone axis ≡ true → at axis ≡ stand_after item began axis)

  closes : (k : ℕ) (point : Point) (place : ℕ) (o : Opened) (at : ℕ → ℤ) → from_of o ≤ k → k ≤ place → Fits o at → OpenCovers o point
      → SomeOf (Covers zone all k point) (closed place o)
  closes k point place Shut at low high fits covers = absurd covers
  closes k point place (Waiting from line began) at low high fits covers = inl (record { from = low; upto = high; named = tt; covered = covers })
  closes k point place (Moving from of item began) at low high fits covers = inl (record { from = low; upto = high; named = fits.0; covered = covers })

  -- a point where the zone's axes stand as the open box leaves them is covered by it
  stand_covered : (o : Opened) (at : ℕ → ℤ) (point : Point) → 0 < point.under → Fits o at → is_open o ≡ true
      → ((axis : ℕ) → has_axis zone axis ≡ true → StandsAt point axis (at axis)) → OpenCovers o point
  stand_covered Shut at point some fits shut stands = absurd cc
  stand_covered (Waiting from line began) at point some fits is stands = λ axis has. stands axis has ∙ ap (λ x. x *ℤ pos point.under) (fits axis has)
  stand_covered (Moving from place item began) at point some fits is stands = (
    fits.1.0,
    standing (stand_after item began) point.under,
    along_at_end began item point.under fits.1 some,
    refl,
    λ axis has. sym (stands axis has ∙ ap (λ x. x *ℤ pos point.under) (fits.2 axis has)),
  )

  start_covered : (place : ℕ) (item : Item) (at : ℕ → ℤ) (point : Point) → 0 < point.under → Joins at item
      → ((axis : ℕ) → has_axis zone axis ≡ true → StandsAt point axis (at axis)) → IsCovered zone at (Some (place, item)) point
  start_covered place item at point some joins stands =
      (joins.0, standing at point.under, along_at_start at item point.under joins some, refl, λ axis has. sym (stands axis has))

  -- ---- one item

  -- the zone's axes stand where they stood
  stays : (item : Item) (at : ℕ → ℤ) → moves_zone zone item ≡ false → (axis : ℕ) → has_axis zone axis ≡ true → stand_after item at axis ≡ at axis
  stays item at still axis has = stays_there item at axis (not_moved zone item axis still has)

  fits_on : (o : Opened) (at : ℕ → ℤ) (item : Item) → moves_zone zone item ≡ false → Fits o at → Fits o (stand_after item at)
  fits_on Shut at item still fits = tt
  fits_on (Waiting from line began) at item still fits = λ axis has. stays item at still axis has ∙ fits axis has
  fits_on (Moving from place before began) at item still fits = (fits.0, fits.1, λ axis has. stays item at still axis has ∙ fits.2 axis has)

  -- what is seen as a motion is named by its place
  is_named : (place : ℕ) (item : Item) → slice_get all place ≡ Some item → seen zone item ≡ Moves → IsNamed all (Some (suc place, item))
  is_named place item there is =
      let less : suc place - 1 ≡ place = omega arith in
      ap (λ k. option_and_then motion_of (slice_get all k)) less ∙ ap (option_and_then motion_of) there ∙ motion_seen zone item is

  next_fits : (place : ℕ) (at : ℕ → ℤ) (item : Item) (o : Opened) (s : ZoneEffect) → seen zone item ≡ s → slice_get all place ≡ Some item → Joins at item → Fits o at
      → Fits (next_open (suc place) at item o s) (stand_after item at)
  unfolding is_motion
  next_fits place at item Shut Nothing is there joins fits = tt
  next_fits place at item Shut (Turns true) is there joins fits = λ axis has. stays item at (still_of zone item (Turns true) is refl) axis has
  next_fits place at item Shut (Turns false) is there joins fits = tt
  next_fits place at item Shut Moves is there joins fits = tt
  next_fits place at item (Waiting from line began) Nothing is there joins fits = fits_on (Waiting from line began) at item (still_of zone item Nothing is refl) fits
  next_fits place at item (Waiting from line began) (Turns true) is there joins fits = fits_on (Waiting from line began) at item (still_of zone item (Turns true) is refl) fits
  next_fits place at item (Waiting from line began) (Turns false) is there joins fits = tt
  next_fits place at item (Waiting from line began) Moves is there joins fits = (is_named place item there is, joins, λ axis has. refl)
  next_fits place at item (Moving from of before began) Nothing is there joins fits = fits_on (Moving from of before began) at item (still_of zone item Nothing is refl) fits
  next_fits place at item (Moving from of before began) (Turns true) is there joins fits = fits_on (Moving from of before began) at item (still_of zone item (Turns true) is refl) fits
  next_fits place at item (Moving from of before began) (Turns false) is there joins fits = tt
  next_fits place at item (Moving from of before began) Moves is there joins fits = (is_named place item there is, joins, λ axis has. refl)

  -- ---- the walk

  -- these items come after so many of all
  abbrev AreRest : ℕ → List Item → Type 0
  AreRest place items = (j : ℕ) (item : Item) → slice_get items j ≡ Some item → slice_get all (place + j) ≡ Some item

  rest_first : (place : ℕ) (item : Item) (items : List Item) → AreRest place (item ∷ items) → slice_get all place ≡ Some item
  rest_first place item items rest = let same : place + 0 ≡ place = omega arith in subst (λ k. slice_get all k ≡ Some item) same (rest 0 item refl)

  rest_next : (place : ℕ) (item : Item) (items : List Item) → AreRest place (item ∷ items) → AreRest (suc place) items
  rest_next place item items rest = λ j later is. let same : place + suc j ≡ suc place + j = omega arith in subst (λ k. slice_get all k ≡ Some later) same (rest (suc j) later is)

  -- a point that the open box covers, at a place that it holds, is covered by one of the boxes that come of it
  kept : (k : ℕ) (point : Point) → 0 < point.under → (place : ℕ) (o : Opened) (at : ℕ → ℤ) (items : List Item)
      → AreRest place items → AllJoin at items → Fits o at → from_of o ≤ k → k ≤ place → OpenCovers o point
      → SomeOf (Covers zone all k point) (walk zone place o at items)
  kept k point some place o at [] rest joins fits low high covers = closes k point place o at low high fits covers
  kept k point some place o at (item ∷ items) rest joins fits low high covers =
      by_sight o (seen zone item) refl fits low covers
      (λ o' fits' low' covers'. kept k point some (suc place) o' (stand_after item at) items (rest_next place item items rest) joins.1 fits' low' (omega arith) covers')
    where
      Goal : Opened → ZoneEffect → Type 0
      Goal o s = SomeOf (Covers zone all k point) (closed_before place o s ++ walk zone (suc place) (next_open (suc place) at item o s) (stand_after item at) items)

      Later : Type 0
      Later = (o' : Opened) → Fits o' (stand_after item at) → from_of o' ≤ k → OpenCovers o' point → SomeOf (Covers zone all k point) (walk zone (suc place) o' (stand_after item at) items)

      next : (o : Opened) (s : ZoneEffect) → seen zone item ≡ s → Fits o at → Fits (next_open (suc place) at item o s) (stand_after item at)
      next o s is fits = next_fits place at item o s is (rest_first place item items rest) joins.0 fits

      ends : (o : Opened) → Fits o at → from_of o ≤ k → OpenCovers o point → (boxes : List PlaceBox) → SomeOf (Covers zone all k point) (closed place o ++ boxes)
      ends o fits low covers boxes = SomeOf-append_left (Covers zone all k point) (closed place o) boxes (closes k point place o at low high fits covers)

      by_sight : (o : Opened) (s : ZoneEffect) → seen zone item ≡ s → Fits o at → from_of o ≤ k → OpenCovers o point → Later → Goal o s
      by_sight Shut s is fits low covers later = absurd covers
      by_sight (Waiting from line began) Nothing is fits low covers later = later (Waiting from line began) (next (Waiting from line began) Nothing is fits) low covers
      by_sight (Waiting from line began) (Turns true) is fits low covers later = later (Waiting from line began) (next (Waiting from line began) (Turns true) is fits) low covers
      by_sight (Waiting from line began) (Turns false) is fits low covers later = ends (Waiting from line began) fits low covers _
      by_sight (Waiting from line began) Moves is fits low covers later =
          later (Moving from (suc place) item at) (next (Waiting from line began) Moves is fits) low
          (start_covered (suc place) item at point some joins.0 (λ axis has. covers axis has ∙ ap (λ x. x *ℤ pos point.under) (sym (fits axis has))))
      by_sight (Moving from of before began) Nothing is fits low covers later = later (Moving from of before began) (next (Moving from of before began) Nothing is fits) low covers
      by_sight (Moving from of before began) (Turns true) is fits low covers later = later (Moving from of before began) (next (Moving from of before began) (Turns true) is fits) low covers
      by_sight (Moving from of before began) (Turns false) is fits low covers later = ends (Moving from of before began) fits low covers _
      by_sight (Moving from of before began) Moves is fits low covers later = ends (Moving from of before began) fits low covers _

  along_same : (p q : ℕ → ℤ) → ((axis : ℕ) → p axis ≡ q axis) → (item : Item) (point : Point) → IsAlong p item point → IsAlong q item point
  along_same p q same item point along = record { path = along.path; others = λ axis none. along.others axis none ∙ ap (λ x. x *ℤ pos point.under) (same axis) }

  -- a point on an item, after which the zone is on, is covered by one of the boxes
  at_item : (point : Point) → 0 < point.under → (place : ℕ) (o : Opened) (at : ℕ → ℤ) (items : List Item)
      → AreRest place items → AllJoin at items → Fits o at → from_of o ≤ place → (m k : ℕ) → k ≡ suc (place + m) → (item : Item) → slice_get items m ≡ Some item
      → IsAlong (left_at (take m items) at) item point → on_after zone (is_open o) (take (suc m) items) ≡ true → SomeOf (Covers zone all k point) (walk zone place o at items)
  unfolding is_motion
  at_item point some place o at [] rest joins fits low m k is item found along on = absurd cc
  at_item point some place o at (first ∷ items) rest joins fits low zero k is item found along on =
      let same : first ≡ item = cc in
      let here : IsAlong at first point = along_same (left_at [] at) at (left_at-nil at) first point (subst (λ i. IsAlong (left_at [] at) i point) (sym same) along) in
      by_sight o (seen zone first) refl fits low here on
    where
      Goal : Opened → ZoneEffect → Type 0
      Goal o s = SomeOf (Covers zone all k point) (closed_before place o s ++ walk zone (suc place) (next_open (suc place) at first o s) (stand_after first at) items)

      later : (o' : Opened) → Fits o' (stand_after first at) → from_of o' ≤ suc place → OpenCovers o' point → SomeOf (Covers zone all k point) (walk zone (suc place) o' (stand_after first at) items)
      later o' fits' low' covers' = kept k point some (suc place) o' (stand_after first at) items (rest_next place first items rest) joins.1 fits' (omega arith) (omega arith) covers'

      next : (o : Opened) (s : ZoneEffect) → seen zone first ≡ s → Fits o at → Fits (next_open (suc place) at first o s) (stand_after first at)
      next o s is fits = next_fits place at first o s is (rest_first place first items rest) joins.0 fits

      stand : (s : ZoneEffect) → seen zone first ≡ s → is_motion s ≡ false → IsAlong at first point → (axis : ℕ) → has_axis zone axis ≡ true → StandsAt point axis (at axis)
      stand s is still here axis has = here.others axis (not_moved zone first axis (still_of zone first s is still) has)

      goes_on : (o : Opened) (s : ZoneEffect) → seen zone first ≡ s → is_motion s ≡ false → is_open o ≡ true → Fits o at → from_of o ≤ place → IsAlong at first point
          → Fits o (stand_after first at) → SomeOf (Covers zone all k point) (walk zone (suc place) o (stand_after first at) items)
      goes_on o s is still opened fits low here fits' = later o fits' (omega arith) (stand_covered o at point some fits opened (stand s is still here))

      by_sight : (o : Opened) (s : ZoneEffect) → seen zone first ≡ s → Fits o at → from_of o ≤ place → IsAlong at first point → turned (is_open o) s ≡ true → Goal o s
      by_sight Shut Nothing is fits low here on = absurd cc
      by_sight Shut (Turns true) is fits low here on = later (Waiting (suc place) first.line at) (next Shut (Turns true) is fits) (omega arith) (stand (Turns true) is refl here)
      by_sight Shut (Turns false) is fits low here on = absurd cc
      by_sight Shut Moves is fits low here on = absurd cc
      by_sight (Waiting from line began) Nothing is fits low here on = goes_on (Waiting from line began) Nothing is refl refl fits low here (next (Waiting from line began) Nothing is fits)
      by_sight (Waiting from line began) (Turns true) is fits low here on = goes_on (Waiting from line began) (Turns true) is refl refl fits low here (next (Waiting from line began) (Turns true) is fits)
      by_sight (Waiting from line began) (Turns false) is fits low here on = absurd cc
      by_sight (Waiting from line began) Moves is fits low here on =
          later (Moving from (suc place) first at) (next (Waiting from line began) Moves is fits) (omega arith) (joins.0.0, point, here, refl, λ axis has. refl)
      by_sight (Moving from of before began) Nothing is fits low here on = goes_on (Moving from of before began) Nothing is refl refl fits low here (next (Moving from of before began) Nothing is fits)
      by_sight (Moving from of before began) (Turns true) is fits low here on = goes_on (Moving from of before began) (Turns true) is refl refl fits low here (next (Moving from of before began) (Turns true) is fits)
      by_sight (Moving from of before began) (Turns false) is fits low here on = absurd cc
      by_sight (Moving from of before began) Moves is fits low here on =
          inr (later (Moving (suc place) (suc place) first at) (next (Moving from of before began) Moves is fits) (omega arith) (joins.0.0, point, here, refl, λ axis has. refl))
  at_item point some place o at (first ∷ items) rest joins fits low (suc m) k is item found along on =
      SomeOf-append_right (Covers zone all k point) (closed_before place o (seen zone first))
      (walk zone (suc place) (next_open (suc place) at first o (seen zone first)) (stand_after first at) items)
      (at_item point some (suc place) (next_open (suc place) at first o (seen zone first)) (stand_after first at) items (rest_next place first items rest) joins.1
      (next_fits place at first o (seen zone first) refl (rest_first place first items rest) joins.0 fits)
      (next_from place at first o (seen zone first) low) m k (omega arith) item found
      (along_same (left_at (first ∷ take m items) at) (left_at (take m items) (stand_after first at)) (left_at-cons first (take m items) at) item point along)
      (subst (λ b. on_after zone b (take (suc m) items) ≡ true) (sym (next_is_open place at first o (seen zone first))) on))

-- ---- a span

fraction_of : (motion : Motion) (point : Point) → IsOnPath motion point → 0 < point.under
fraction_of (Line ends) point on = on.fraction
fraction_of (Rapid ends) point on = on.fraction
fraction_of (Kind.Arc arc) point on = on.fraction

-- at each place the point is a fraction
pub place_fraction : (at : ℕ → ℤ) (items : List Item) (place : ℕ) (point : Point) → IsAtPlace at items place point → 0 < point.under
place_fraction at items zero point there = there.fraction
place_fraction at items (suc m) point there = by_item (slice_get items m) there
  where
    by_item : (o : Option Item) → IsSomeAnd o (λ item. IsAlong (left_at (take m items) at) item point) → 0 < point.under
    by_item None none = absurd none
    by_item (Some item) on = fraction_of (movement_of item) point on.path

-- Wherever a channel is in a span with these items, and the zone is on there, some box of the zone holds that place and covers the zone's axes.
pub box_covers : (zone : ZoneLine) (line : ℕ) (at : ℕ → ℤ) (on : Bool) (items : List Item) → AllJoin at items → (place : ℕ) (point : Point) → IsAtPlace at items place point
    → on_after zone on (take place items) ≡ true → SomeOf (Covers zone items place point) (boxes_of zone on line at items)
unfolding boxes_of
box_covers zone line at true items joins zero point stands is_on =
    kept zone items 0 point stands.fraction 0 (Waiting 0 line at) at items (λ j item is. let same : j ≡ 0 + j = omega arith in subst (λ k. slice_get items k ≡ Some item) same is)
    joins (λ axis has. refl) (omega arith) (omega arith) (λ axis has. stands.stand axis)
box_covers zone line at false items joins zero point stands is_on = absurd cc
box_covers zone line at on items joins (suc m) point there is_on = by_item (slice_get items m) refl there
  where
    rest : AreRest zone items 0 items
    rest j item is = let same : j ≡ 0 + j = omega arith in subst (λ k. slice_get items k ≡ Some item) same is

    by_on : (on : Bool) → on_after zone on (take (suc m) items) ≡ true → (item : Item) → slice_get items m ≡ Some item → IsAlong (left_at (take m items) at) item point
        → SomeOf (Covers zone items (suc m) point) (walk zone 0 (cond on (Waiting 0 line at) Shut) at items)
    by_on true is_on item found on =
        at_item zone items point (fraction_of (movement_of item) point on.path) 0 (Waiting 0 line at) at items rest joins (λ axis has. refl) (omega arith) m (suc m) (omega arith) item found on is_on
    by_on false is_on item found on =
        at_item zone items point (fraction_of (movement_of item) point on.path) 0 Shut at items rest joins tt (omega arith) m (suc m) (omega arith) item found on is_on

    by_item : (o : Option Item) → slice_get items m ≡ o → IsSomeAnd o (λ item. IsAlong (left_at (take m items) at) item point)
        → SomeOf (Covers zone items (suc m) point) (walk zone 0 (cond on (Waiting 0 line at) Shut) at items)
    by_item None found none = absurd none
    by_item (Some item) found here = by_on on is_on item found here
