-- Law. The active parts of a zone in a span of its holder, and how its boxes share out the places of the span.
use Rattle.std.specs.Prelude.{◌≡◌, ◌⊎◌, ℕ, zero, suc, ℤ, ◌-◌, ◌<◌, ◌≤◌, ◌&&◌, nat_le, Bool, true, false, if◌then◌else◌, All, List, [], ◌∷◌, length, map, take, slice_get, slice_index_or, count_by, Option, None, Some}
use Rattle.job_types.specs.Job.{JobView}
use Rattle.job_types.specs.declared.job.ZoneLine.{ZoneLine}
use Rattle.sync_types.specs.Boards.{Board}
use Rattle.sync_types.specs.Views.{RunView}
use Rattle.sync_types.specs.declared.Item.{Item}
use Rattle.zone_stretches.specs.Overlaps.{zone_times}
use Rattle.zone_stretches.specs.Stretches.{StretchView, all_stretches}
use Rattle.zone_stretches.specs.ZoneBoxes.{PlaceBox, boxes_of, on_after, seen, shown_box, stand_after}
use Rattle.zone_stretches.specs.declared.sights.ZoneEffect.TheVariants.{Moves}

-- ---- places

-- A span as a zone sees it: whether the zone is on as it begins, the line with which it begins, where the channel's axes stand then, and what the
-- holder does in it.
pub record ZoneSpan : Type 0 where
  pub zone : ZoneLine
  pub on : Bool
  pub line : ℕ
  pub at : ℕ → ℤ
  pub items : List Item

-- the span has this place, and the zone is on there: place 0 is its beginning, each item has a place, and a switch counts from its own place on
abbrev pub is_on_at : ZoneSpan → ℕ → Bool
is_on_at span place = nat_le place (length span.items) && on_after span.zone span.on (take place span.items)

-- the place is that of this item, a motion with an axis of the zone
pub record IsMotionAt (span : ZoneSpan) (place : ℕ) (item : Item) : Type 0 where
  pub counted : 0 < place
  pub there : slice_get span.items (place - 1) ≡ Some item
  pub moves : seen span.zone item ≡ Moves

-- a place has the line of its item; the beginning has that of the span
abbrev pub IsLineAt : ZoneSpan → ℕ → ℕ → Type 0
IsLineAt span zero line = line ≡ span.line
IsLineAt span (suc place) line = (item : Item) × (slice_get span.items place ≡ Some item) × (line ≡ item.line)

-- where the axes stand after these items, one after another
abbrev pub stand_after_all : List Item → (ℕ → ℤ) → ℕ → ℤ
stand_after_all [] at = at
stand_after_all (item ∷ items) at = stand_after_all items (stand_after item at)

-- where they stand as the item of a place begins
abbrev pub stand_before : ZoneSpan → ℕ → ℕ → ℤ
stand_before span place = stand_after_all (take (place - 1) span.items) span.at

-- ---- parts

-- an active part: a longest row of neighbouring places at which the zone is on
pub record IsActivePart (span : ZoneSpan) (first last : ℕ) : Type 0 where
  pub some : first ≤ last
  pub on_there : (place : ℕ) → first ≤ place → place ≤ last → is_on_at span place ≡ true
  pub off_before : (place : ℕ) → suc place ≡ first → is_on_at span place ≡ false
  pub off_after : is_on_at span (suc last) ≡ false

-- A box that stands holds the whole part, and no place of the part is that of a motion of the zone. It has the line and the positions with which the
-- part begins.
pub record HoldsWhole (span : ZoneSpan) (first last : ℕ) (box : PlaceBox) : Type 0 where
  pub from : box.from ≡ first
  pub to : box.to ≡ last
  pub still : (place : ℕ) (item : Item) → first ≤ place → place ≤ last → IsMotionAt span place item → ⊥
  pub line : IsLineAt span first box.line
  pub stands : box.at ≡ stand_before span first

-- A box of a motion holds the place of that motion and of no other motion of the zone. It begins with the part or at the place of its motion, and ends
-- with the part or at the place before that of a motion of the zone. It has the line of its motion, and the positions with which that begins.
pub record HoldsMotion (span : ZoneSpan) (first last : ℕ) (box : PlaceBox) (place : ℕ) (item : Item) : Type 0 where
  pub motion : IsMotionAt span place item
  pub low : box.from ≤ place
  pub high : place ≤ box.to
  pub alone : (other : ℕ) (later : Item) → box.from ≤ other → other ≤ box.to → IsMotionAt span other later → other ≡ place
  pub begins : (box.from ≡ first) ⊎ (box.from ≡ place)
  pub ends : (box.to ≡ last) ⊎ ((next : Item) × IsMotionAt span (suc box.to) next)
  pub line : box.line ≡ item.line
  pub stands : box.at ≡ stand_before span place

abbrev pub HoldsShare : ZoneSpan → ℕ → ℕ → PlaceBox → Option (ℕ × Item) → Type 0
HoldsShare span first last box None = HoldsWhole span first last box
HoldsShare span first last box (Some (place, item)) = HoldsMotion span first last box place item

-- a box holds its share of an active part
pub record IsPartBox (span : ZoneSpan) (box : PlaceBox) : Type 0 where
  pub first : ℕ
  pub last : ℕ
  pub part : IsActivePart span first last
  pub low : first ≤ box.from
  pub high : box.to ≤ last
  pub share : HoldsShare span first last box box.motion

-- ---- the boxes of a span

abbrev pub does_hold : ℕ → PlaceBox → Bool
does_hold place box = nat_le box.from place && nat_le place box.to

-- each box holds places from this one on, after those of the boxes before it
abbrev pub DoAscend : ℕ → List PlaceBox → Type 0
DoAscend from [] = Unit {0}
DoAscend from (box ∷ boxes) = (from ≤ box.from) × (box.from ≤ box.to) × DoAscend (suc box.to) boxes

-- at each place one box holds where the zone is on, and none elsewhere; each box is one of an active part, and they stand in order
pub record ShareOutPlaces (span : ZoneSpan) (boxes : List PlaceBox) : Type 0 where
  pub one : (place : ℕ) → count_by (does_hold place) boxes ≡ (if is_on_at span place then 1 else 0)
  pub parts : All (IsPartBox span) boxes
  pub in_order : DoAscend 0 boxes

abbrev pub boxes_in : ZoneSpan → List PlaceBox
boxes_in span = boxes_of span.zone span.on span.line span.at span.items

-- ---- the boxes of stretches

-- the boxes of a stretch are those of such a span, as they are compared: it has the line of the stretch and the items of its entry, or none
pub record HasSpan (job : JobView) (run : RunView) (zone : ZoneLine) (stretch : StretchView) : Type 0 where
  pub span : ZoneSpan
  pub of_zone : span.zone ≡ zone
  pub line : span.line ≡ stretch.name.line
  pub items : (span.items ≡ []) ⊎ (span.items ≡ slice_index_or run.items stretch.entry [])
  pub boxes : stretch.boxes ≡ map (shown_box job.margin zone) (boxes_in span)
  pub shared : ShareOutPlaces span (boxes_in span)

-- so it is of each stretch of each zone
abbrev pub StretchesShareOutPlaces : JobView → Board → RunView → Type 0
StretchesShareOutPlaces job b run = All (λ time. All (HasSpan job run time.zone) time.stretches) (zone_times job (all_stretches job b run))
