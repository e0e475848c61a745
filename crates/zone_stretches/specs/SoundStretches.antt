-- Law. What is so of the stretches of all runs.
use Rattle.std.specs.Prelude.{◌≡◌, ℕ, ℤ, ◌-◌, ◌^◌, ◌<◌, ◌≤◌, All, IfSome, MatchOption, List, [], ◌∷◌, length, slice_get, slice_index_or, Option, Some, None}
use Rattle.std.specs.List.{sum_by}
use Rattle.axis_sets.specs.declared.limits.TheConstants.{CHANNEL_LIMIT}
use Rattle.axis_sets.specs.Sets.{has}
use Rattle.job_types.specs.Job.{JobView}
use Rattle.job_types.specs.Zones.{has_axis, zones_in_order}
use Rattle.job_types.specs.declared.job.ZoneLine.{ZoneLine}
use Rattle.order_clocks.specs.Before.{Before}
use Rattle.order_clocks.specs.Clocked.{IsOrderOf, moves_in}
use Rattle.zone_stretches.specs.Overlaps.{Order, compared_pairs, zone_times}
use Rattle.zone_stretches.specs.Stretches.{StretchView, StretchesView, all_stretches}
use Rattle.zone_stretches.specs.ZoneBoxes.{zone_box, low_in, high_in}
use Rattle.zone_stretches.specs.declared.stretches.ZoneBox.{ZoneBox}
use Rattle.swept_boxes.specs.Cover.{cover_of}
use Rattle.swept_boxes.specs.declared.Box3.{Box3}
use Rattle.sync_types.specs.Boards.{Board, first_board}
use Rattle.sync_types.specs.Events.{IsLowestName}
use Rattle.sync_types.specs.Items.{motion_of, movement_of}
use Rattle.sync_types.specs.Runs.{ComesFrom}
use Rattle.sync_types.specs.Starts.{axes_of_zone, first_holder}
use Rattle.sync_types.specs.Turns.{Move}
use Rattle.sync_types.specs.Views.{StartView, RunView}
use Rattle.sync_types.specs.declared.Item.{Item}
use Rattle.sync_types.specs.declared.runs.EventId.{EventId}

-- ---- covers

-- A box of a motion: its place is that of an item among these, which has a motion, and it is the zone box of what this motion
-- covers, with the axes that the motion has not somewhere.
pub record IsOfMotion (margin : ℤ) (zone : ZoneLine) (items : List Item) (place : ℕ) (cover : Box3) : Type 0 where
  pub item : Item
  pub at : ℕ → ℤ
  pub counted : 0 < place
  pub there : slice_get items (place - 1) ≡ Some item
  pub moves : motion_of item ≡ Some (movement_of item)
  pub covers : cover ≡ zone_box margin zone (low_in (cover_of (movement_of item)) at) (high_in (cover_of (movement_of item)) at)

-- a box belongs to the motion of its place, or is the zone box of where the zone stands
abbrev pub IsCoverBy : ℤ → ZoneLine → List Item → Box3 → Option ℕ → Type 0
IsCoverBy margin zone items cover None = (at : ℕ → ℤ) × (cover ≡ zone_box margin zone at at)
IsCoverBy margin zone items cover (Some place) = IsOfMotion margin zone items place cover

-- the places of a box are those of the entry of its stretch
abbrev pub HasCover : JobView → RunView → ZoneLine → StretchView → ZoneBox → Type 0
HasCover job run zone stretch box = IsCoverBy job.margin zone (slice_index_or run.items stretch.entry []) box.cover box.motion

-- each box of each stretch of each zone
abbrev pub HaveCovers : JobView → RunView → StretchesView → Type 0
HaveCovers job run stretches = All (λ time. All (λ stretch. All (HasCover job run time.zone stretch) stretch.boxes) time.stretches) (zone_times job stretches)

abbrev pub BoxesHaveCovers : JobView → Board → RunView → Type 0
BoxesHaveCovers job b run = HaveCovers job run (all_stretches job b run)

-- ---- names of events

-- a stretch begins and ends with an event by its lowest channel, or begins with the job or lasts
pub record HasLowNames (b : Board) (moves : List Move) (stretch : StretchView) : Type 0 where
  pub first : IfSome stretch.first (IsLowestName b moves)
  pub last : IfSome stretch.last (IsLowestName b moves)

abbrev pub HaveLowNames : JobView → Board → List Move → StretchesView → Type 0
HaveLowNames job b moves stretches = All (λ time. All (HasLowNames b moves) time.stretches) (zone_times job stretches)

abbrev pub EndsAreLowestNames : JobView → Board → RunView → Type 0
EndsAreLowestNames job b run = HaveLowNames job b (moves_in run.entries) (all_stretches job b run)

-- ---- how many boxes

-- a run of fewer steps and items than this; in a step at most as many channels go on as there may be
pub record IsOfSize (run : RunView) : Type 0 where
  pub entries : length run.entries < 2 ^ 20
  pub items : sum_by length run.items < 2 ^ 20
  pub goes : All (λ e. length e.goes ≤ CHANNEL_LIMIT) run.entries

-- the boxes of a zone
abbrev pub box_count : List StretchView → ℕ
box_count stretches = sum_by (λ stretch. length stretch.boxes) stretches

-- in such a run a zone has fewer boxes than this
abbrev pub BOX_LIMIT : ℕ
BOX_LIMIT = 2 ^ 25

abbrev pub AreFewBoxes : JobView → StretchesView → Type 0
AreFewBoxes job stretches = All (λ time. box_count time.stretches < BOX_LIMIT) (zone_times job stretches)

abbrev pub BoxesAreFew : JobView → StartView → RunView → Type 0
BoxesAreFew job start run = IsOfSize run → ComesFrom start run → AreFewBoxes job (all_stretches job (first_board start) run)

-- and fewer pairs are compared than a number of 64 bits can count
abbrev pub PairsAreFew : Order → JobView → StartView → RunView → Type 0
PairsAreFew before job start run = IsOfSize run → ComesFrom start run → length (compared_pairs before job (all_stretches job (first_board start) run)) < 2 ^ 64

-- ---- one order

-- two tests that both tell the order of the events let the same boxes be compared
abbrev pub OrdersCompareTheSame : Order → Order → JobView → Board → RunView → Type 0
OrdersCompareTheSame before other job b run =
    IsOrderOf b (moves_in run.entries) before → IsOrderOf b (moves_in run.entries) other
    → compared_pairs before job (all_stretches job b run) ≡ compared_pairs other job (all_stretches job b run)

-- ---- the order of stretches

-- the event comes after the one with which a stretch begins, where it does not begin with the job
abbrev pub IsAfter : Board → List Move → Option EventId → EventId → Type 0
IsAfter b moves None e = Unit {0}
IsAfter b moves (Some f) e = Before b moves f e

-- The time from this event on, or from the beginning of the job on, falls into these stretches: the first begins so, and ends with
-- a later event from which the time falls into the others, or lasts, and then there is no other.
abbrev pub AreInOrder : Board → List Move → Option EventId → List StretchView → Type 0
AreInOrder b moves from [] = ⊥
AreInOrder b moves from (stretch ∷ stretches) =
    (stretch.first ≡ from) × MatchOption stretch.last (stretches ≡ []) (λ e. IsAfter b moves from e × AreInOrder b moves (Some e) stretches)

-- the start has the zones of the job, each with its holder and its axes
pub record IsZoneOf (start : StartView) (zone : ZoneLine) : Type 0 where
  pub holder : first_holder start zone.zone ≡ zone.holder
  pub axes : (axis : ℕ) → has (axes_of_zone start zone.zone) axis ≡ has_axis zone axis

abbrev pub HasZones : JobView → StartView → Type 0
HasZones job start = All (IsZoneOf start) (zones_in_order job)

-- so does the time of each zone in a whole run from such a start
abbrev pub StretchesAscend : JobView → StartView → RunView → Type 0
StretchesAscend job start run =
    HasZones job start → ComesFrom start run
    → All (λ time. AreInOrder (first_board start) (moves_in run.entries) None time.stretches) (zone_times job (all_stretches job (first_board start) run))
