-- Steps. How what the workers have made is put together: what each leaves, and the items of each entry.
use Rattle.std.specs.Prelude.{◌≡◌, ℕ, ◌==◌, false, List, [], ◌∷◌, ◌++◌, drop, length, slice_index_or, slice_set, Option, Some, None, IfSome, if◌then◌else◌}
use Rattle.axis_sets.specs.declared.limits.TheConstants.{CHANNEL_PLACES}
use Rattle.channel_machine.specs.Kept.{KeptSegment, StateView}
use Rattle.channel_machine.specs.Locals.{IsKeptOf, IsReady, IsSegmentOf}
use Rattle.coord_core.specs.Boards.{BoardView, HaveSameEntries, with_step}
use Rattle.job_types.specs.Job.{JobView}
use Rattle.parallel_run.specs.Workers.{WorkedView, HasMade, HasStepsOfScript, grants_used, items_for}
use Rattle.sync_types.specs.Boards.{first_board}
use Rattle.sync_types.specs.Turns.{AreEntries}
use Rattle.sync_types.specs.Views.{EntryView, StartView}
use Rattle.sync_types.specs.declared.Grant.{Grant}
use Rattle.sync_types.specs.declared.Item.{Item}

-- what all workers leave: for each channel, by its number, what it did before each step, and what is kept of it
pub record PartsView : Type 0 where
  pub rows : List (List (List Item))
  pub locals : List (Option StateView)

-- each has a place for each number of a channel
pub record HasPlaces (parts : PartsView) : Type 0 where
  pub rows : length parts.rows ≡ CHANNEL_PLACES
  pub locals : length parts.locals ≡ CHANNEL_PLACES

-- what a worker leaves stands at its channel, and the others are as before
pub record HasPut (before : PartsView) (w : WorkedView) (after : PartsView) : Type 0 where
  pub rows : after.rows ≡ slice_set before.rows w.channel w.items
  pub locals : after.locals ≡ slice_set before.locals w.channel w.last

-- a worker of a channel that has got nothing
abbrev pub nobody : ℕ → WorkedView
nobody c = record { channel = c; items = []; last = None }

-- what stands at the channel of a worker is what it leaves
pub record HasPart (w : WorkedView) (parts : PartsView) : Type 0 where
  pub rows : slice_index_or parts.rows w.channel [] ≡ w.items
  pub local : slice_index_or parts.locals w.channel None ≡ w.last

-- nothing stands at a channel
abbrev pub HasNothingAt : ℕ → PartsView → Type 0
HasNothingAt c parts = HasPart (nobody c) parts

-- what stands at a channel is of a worker that made what these entries have of it
pub record LeavesOf (job : JobView) (start : StartView) (entries : List EntryView) (c : ℕ) (parts : PartsView) : Type 0 where
  pub worker : WorkedView
  pub channel : worker.channel ≡ c
  pub made : HasMade job start entries worker
  pub part : HasPart worker parts

-- rows of items by the numbers of channels
abbrev pub Rows : Type 0
Rows = ℕ → List (List Item)

abbrev pub rows_at : List (List (List Item)) → Rows
rows_at rows c = slice_index_or rows c []

-- the first row of a channel, or none
abbrev pub first_row : List (List Item) → List Item
first_row rows = slice_index_or rows 0 []

abbrev pub without_first : Rows → ℕ → Rows
without_first rows c d = if d == c then drop 1 (rows d) else rows d

-- each entry has the next row of its channel
abbrev pub dealt : Rows → List EntryView → List (List Item)
dealt rows [] = []
dealt rows (e ∷ es) = first_row (rows e.channel) ∷ dealt (without_first rows e.channel) es

-- ---- what goes on

-- what is kept of each channel can go on
pub record AreReady (job : JobView) (locals : List (Option StateView)) : Type 0 where
  pub places : length locals ≡ CHANNEL_PLACES
  pub each : (c : ℕ) → IfSome (slice_index_or locals c None) (IsReady job c)

-- Each channel has the steps that the script makes of the grants with which the entries are made, the rows are its items before them, and this is
-- kept of it after them.
pub record IsMadeByScript (job : JobView) (start : StartView) (es : List EntryView) (rows : List (List Item)) (locals : List (Option StateView)) : Type 0 where
  pub lawful : AreEntries (first_board start) es
  pub steps : (c : ℕ) → HasStepsOfScript job c start es
  pub items : rows ≡ dealt (λ c. items_for job c [] (grants_used c (first_board start) es)) es
  pub kept : (c : ℕ) → IsKeptOf job c (grants_used c (first_board start) es) (slice_index_or locals c None)

-- a channel makes its next segment and its step: the board, the items of the entries and what is kept before and after
pub record IsTurn (job : JobView) (c : ℕ) (grant : Grant) (board : BoardView) (rows : List (List Item)) (locals : List (Option StateView))
    (board_after : BoardView) (rows_after : List (List Item)) (locals_after : List (Option StateView)) : Type 0 where
  pub segment : KeptSegment
  pub told : (made : List Grant) → IsKeptOf job c made (slice_index_or locals c None) → IsSegmentOf job c (made ++ grant ∷ []) segment
  pub ready : IsReady job c segment.after
  pub acted : HaveSameEntries board_after (with_step board c segment.step)
  pub items : rows_after ≡ rows ++ segment.items ∷ []
  pub here : slice_index_or locals_after c None ≡ Some segment.after
  pub others : (d : ℕ) → (d == c) ≡ false → slice_index_or locals_after d None ≡ slice_index_or locals d None
