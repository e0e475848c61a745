-- Steps. What the worker of a channel has made of its grants, and which grants a channel has used in a history.
use Rattle.std.specs.Prelude.{◌≡◌, ℕ, ◌==◌, true, false, List, [], ◌∷◌, ◌++◌, map, Option, Some, None, IfSome, if◌then◌else◌}
use Rattle.channel_machine.specs.Grants.{grant_fits}
use Rattle.channel_machine.specs.Kept.{StateView}
use Rattle.channel_machine.specs.Locals.{IsKeptOf, IsReady}
use Rattle.channel_machine.specs.Run.{SegmentView}
use Rattle.channel_machine.specs.Scripts.{script_of, segment_after}
use Rattle.coord_core.specs.Desks.{Told, own_entries}
use Rattle.coord_core.specs.Histories.{answer_of}
use Rattle.coord_core.specs.declared.outcome.Outcome.TheVariants.{Granted, Done, Over}
use Rattle.job_types.specs.Job.{JobView}
use Rattle.sync_types.specs.Boards.{Board, first_board, grant_in}
use Rattle.sync_types.specs.Runs.{as_list}
use Rattle.sync_types.specs.Turns.{after_step}
use Rattle.sync_types.specs.Views.{EntryView, StartView}
use Rattle.sync_types.specs.declared.Grant.{Grant}
use Rattle.sync_types.specs.declared.Item.{Item}
use Rattle.sync_types.specs.declared.Step.{Step}

-- the segments of a channel that has got some grants, one for each of these further ones
abbrev pub segments_for : JobView → ℕ → List Grant → List Grant → List SegmentView
segments_for job c made [] = []
segments_for job c made (grant ∷ grants) = segment_after job c (made ++ grant ∷ []) ∷ segments_for job c (made ++ grant ∷ []) grants

-- the steps of a channel that has got some grants, one for each of these further ones; and what it does before each
abbrev pub steps_for : JobView → ℕ → List Grant → List Grant → List Step
steps_for job c made grants = map (λ segment. segment.step) (segments_for job c made grants)

abbrev pub items_for : JobView → ℕ → List Grant → List Grant → List (List Item)
items_for job c made grants = map (λ segment. segment.items) (segments_for job c made grants)

-- the worker of a channel: what the channel did before each of its steps, and what is kept of it after the last
pub record WorkedView : Type 0 where
  pub channel : ℕ
  pub items : List (List Item)
  pub last : Option StateView

-- it made of these grants what the script of the job makes of them
pub record IsWorked (job : JobView) (grants : List Grant) (w : WorkedView) : Type 0 where
  pub items : w.items ≡ items_for job w.channel [] grants
  pub kept : IsKeptOf job w.channel grants w.last

-- what is kept of the channel can go on
abbrev pub CanGoOn : JobView → WorkedView → Type 0
CanGoOn job w = IfSome w.last (IsReady job w.channel)

-- with one grant more, and the step that it made of it
pub record HasNoted (job : JobView) (before : WorkedView) (grant : Grant) (step : Step) (after : WorkedView) : Type 0 where
  pub channel : after.channel ≡ before.channel
  pub scripted : (grants : List Grant) → IsWorked job grants before → step ≡ script_of job before.channel (grants ++ grant ∷ [])
  pub worked : (grants : List Grant) → IsWorked job grants before → IsWorked job (grants ++ grant ∷ []) after

-- ---- in a history

-- the steps of a channel
abbrev pub own_steps : ℕ → List EntryView → List Step
own_steps c entries = map (λ e. e.step) (own_entries c entries)

-- the grants with which a channel makes its steps in these entries, from a board
abbrev pub grants_used : ℕ → Board → List EntryView → List Grant
grants_used c b [] = []
grants_used c b (e ∷ es) = if e.channel == c then as_list (grant_in (b.state c)) ++ grants_used c (after_step b e.channel e.step) es
    else grants_used c (after_step b e.channel e.step) es

-- a channel has in these entries the steps that the script of the job makes of the grants that it gets there
abbrev pub HasStepsOfScript : JobView → ℕ → StartView → List EntryView → Type 0
HasStepsOfScript job c start entries = own_steps c entries ≡ steps_for job c [] (grants_used c (first_board start) entries)

-- a worker made what these entries have of its channel, and what it keeps can go on
pub record HasMade (job : JobView) (start : StartView) (entries : List EntryView) (w : WorkedView) : Type 0 where
  pub steps : HasStepsOfScript job w.channel start entries
  pub worked : IsWorked job (grants_used w.channel (first_board start) entries) w
  pub ready : CanGoOn job w

-- ---- what a pass tells of its worker

-- a pass of this channel with which nothing was done yet
pub record IsFreshOf (c : ℕ) (told : Told) : Type 0 where
  pub channel : told.channel ≡ c
  pub nothing : told.seen.entries ≡ []

abbrev pub TellsNothingYet : ℕ → Option Told → Type 0
TellsNothingYet c None = Unit {0}
TellsNothingYet c (Some told) = IsFreshOf c told

-- the same pass later: what the history that it has seen has of its channel is of the script
pub record IsOwnLater (job : JobView) (c : ℕ) (before after : Told) : Type 0 where
  pub channel : after.channel ≡ c
  pub start : after.start ≡ before.start
  pub steps : HasStepsOfScript job c after.start after.seen.entries

-- where the pass tells, the worker has made what the pass has seen of the channel
abbrev pub TellsMade : JobView → WorkedView → Option Told → Type 0
TellsMade job w None = Unit {0}
TellsMade job w (Some told) = HasMade job told.start told.seen.entries w

-- Why a worker ends without an error, after what its pass has seen of the board: its channel has ended or was stopped by an alarm; or it waits or
-- has not started, and no channel runs; or it runs with a grant that does not fit what is kept of it.
pub data HasReasonToEnd (job : JobView) (w : WorkedView) (told : Told) : Type 0 where
  AtDone : answer_of told.start told.seen told.channel ≡ Some Done → HasReasonToEnd job w told
  AtOver : answer_of told.start told.seen told.channel ≡ Some Over → HasReasonToEnd job w told
  AtMisfit : (grant : Grant) → answer_of told.start told.seen told.channel ≡ Some (Granted grant) → grant_fits job w.last grant ≡ false
      → HasReasonToEnd job w told

abbrev pub TellsReason : JobView → WorkedView → Option Told → Type 0
TellsReason job w None = Unit {0}
TellsReason job w (Some told) = HasReasonToEnd job w told

-- where the pass tells, it has not seen the board closed
abbrev pub TellsOpen : Option Told → Type 0
TellsOpen None = Unit {0}
TellsOpen (Some told) = told.seen.closed ≡ false

-- where the pass tells, it has seen the board closed
abbrev pub TellsShut : Option Told → Type 0
TellsShut None = Unit {0}
TellsShut (Some told) = told.seen.closed ≡ true
