-- Steps. Marks and waits as the code keeps them from step to step, and a step as it reads it.
use Rattle.axis_sets.specs.declared.limits.TheConstants.{AXIS_LIMIT, MARK_LIMIT}
use Rattle.std.specs.Prelude.{◌≡◌, ℕ, ◌<◌, ◌≤◌, ◌==◌, ◌&&◌, not, Bool, true, false, List, [], map, Option, Some, None, is_some, find, slice_index, slice_index_or, length}
use Rattle.axis_sets.specs.Positions.{position_of}
use Rattle.axis_sets.specs.Sets.{has, members_of}
use Rattle.order_clocks.specs.Groups.{labels}
use Rattle.order_clocks.specs.Happenings.{Happening, going_of}
use Rattle.order_clocks.specs.declared.acts.Act.{Act}
use Rattle.step_deeds.specs.declared.deed.StepEvents.{StepEvents}
use Rattle.step_deeds.specs.declared.deed.Wakeup.{Wakeup}
use Rattle.step_deeds.specs.declared.deed.Hold.TheVariants.{Marks, Ends, Axes}
use Rattle.step_deeds.specs.declared.deed.Hold as code
use Rattle.step_deeds.specs.declared.deed.WaitAt.{WaitAt}
use Rattle.order_clocks.specs.declared.watch.BoardReplay.{BoardReplay}
use Rattle.sync_types.specs.BoardActions.{marks_after, hold_of, axes_to_free, channels_to_start}
use Rattle.sync_types.specs.BoardAlarms.{alarm_of}
use Rattle.sync_types.specs.Boards.{Hold, AtMarks, AtEnds, AtAxes, State, IsHolding, Board, among, is_running}
use Rattle.sync_types.specs.Events.{pairs_of}
use Rattle.sync_types.specs.GoingOn.{Going, go_of, waits_for_axes, axes_asked}
use Rattle.sync_types.specs.Turns.{goings_in_step}
use Rattle.sync_types.specs.declared.Action.{Action}
use Rattle.sync_types.specs.declared.Step.{Step}
use Rattle.sync_types.specs.declared.runs.Go.{Go}
use Rattle.sync_types.specs.declared.Action.TheVariants.{End}
use Rattle.step_deeds.specs.Holds.{departure_of, goes_in, is_at_axes}

-- for what a channel waits, and at which line; none where it does not wait
abbrev pub wait_in : State → Option (Hold × ℕ)
wait_in (IsHolding hold line) = Some (hold, line)
wait_in other = None

-- the same of what the code keeps
abbrev pub hold_shown : code.Hold → Hold
hold_shown (Marks m named) = AtMarks m (members_of named)
hold_shown (Ends named) = AtEnds (members_of named)
hold_shown (Axes axes) = AtAxes false (members_of axes)

abbrev pub begun_shown : Option code.Hold → Option Hold
begun_shown (Some hold) = Some (hold_shown hold)
begun_shown None = None

abbrev pub wait_shown : Option WaitAt → Option (Hold × ℕ)
wait_shown (Some held) = Some (hold_shown held.hold, held.line)
wait_shown None = None

-- what the code keeps is what the board has
pub record Keeps (w : BoardReplay) (b : Board) : Type 0 where
  pub marks : (c m : ℕ) → has (slice_index_or w.marks c []) m ≡ b.marks c m
  pub holds : (c : ℕ) → wait_shown (slice_index_or w.holds c None) ≡ wait_in (b.state c)

abbrev pub is_end : Action → Bool
is_end End = true
is_end other = false

-- what an action that does not alarm changes
pub record IsAct (act : Act) (c : ℕ) (own : ℕ → Bool) (action : Action) : Type 0 where
  pub raises : (m : ℕ) → has act.raises m ≡ (marks_after own action m && not (own m))
  pub lowers : (m : ℕ) → has act.lowers m ≡ (own m && not (marks_after own action m))
  pub frees : (x : ℕ) → has act.frees x ≡ among (axes_to_free action) x
  pub starts : (d : ℕ) → has act.starts d ≡ among (channels_to_start action) d
  pub ends : act.ends ≡ is_end action
  pub begins : begun_shown act.begins ≡ hold_of c action

-- an action that alarms changes nothing
pub record IsNoAct (act : Act) : Type 0 where
  pub raises : (m : ℕ) → has act.raises m ≡ false
  pub lowers : (m : ℕ) → has act.lowers m ≡ false
  pub frees : (x : ℕ) → has act.frees x ≡ false
  pub starts : (d : ℕ) → has act.starts d ≡ false
  pub ends : act.ends ≡ false
  pub begins : begun_shown act.begins ≡ None

-- who goes on as the code reads it: from which wait, and the axes that it took
pub record IsGoing (gone : Wakeup) (g : Going) : Type 0 where
  pub from : wait_shown gone.held ≡ wait_in g.from
  pub took : (x : ℕ) → has gone.took x ≡ among g.took x

abbrev pub IsGoingOf : Option Wakeup → Option Going → Type 0
IsGoingOf (Some gone) (Some g) = IsGoing gone g
IsGoingOf (Some gone) None = ⊥
IsGoingOf None (Some g) = ⊥
IsGoingOf None None = Unit {0}

-- the deed is what happens
pub record IsRead (deed : StepEvents) (h : Happening) : Type 0 where
  pub channel : deed.channel ≡ h.channel
  pub line : deed.line ≡ h.line
  pub raises : (m : ℕ) → has deed.raises m ≡ h.raises m
  pub lowers : (m : ℕ) → has deed.lowers m ≡ h.lowers m
  pub frees : (x : ℕ) → has deed.frees x ≡ among h.frees x
  pub starts : (c : ℕ) → has deed.starts c ≡ among h.starts c
  pub ends : deed.ends ≡ h.ends
  pub touches : (c : ℕ) → has deed.touches c ≡ among h.touches c
  pub begins : begun_shown deed.begins ≡ h.begins
  pub goings : (c : ℕ) → IsGoingOf (departure_of deed c) (going_of h.goings c)
  pub group : (c d : ℕ) → goes_in deed c ≡ true → goes_in deed d ≡ true
      → (labels (pairs_of h.goings) d == labels (pairs_of h.goings) c) ≡ (slice_index deed.group d == slice_index deed.group c)

-- the step is one of a running channel, these go on in it, and this is whether it alarms
pub record IsLawful (b : Board) (c : ℕ) (step : Step) (goes : List Go) (alarms : Bool) : Type 0 where
  pub running : is_running (b.state c) ≡ true
  pub goings : goes ≡ map go_of (goings_in_step b c step)
  pub alarm : alarms ≡ is_some (alarm_of b c step.action)

-- who goes on goes from its wait on this board; where it waited for axes its grant has the positions of
-- those that it took, and it took none but those for which it waited
pub record GoesFrom (b : Board) (g : Going) : Type 0 where
  pub from : wait_in g.from ≡ wait_in (b.state g.channel)
  pub positions : waits_for_axes g.from ≡ true → (x : ℕ) → x < AXIS_LIMIT → is_some (position_of g.grant.at x) ≡ among g.took x
  pub past : waits_for_axes g.from ≡ true → (x : ℕ) → AXIS_LIMIT ≤ x → is_some (position_of g.grant.at x) ≡ false
  pub took : (x : ℕ) → among g.took x ≡ true → among (axes_asked g.from) x ≡ true

-- who goes on goes from where the code has it wait, and took the axes of which its grant has positions
abbrev pub IsGone : Option Wakeup → Option WaitAt → Option Go → Type 0
IsGone (Some gone) held (Some go) = (gone.held ≡ held) × ((x : ℕ) → has gone.took x ≡ (is_at_axes held && is_some (position_of go.grant.at x)))
IsGone (Some gone) held None = ⊥
IsGone None held (Some go) = ⊥
IsGone None held None = Unit {0}

-- the going on of a channel among these
abbrev pub go_in : List Go → ℕ → Option Go
go_in goes c = find (λ go. go.channel == c) goes

-- the wait that begins at this line, or the old one
abbrev pub begun_at : Option code.Hold → ℕ → Option WaitAt → Option WaitAt
begun_at (Some hold) line old = Some (record { hold = hold; line = line })
begun_at None line old = old

-- marks have their numbers, and sets of axes their size
abbrev pub HoldIsSound : code.Hold → Type 0
HoldIsSound (Marks m named) = m < MARK_LIMIT
HoldIsSound (Ends named) = Unit {0}
HoldIsSound (Axes axes) = length axes ≡ AXIS_LIMIT

abbrev pub BeginIsSound : Option code.Hold → Type 0
BeginIsSound (Some hold) = HoldIsSound hold
BeginIsSound None = Unit {0}

abbrev pub WaitIsSound : Option WaitAt → Type 0
WaitIsSound (Some held) = HoldIsSound held.hold
WaitIsSound None = Unit {0}

pub record WatchIsSound (w : BoardReplay) : Type 0 where
  pub holds : (c : ℕ) → WaitIsSound (slice_index_or w.holds c None)
  pub none : slice_index_or w.holds 0 None ≡ None
