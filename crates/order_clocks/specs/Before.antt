-- Meaning. Which event of a run is before which, however fast each channel is.
use Rattle.std.specs.Prelude.{◌≡◌, ℕ, ◌+◌, ◌*◌, ◌<◌, ◌≤◌, true, false, List, if◌then◌else◌}
use Rattle.order_clocks.specs.Chains.{IsIn, Leads}
use Rattle.order_clocks.specs.Happenings.{Key, Raised, Freed, Started, Ended, Happening, happening_at, gives, going_of, rests_on}
use Rattle.sync_types.specs.Boards.{Board}
use Rattle.sync_types.specs.Events.{AreOne}
use Rattle.sync_types.specs.Turns.{Move}
use Rattle.sync_types.specs.declared.runs.EventId.{EventId}

-- in a step the act comes first, then all that go on
abbrev pub moment : EventId → ℕ
moment e = 2 * e.step + (if e.go then 1 else 0)

-- the last act up to this step that gives the key
pub record IsLastGift (happening : ℕ → Happening) (key : Key) (step upto : ℕ) : Type 0 where
  pub given : gives (happening step) key ≡ true
  pub up : step ≤ upto
  pub none_later : (i : ℕ) → step < i → i ≤ upto → gives (happening i) key ≡ false

-- one that goes on rests on the key, and the act is the last up to that step that gives it
pub record Gives (b : Board) (moves : List Move) (key : Key) (e f : EventId) : Type 0 where
  pub act : e.go ≡ false
  pub going : f.go ≡ true
  pub rests : IsIn key (rests_on (going_of (happening_at b moves f.step).goings f.channel))
  pub last : IsLastGift (happening_at b moves) key e.step f.step

-- the rules by which one event is before another
pub data Rule (b : Board) (moves : List Move) (e f : EventId) : Type 0 where
  -- the order within a channel
  InChannel : e.channel ≡ f.channel → moment e < moment f → Rule b moves e f
  -- the act that raised a mark, to one that goes on and needed it
  RaisedMark : (c m : ℕ) → Gives b moves (Raised c m) e f → Rule b moves e f
  -- the RELEASE of an axis, to the end of the GET that took it
  FreedAxis : (x : ℕ) → Gives b moves (Freed x) e f → Rule b moves e f
  -- the START of a channel, to its start
  StartedChannel : (c : ℕ) → Gives b moves (Started c) e f → Rule b moves e f
  -- a program end, to the end of a WAITE that names its channel
  EndedProgram : (c : ℕ) → Gives b moves (Ended c) e f → Rule b moves e f

-- neighbours: a rule leads from some name of the one event to some name of the other
pub record Follows (b : Board) (moves : List Move) (e f : EventId) : Type 0 where
  pub from : EventId
  pub to : EventId
  pub left : AreOne b moves e from
  pub right : AreOne b moves to f
  pub rule : Rule b moves from to

-- a list of at least two events leads from the one to the other, each a neighbour of the one before it
abbrev pub Before : Board → List Move → EventId → EventId → Type 0
Before b moves e f = Leads (Follows b moves) e f
